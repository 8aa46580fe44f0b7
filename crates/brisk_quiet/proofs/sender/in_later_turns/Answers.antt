use Rattle.std.proofs.Common.{◌≡◌, Some, sym, ap, ◌∙◌}
use Rattle.brisk_syntax.specs.Statements.{statement_of}
use Rattle.brisk_syntax.specs.Segments.{head_of, rest_of}
use Rattle.brisk_syntax.specs.Syntax.{For}
use Rattle.brisk_quiet.specs.Left.{left_after}
use Rattle.brisk_quiet.specs.Quiet.{Ends, unless_sends, under, walk}
use Rattle.brisk_quiet.specs.Sender.{unsent}
use Rattle.brisk_quiet.proofs.LeftOut.{goes_behind, later}
use Rattle.brisk_quiet.proofs.sender.in_later_turns.Goals as goal

pub returns : goal.returns
returns c =
    let p = c.args.receiver.now in let ch = c.args.asked.now.channel in let code = c.args.code.now in let left = left_after c.args.asked.now c.args.taken.now in let l = c.in-Some-For.l in
    let first : Some (For l.binder l.set l.turn l.body.value) ≡ head_of code = ap (λ s. Some (statement_of s)) (sym c.in-Some-For.field-0-is) ∙ c.in-Some-For.ensures in
    let body = c.in_ok-body.ensures ∙ ap (unsent l.binder) c.deref.ensures in
    let loop = c.in_ok-in_loop.ensures ∙ (λ i. unless_sends (walk (c.under.ensures i) ch (body i) left) (Ends left)) in
    c.in_ok-stillness-in_default-2.ensures
    ∙ ap (λ d. walk p ch d left) (c.skip.ensures ∙ ap rest_of c.in_ok-rest-in_default-2.ensures)
    ∙ goes_behind c.in_ok-in_loop.field-0 left (walk (under l.binder p) ch (unsent l.binder l.body.value) left) (walk p ch (rest_of code) left) c.in_default-2.not-Sends loop
    ∙ sym (later p ch code left l.binder l.set l.turn l.body.value first)
