use Rattle.std.proofs.Common.{◌≡◌, ◌+◌, ◌-◌, ◌<◌, rules, sym, ap, ◌∙◌, arith}
use Rattle.brisk_syntax.specs.Segments.{code_from_place, code_length}
use Rattle.brisk_syntax.specs.Statements.{statement_of}
use Rattle.brisk_quiet.specs.Left.{came, left_after}
use Rattle.brisk_quiet.specs.Quiet.{walk}
use Rattle.brisk_quiet.proofs.Walks.{at_place, at_end, before_end, goes_on, stops}
use Rattle.brisk_quiet.proofs.walk.in_code.Goals as goal

pub returns-in_default-2 : goal.returns-in_default-2
returns-in_default-2 c =
    let r = c.args.receiver.now in let ch = c.args.asked.now.channel in let code = c.args.code.now in let k = c.loop-statement.place in
    let s = statement_of c.in-Some.statement.now in let left = left_after c.args.asked.now c.loop-statement.taken in
    stops r ch s (code_from_place (k + 1) code) left (left_after c.args.asked.now c.in_statement.new.taken) c.in_ok-stillness.stillness c.in_default-2.not-Ends c.in_ok-stillness.ensures
    ∙ ap (λ d. walk r ch d left) (sym (at_place k code s c.in-Some.ensures))
    ∙ c.loop-statement.invariant

pub loop-statement-smaller : goal.loop-statement-smaller
loop-statement-smaller c =
    let k = c.loop-statement.place in
    let next : c.in_ok-place.place ≡ k + 1 = search rules in
    let within : k < code_length c.args.code.now = before_end k c.args.code.now (statement_of c.in-Some.statement.now) c.in-Some.ensures in
    let smaller : code_length c.args.code.now - c.in_ok-place.place < code_length c.args.code.now - k = omega (arith, next, within) in smaller

pub loop-statement-preserved : goal.loop-statement-preserved
loop-statement-preserved c =
    let r = c.args.receiver.now in let ch = c.args.asked.now.channel in let code = c.args.code.now in let k = c.loop-statement.place in
    let s = statement_of c.in-Some.statement.now in
    let left = left_after c.args.asked.now c.loop-statement.taken in let more = left_after c.args.asked.now c.in_statement.new.taken in
    let next : c.in_ok-place.place ≡ k + 1 = search rules in
    ap (λ n. walk r ch (code_from_place n code) more) next
    ∙ goes_on r ch s (code_from_place (k + 1) code) left more (ap (λ t. came t more) (sym c.in-Ends.is) ∙ c.in_ok-stillness.ensures)
    ∙ ap (λ d. walk r ch d left) (sym (at_place k code s c.in-Some.ensures))
    ∙ c.loop-statement.invariant

pub returns : goal.returns
returns c =
    let r = c.args.receiver.now in let ch = c.args.asked.now.channel in let code = c.args.code.now in let k = c.loop-statement.place in
    ap (λ d. walk r ch d (left_after c.args.asked.now c.loop-statement.taken)) (sym (at_end k code c.in_default.ensures))
    ∙ c.loop-statement.invariant
