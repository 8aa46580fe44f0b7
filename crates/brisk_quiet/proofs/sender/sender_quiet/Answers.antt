use Rattle.std.proofs.Common.{sym, ap, ◌∙◌}
use Rattle.brisk_state.specs.Symbolic.{partner_of, thread_named}
use Rattle.brisk_quiet.specs.declared.question.Question.{Question}
use Rattle.brisk_quiet.specs.Left.{came, left_after}
use Rattle.brisk_quiet.specs.Quiet.{on_end, walk}
use Rattle.brisk_quiet.specs.Sender.{walk_pieces}
use Rattle.brisk_quiet.proofs.LeftOut.{stops_there}
use Rattle.brisk_quiet.proofs.Walks.{all_left, answered}
use Rattle.brisk_quiet.proofs.sender.sender_quiet.Goals as goal

pub returns-in-Ends : goal.returns-in-Ends
returns-in-Ends c =
    let asked : Question = record { state = c.args.state; member = c.args.sender; receiver = c.args.receiver; channel = c.args.channel } in
    let named = c.partner-partner.ensures ∙ ap (λ ts. partner_of (thread_named ts c.args.receiver)) c.threads.ensures.threads in
    let begins = all_left asked c.new-taken.result c.new-taken.ensures in
    let left = left_after asked c.in_code.new.taken in
    let walked = c.in_ok-stillness.ensures ∙ (λ i. walk (named i) c.args.channel c.args.code.now (begins i)) in
    answered c.in_ok-behind-in-Ends.behind _ _
    (c.in_ok-behind-in-Ends.ensures
    ∙ ap (λ p. walk_pieces p c.args.receiver c.args.channel c.args.pieces.now left) named
    ∙ ap (λ w. on_end w (walk_pieces (partner_of (thread_named c.args.state.now.threads c.args.receiver)) c.args.receiver c.args.channel c.args.pieces.now)) (ap (λ s. came s left) (sym c.in-Ends.is) ∙ walked))

pub returns : goal.returns
returns c =
    let asked : Question = record { state = c.args.state; member = c.args.sender; receiver = c.args.receiver; channel = c.args.channel } in
    let named = c.partner-partner.ensures ∙ ap (λ ts. partner_of (thread_named ts c.args.receiver)) c.threads.ensures.threads in
    let begins = all_left asked c.new-taken.result c.new-taken.ensures in
    let left = left_after asked c.in_code.new.taken in
    let walked = c.in_ok-stillness.ensures ∙ (λ i. walk (named i) c.args.channel c.args.code.now (begins i)) in
    answered c.in_ok-stillness.stillness _ _
    (stops_there c.in_ok-stillness.stillness left _ (walk_pieces (partner_of (thread_named c.args.state.now.threads c.args.receiver)) c.args.receiver c.args.channel c.args.pieces.now) c.in_default.not-Ends walked)
