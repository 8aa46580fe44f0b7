use Rattle.std.proofs.Common.{ap, ◌∙◌}
use Rattle.std.proofs.lemmas.Result.{IfOk-weaker}
use Rattle.brisk_state.specs.Symbolic.{partner_of, thread_named}
use Rattle.brisk_quiet.specs.declared.question.Question.{Question}
use Rattle.brisk_quiet.specs.Quiet.{walk}
use Rattle.brisk_quiet.proofs.Walks.{all_left, answered}
use Rattle.brisk_quiet.proofs.quietness.quiet.Goals as goal

pub returns : goal.returns
returns c =
    let asked : Question = record { state = c.args.state; member = c.args.member; receiver = c.args.receiver; channel = c.args.channel } in
    let named = c.partner-partner.ensures ∙ ap (λ ts. partner_of (thread_named ts c.args.receiver)) c.threads.ensures.threads in
    let begins = all_left asked c.new-taken.result c.new-taken.ensures in
    IfOk-weaker c.in_code.result _ _ (λ s h. answered s _ _ (h ∙ (λ i. walk (named i) c.args.channel c.args.code.now (begins i)))) c.in_code.ensures
