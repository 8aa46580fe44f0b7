use Rattle.std.proofs.Common.{sym, ap, ◌∙◌, subst}
use Rattle.std.specs.Prelude.{IfOk}
use Rattle.brisk_search.specs.declared.standing.Head.TheVariants.{While}
use Rattle.brisk_search.specs.Met.{MeetsAttempt}
use Rattle.brisk_search.specs.Views.{at_walk, last_rule}
use Rattle.brisk_search.proofs.calls.at_last.Goals as goal

pub returns-else-is_false : goal.returns-else-is_false
returns-else-is_false c =
    let w = c.args.walk.now in
    subst (λ h. IfOk c.basically.result (λ t. MeetsAttempt c.args.limits.now.budget (last_rule (at_walk w) w.state c.args.name h) t w c.basically.new.walk)) (sym (c.in-While.is ∙ ap (λ b. While b) c.if-is_false.false)) c.basically.ensures
