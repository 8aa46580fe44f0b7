use Rattle.std.proofs.Common.{Some, sym, ap, ◌∙◌}
use Rattle.std.specs.Option.{option_copied}
use Rattle.std.specs.Prelude.{option_map}
use Rattle.brisk_syntax.specs.Statements.{statement_of}
use Rattle.brisk_state.specs.Symbolic.{code_at}
use Rattle.brisk_derivation.specs.declared.steps.BasicStep.TheVariants.{Take}
use Rattle.brisk_loops.specs.Walk.{follows}
use Rattle.brisk_loops.specs.WalkSeen.{fault_by}
use Rattle.brisk_rules.specs.Derives.{apply_quietly, rule_of}
use Rattle.brisk_search.specs.Views.{at_walk}
use Rattle.brisk_search.specs.declared.standing.Next.TheVariants.{Sender}
use Rattle.brisk_search.proofs.Candidates.{passes_on}
use Rattle.brisk_search.proofs.standing.next_to.Goals as goal

pub returns-in-Some-2 : goal.returns-in-Some-2
returns-in-Some-2 c =
    ap (λ u. Sender u) c.thread_of-from.ensures
    ∙ passes_on (at_walk c.args.walk.now) c.args.walk.now.state c.args.name c.in-Some.code.now c.in-Some-Recv.channel _ c.in-Some-Recv.who c.in-Some-2.field-0
    (ap (λ S. code_at S c.args.name) (sym c.state.ensures) ∙ sym c.active.ensures ∙ ap option_copied c.in-Some.is)
    (sym c.first.ensures ∙ ap (λ o. option_map statement_of (option_copied o)) c.in-Some-Recv.is ∙ ap (λ s. Some (statement_of s)) c.in-Some-Recv.field-0-is)
    (ap (λ u. fault_by (apply_quietly c.args.walk.now.program (follows c.args.walk.now.entered) c.args.walk.now.state (rule_of (Take u c.args.name c.in-Some-Recv.channel)))) (sym c.thread_of-from.ensures) ∙ sym c.in_ok-refusal-in-Some-Recv.ensures ∙ c.in-Some-2.is)
