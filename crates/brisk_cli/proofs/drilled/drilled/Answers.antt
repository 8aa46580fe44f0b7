use Rattle.std.proofs.Common.{◌≤◌, ◌∙◌, List, ℕ, length, refl, sym, subst}
use Rattle.std.proofs.lemmas.Result.{err_from_is_err_and}
use Rattle.brisk_types.proofs.Agreeing.{is_typed}
use Rattle.brisk_search.specs.Searched.{Searched}
use Rattle.brisk_cli.specs.declared.status.Status.TheVariants.{Done}
use Rattle.brisk_cli.specs.Answers.{IsDue, source_limit}
use Rattle.brisk_cli.specs.Drills.{OfDrill, drill_line, summary}
use Rattle.brisk_cli.specs.Rewriting.{IsUnsequenced, OfSearched, search_of}
use Rattle.brisk_cli.proofs.Drilling.{drill_short}
use Rattle.brisk_cli.proofs.Drills.{drill_told, unsequenced_due}
use Rattle.brisk_cli.proofs.Stages.{told_answer}
use Rattle.brisk_cli.proofs.Unbegun.{tagged, unbegun}
use Rattle.brisk_cli.proofs.drilled.drilled.Goals as goal

pub source-requires : goal.source-requires
source-requires c =
    subst (λ (t : List ℕ). length t ≤ source_limit) (sym (c.deref.ensures.value ∙ c.in_ok-text.ensures)) (drill_short c.args.number c.requires.some c.requires.few)

pub sequenced-requires-clause-typed : goal.sequenced-requires-clause-typed
sequenced-requires-clause-typed c = is_typed c.in_ok-program.program c.in_ok-program.ensures.holds.typed

pub sequenced-requires-clause-unbegun : goal.sequenced-requires-clause-unbegun
sequenced-requires-clause-unbegun c = unbegun c.in_ok-program.program c.in_ok-program.ensures.holds.answer.levelled

pub sequenced-requires-clause-tagged : goal.sequenced-requires-clause-tagged
sequenced-requires-clause-tagged c = tagged c.in_ok-program.program c.in_ok-program.ensures.holds.answer.levelled

pub returns-in_err-steps-clause-due : goal.returns-in_err-steps-clause-due
returns-in_err-steps-clause-due c = λ misses misses' faults faults'.
    let p = err_from_is_err_and c.from_residual-in_err-steps.result c.from_residual-in_err-steps.ensures.1 in
    told_answer (IsUnsequenced c.in_ok-program.program) (λ s t. IsDue misses misses' faults faults' s) (unsequenced_due c.in_ok-program.program misses misses' faults faults') c.from_residual-in_err-steps.result c.in_err-steps.field-0.0 p.0 p.1 p.2 c.in_err-steps.ensures.told

pub returns-in_err-steps-clause-told : goal.returns-in_err-steps-clause-told
returns-in_err-steps-clause-told c =
    let p = err_from_is_err_and c.from_residual-in_err-steps.result c.from_residual-in_err-steps.ensures.1 in
    let P = c.in_ok-program.program in
    told_answer (IsUnsequenced P) (OfDrill c.args.number) (λ s t h. drill_told c.args.number P c.deref.result.now (c.deref.ensures.value ∙ c.in_ok-text.ensures) c.in_ok-program.ensures.holds s t (h (λ D Q. summary c.args.number P D))) c.from_residual-in_err-steps.result c.in_err-steps.field-0.0 p.0 p.1 p.2 c.in_err-steps.ensures.told

pub returns-clause-told : goal.returns-clause-told
returns-clause-told c =
    let P = c.in_ok-program.program in let t = c.in_ok-line.line.items in
    drill_told c.args.number P c.deref.result.now (c.deref.ensures.value ∙ c.in_ok-text.ensures) c.in_ok-program.ensures.holds Done t (subst (λ (o : Searched). OfSearched (λ D Q. summary c.args.number P D) P o Done t) (sym c.in_ok-steps.ensures.found) (refl, c.in_ok-line.ensures ∙ (λ i. drill_line c.args.number (c.roles.ensures i) (c.statements.ensures i) (c.count_steps.ensures i))))
