use Rattle.std.proofs.Common.{◌≡◌, false, sym, subst, ◌∙◌, Option, Some, None}
use Rattle.std.specs.FinMap as map
use Rattle.std.specs.Prelude.{is_none, IfSome, IsSome, IsTrue, ◌↔◌}
use Rattle.brisk_async.specs.declared.event.Event.{Event}
use Rattle.brisk_async.specs.declared.fault.StepFault.{StepFault}
use Rattle.brisk_async.specs.Machine.{State, step}
use Rattle.brisk_async.specs.Refusals.{refusal}
use Rattle.brisk_async.specs.States.{Kept, is_process, state_of}
use Rattle.brisk_syntax.specs.Syntax.{done}
use Rattle.brisk_async.proofs.Maps.{absent_done}
use Rattle.brisk_async.proofs.Refused.{a_refusal, enabled_iff}
use Rattle.brisk_async.proofs.machine.Machine.refusal.Goals as goal

pub returns-clause-none : goal.returns-clause-none
returns-clause-none c =
    let m = c.self.inside in let e = c.args.event.now in
    let before : Kept = record { program = m.program; sizes = m.sizes; codes = m.codes; store = m.store; mail = m.mail } in
    let blocks : (o : Option StepFault) → o ≡ refusal (state_of before) e → IfSome o (λ _. step (state_of before) e ≡ None) =
    by_cases (state_of before) e (λ none. absent_done (map.get m.codes e.process) (c.self.invariant e.process ∙ none)) in
    subst (λ (k : Kept). (o : Option StepFault) → o ≡ refusal (state_of k) e → IfSome o (λ _. step (state_of k) e ≡ None)) c.self.view_is blocks c.first_failure.result c.first_failure.ensures
  where
    by_cases : (s : State) (e : Event) → (is_process s.program s.sizes e.process ≡ false → s.code e.process ≡ done) → (o : Option StepFault) → o ≡ refusal s e → IfSome o (λ _. step s e ≡ None)
    by_cases s e absent None h = tt
    by_cases s e absent (Some f) h = a_refusal s e f absent (sym h)

pub returns-clause-some : goal.returns-clause-some
returns-clause-some c =
    let m = c.self.inside in let e = c.args.event.now in
    let before : Kept = record { program = m.program; sizes = m.sizes; codes = m.codes; store = m.store; mail = m.mail } in
    let iff = enabled_iff (state_of before) e (λ none. absent_done (map.get m.codes e.process) (c.self.invariant e.process ∙ none)) in
    let now = subst (λ (k : Kept). IsTrue (is_none (refusal (state_of k) e)) ↔ IsSome (step (state_of k) e)) c.self.view_is iff in
    subst (λ (o : Option StepFault). IsTrue (is_none o) ↔ IsSome (step (state_of c.args.self.now) e)) (sym c.first_failure.ensures) now
