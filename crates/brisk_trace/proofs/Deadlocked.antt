-- Whether the plain run's schedule leads to a deadlocked state.
use Rattle.std.proofs.Common.{◌≡◌, ℕ, List, Some, sym, ◌∙◌, subst}
use Rattle.std.proofs.lemmas.Option.{same_Some}
use Rattle.brisk_values.specs.declared.instance.Instance.{Instance as Given}
use Rattle.brisk_values.specs.declared.value.Pid.{Pid}
use Rattle.brisk_syntax.specs.declared.program.Program.{Program}
use Rattle.brisk_instance.specs.Given.{instance_of}
use Rattle.brisk_async.specs.declared.event.Event.{Event}
use Rattle.brisk_async.specs.Machine.{IsDeadlocked, State, run, start}
use Rattle.brisk_async.specs.PlainRuns.{Deadlocks, plain_from, plain_instance, plain_order}
use Rattle.brisk_trace.specs.Plain.{IsPlain}

module _ (P : Program) (k n : ℕ) (g : Given) (order : List Pid) (es : List Event) (plain : IsPlain P k g) (ordered : order ≡ plain_order P k) (taken : es ≡ plain_from n order (start P (instance_of g))) where
  -- the events are those of the plain run
  pub is_schedule : es ≡ plain_from n (plain_order P k) (start P (plain_instance P k))
  is_schedule = taken ∙ (λ i. plain_from n (ordered i) (plain.starts i))

  -- the state to which they lead isn't deadlocked
  pub not_deadlocked : (t : State) → run (start P (instance_of g)) es ≡ Some t → (IsDeadlocked t → ⊥) → ¬ Deadlocks P (plain_instance P k) (plain_from n (plain_order P k) (start P (plain_instance P k)))
  not_deadlocked t runs running d =
      let same = same_Some t d.0 (sym runs ∙ (λ i. run (plain.starts i) (is_schedule i)) ∙ d.1) in
      running (subst IsDeadlocked (sym same) d.2)
