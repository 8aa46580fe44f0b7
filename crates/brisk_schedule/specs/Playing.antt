-- How a schedule ends on a machine.
use Rattle.std.specs.Prelude.{◌≡◌, ◌+◌, List, ◌∷◌, ◌++◌, length, Some, None}
use Rattle.brisk_async.specs.declared.event.Event.{Event}
use Rattle.brisk_async.specs.Machine.{State, step, run, IsHalted, IsDeadlocked}
use Rattle.brisk_async.specs.Refusals.{refusal}
use Rattle.brisk_schedule.specs.declared.played.Ended.{Ended}
use Rattle.brisk_schedule.specs.declared.played.Ended.TheVariants.{Halted, Deadlocked, Running, Refused}

-- From this state the events end so in that one: all of them were taken, and the last state is halted, deadlocked or neither;
-- or the k-th event, counted from 1, is the first that has no next state, and is refused so in the state before it.
abbrev pub EndsSo : State → List Event → Ended → State → Type 0
EndsSo s es Halted t = (run s es ≡ Some t) × IsHalted t
EndsSo s es Deadlocked t = (run s es ≡ Some t) × IsDeadlocked t
EndsSo s es Running t = (run s es ≡ Some t) × (IsHalted t → ⊥) × (IsDeadlocked t → ⊥)
EndsSo s es (Refused k why) t =
    (before : List Event) × (e : Event) × (later : List Event) × (es ≡ before ++ e ∷ later) × (k ≡ length before + 1)
    × (run s before ≡ Some t) × (step t e ≡ None) × (refusal t e ≡ Some why)
