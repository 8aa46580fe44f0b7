use Rattle.std.proofs.Common.{◌≡◌, ◌+◌, drop}
use Rattle.brisk_derivation.specs.Seen.{step_of}
use Rattle.brisk_derivtext.specs.Shared.{name_from}
use Rattle.brisk_derivtext.specs.SharedKept.{steps_at}
use Rattle.brisk_derivtext.proofs.sharing.find.Given as goal

-- it is found among those that are left, if at all
abbrev pub invariant-loop-i : goal.invariant-loop-i
invariant-loop-i l = name_from (l.i + 1) (steps_at (drop l.i l.parts)) (step_of l.step) ≡ name_from 1 (steps_at l.parts) (step_of l.step)
