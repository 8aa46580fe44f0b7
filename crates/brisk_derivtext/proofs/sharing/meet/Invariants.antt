use Rattle.std.proofs.Common.{◌≡◌, ◌++◌, map, drop, take}
use Rattle.brisk_derivation.specs.Seen.{step_of}
use Rattle.brisk_derivtext.specs.Shared.{meet}
use Rattle.brisk_derivtext.specs.SharedKept.{met_of}
use Rattle.brisk_derivtext.proofs.sharing.meet.Given as goal

-- the steps before this one are others
abbrev pub invariant-loop-i : goal.invariant-loop-i
invariant-loop-i l = (l.met.items ≡ l.initial.met.items) × (map met_of (take l.i l.met.items) ++ meet (map met_of (drop l.i l.met.items)) (step_of l.step) ≡ meet (map met_of l.initial.met.items) (step_of l.step))
