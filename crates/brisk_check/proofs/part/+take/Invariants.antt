use Rattle.std.proofs.Common.{◌≡◌, drop}
use Rattle.brisk_derivation.specs.Seen.{steps_of}
use Rattle.brisk_loops.specs.Walk.{calls_of}
use Rattle.brisk_loops.specs.WalkKept.{kept_all}
use Rattle.brisk_check.proofs.part.+take.Given as goal

-- what is left to be done does what was to be done
abbrev pub invariant-take_all-loop-step : goal.invariant-take_all-loop-step
invariant-take_all-loop-step l = kept_all (calls_of (steps_of l.step-items)) l.initial.walk ≡ kept_all (calls_of (steps_of (drop l.step-index l.step-items))) l.walk
