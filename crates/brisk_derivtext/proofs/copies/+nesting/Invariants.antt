use Rattle.std.proofs.Common.{◌≡◌, ◌-◌, ◌<◌, ◌^◌, min, max, drop}
use Rattle.brisk_derivation.specs.Depths.{steps_depth}
use Rattle.brisk_derivation.specs.Seen.{steps_of}
use Rattle.brisk_derivtext.proofs.copies.+nesting.Given as goal

-- the depth so far, and that of what is left
abbrev pub invariant-depth_of-loop-step : goal.invariant-depth_of-loop-step
invariant-depth_of-loop-step l =
    (l.deepest < 2 ^ 64) × (min (max l.deepest (steps_depth (steps_of (drop l.step-index l.step-items)))) (2 ^ 64 - 1) ≡ min (steps_depth l.steps) (2 ^ 64 - 1))
