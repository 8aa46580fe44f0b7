use Rattle.std.proofs.Common.{◌≡◌, ◌+◌, ◌-◌, ◌<◌, ◌^◌, min, drop}
use Rattle.brisk_derivation.specs.Counts.{steps_among}
use Rattle.brisk_derivation.specs.Seen.{steps_of}
use Rattle.brisk_derivation.proofs.count.+count.Given as goal

-- what is counted, and what is left
abbrev pub invariant-count_steps-loop-step : goal.invariant-count_steps-loop-step
invariant-count_steps-loop-step l =
    (l.count < 2 ^ 64) × (min (l.count + steps_among (steps_of (drop l.step-index l.step-items))) (2 ^ 64 - 1) ≡ min (steps_among l.derivation) (2 ^ 64 - 1))
