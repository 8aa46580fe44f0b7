use Rattle.std.proofs.Common.{◌≡◌, drop}
use Rattle.brisk_derivation.specs.Seen.{steps_of}
use Rattle.brisk_derivtext.specs.Reading.{◌then◌}
use Rattle.brisk_derivtext.proofs.copies.+copying.Given as goal

-- what is copied, and what is left
abbrev pub invariant-copy_steps-loop-step : goal.invariant-copy_steps-loop-step
invariant-copy_steps-loop-step l = steps_of l.items.items then steps_of (drop l.step-index l.step-items) ≡ l.steps
