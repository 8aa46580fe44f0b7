use Rattle.std.proofs.Common.{◌≡◌, drop}
use Rattle.brisk_derivation.specs.Seen.{steps_of}
use Rattle.brisk_derivtext.specs.Reading.{◌then◌}
use Rattle.brisk_derivtext.proofs.copies.then.Given as goal

-- what is copied, and what is left
abbrev pub invariant-loop-step : goal.invariant-loop-step
invariant-loop-step l = steps_of l.steps-inside.items.items then steps_of (drop l.step-index l.step-items) ≡ l.fn.steps then l.more
