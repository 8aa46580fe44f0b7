use Rattle.std.proofs.Common.{◌≡◌, ◌++◌, drop}
use Rattle.brisk_derivation.specs.Seen.{steps_of}
use Rattle.brisk_derivtext.specs.Texts.{lines_of, text_of_lines}
use Rattle.brisk_derivtext.proofs.writing.+writing.Given as goal

-- what is written, and what is left to go
abbrev pub invariant-put_steps-loop-step : goal.invariant-put_steps-loop-step
invariant-put_steps-loop-step l = l.out.items ++ text_of_lines (lines_of (steps_of (drop l.step-index l.step-items))) ≡ l.fn.out.items ++ text_of_lines (lines_of l.steps)
