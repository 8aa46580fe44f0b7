use Rattle.std.proofs.Common.{◌≡◌, ◌++◌, drop}
use Rattle.brisk_derivation.specs.Seen.{steps_of}
use Rattle.brisk_derivtext.specs.Parts.{places_lines}
use Rattle.brisk_derivtext.specs.Shared.{shared}
use Rattle.brisk_derivtext.specs.SharedKept.{steps_at}
use Rattle.brisk_derivtext.specs.Texts.{text_of_lines}
use Rattle.brisk_derivtext.proofs.sharing.+sharing.Given as goal

-- what is written, and what is left to go
abbrev pub invariant-put_shared-loop-step : goal.invariant-put_shared-loop-step
invariant-put_shared-loop-step l = l.out.items ++ text_of_lines (places_lines (shared (steps_at l.parts) (steps_of (drop l.step-index l.step-items)))) ≡ l.fn.out.items ++ text_of_lines (places_lines (shared (steps_at l.parts) l.steps))
