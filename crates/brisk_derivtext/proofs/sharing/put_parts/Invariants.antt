use Rattle.std.proofs.Common.{◌≡◌, ◌++◌, [], drop, take}
use Rattle.brisk_derivtext.specs.Parts.{parts_lines}
use Rattle.brisk_derivtext.specs.Shared.{written}
use Rattle.brisk_derivtext.specs.SharedKept.{steps_at}
use Rattle.brisk_derivtext.specs.Texts.{text_of_lines}
use Rattle.brisk_derivtext.proofs.sharing.put_parts.Given as goal

-- what is written, and what is left to go
abbrev pub invariant-loop-i : goal.invariant-loop-i
invariant-loop-i l = l.out.items ++ text_of_lines (parts_lines (written (steps_at (take l.i l.parts)) (steps_at (drop l.i l.parts)))) ≡ l.initial.out.items ++ text_of_lines (parts_lines (written [] (steps_at l.parts)))
