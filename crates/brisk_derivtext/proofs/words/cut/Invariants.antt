use Rattle.std.proofs.Common.{take}
use Rattle.brisk_lines.specs.Pieces.{Lacks}
use Rattle.brisk_derivtext.proofs.words.cut.Given as goal

abbrev pub invariant-loop-i : goal.invariant-loop-i
invariant-loop-i l = Lacks l.end (take l.i l.bytes)
