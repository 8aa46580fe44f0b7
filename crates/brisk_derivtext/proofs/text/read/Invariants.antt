use Rattle.std.proofs.Common.{◌+◌, ◌≤◌, length}
use Rattle.brisk_derivtext.specs.Kept.{SoFar}
use Rattle.brisk_derivtext.proofs.text.read.Given as goal

-- what the lines before come to, and that there are no more of them than bytes
abbrev pub invariant-loop-rest : goal.invariant-loop-rest
invariant-loop-rest l = record {
  so_far : SoFar l.text l.rest l.lines.reading l.lines.count;
  few : l.lines.count + length l.rest ≤ length l.text;
}

abbrev pub decreases-loop-rest : goal.decreases-loop-rest
decreases-loop-rest l = length l.rest
