use Rattle.std.proofs.Common.{◌≡◌, length}
use Rattle.brisk_syntax.specs.Segments.{statement_at, backwards}
use Rattle.brisk_syntax.proofs.segments.Code.at.Given as goal

abbrev pub invariant-loop-segment : goal.invariant-loop-segment
invariant-loop-segment l = statement_at (backwards l.segments) l.left ≡ statement_at (backwards l.initial.segments) l.initial.left

abbrev pub decreases-loop-segment : goal.decreases-loop-segment
decreases-loop-segment l = length l.segments
