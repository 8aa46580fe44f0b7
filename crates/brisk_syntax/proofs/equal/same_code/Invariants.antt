use Rattle.std.proofs.Common.{◌≡◌, ◌↔◌}
use Rattle.brisk_syntax.specs.Segments.{code_length}
use Rattle.brisk_syntax.proofs.equal.same_code.Given as goal

abbrev pub invariant-loop-s : goal.invariant-loop-s
invariant-loop-s l = (l.a ≡ l.b) ↔ (l.left ≡ l.right)

abbrev pub decreases-loop-s : goal.decreases-loop-s
decreases-loop-s l = code_length l.left
