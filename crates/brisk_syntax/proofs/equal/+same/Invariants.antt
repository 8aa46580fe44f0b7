use Rattle.std.proofs.Common.{◌≡◌, drop, ◌↔◌}
use Rattle.brisk_syntax.specs.Statements.{code_of}
use Rattle.brisk_syntax.proofs.equal.+same.Given as goal

abbrev pub invariant-same_all-loop-i : goal.invariant-same_all-loop-i
invariant-same_all-loop-i l = (code_of l.xs ≡ code_of l.ys) ↔ (code_of (drop l.i l.xs) ≡ code_of (drop l.i l.ys))
