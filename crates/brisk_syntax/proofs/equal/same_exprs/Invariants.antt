use Rattle.std.proofs.Common.{◌≡◌, drop, map, ◌↔◌}
use Rattle.brisk_syntax.specs.Expressions.{expression_of}
use Rattle.brisk_syntax.proofs.equal.same_exprs.Given as goal

abbrev pub invariant-loop-i : goal.invariant-loop-i
invariant-loop-i l = (map expression_of l.xs ≡ map expression_of l.ys) ↔ (map expression_of (drop l.i l.xs) ≡ map expression_of (drop l.i l.ys))
