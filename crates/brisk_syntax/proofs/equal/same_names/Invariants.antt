use Rattle.std.proofs.Common.{◌≡◌, drop, ◌↔◌}
use Rattle.brisk_syntax.proofs.equal.same_names.Given as goal

abbrev pub invariant-loop-i : goal.invariant-loop-i
invariant-loop-i l = (l.xs ≡ l.ys) ↔ (drop l.i l.xs ≡ drop l.i l.ys)
