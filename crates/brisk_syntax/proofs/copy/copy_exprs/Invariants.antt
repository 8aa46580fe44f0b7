use Rattle.std.proofs.Common.{◌≡◌, map, take}
use Rattle.brisk_syntax.specs.Expressions.{expression_of}
use Rattle.brisk_syntax.proofs.copy.copy_exprs.Given as goal

abbrev pub invariant-loop-e : goal.invariant-loop-e
invariant-loop-e l = map expression_of l.items.items ≡ map expression_of (take l.e-index l.e-items)
