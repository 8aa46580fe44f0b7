use Rattle.std.proofs.Common.{◌≡◌, map, take}
use Rattle.brisk_values.specs.Places.{value_in}
use Rattle.brisk_syntax.specs.Expressions.{expression_of}
use Rattle.brisk_syntax.specs.Value.{size_in, value_of}
use Rattle.brisk_syntax.proofs.evaluate.eval_all.Given as goal

abbrev pub invariant-loop-e : goal.invariant-loop-e
invariant-loop-e l = l.items.items ≡ map (value_of (size_in l.sizes) (value_in l.store l.process)) (map expression_of (take l.e-index l.e-items))
