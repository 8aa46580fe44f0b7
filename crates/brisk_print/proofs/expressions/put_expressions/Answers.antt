use Rattle.std.proofs.lemmas.Simd.{map-map}
use Rattle.brisk_syntax.specs.Expressions.{expression_of}
use Rattle.brisk_print.specs.Layout.{expression}
use Rattle.brisk_print.proofs.expressions.put_expressions.Goals as goal

pub returns : goal.returns
returns c = rw (← c.exprs.view_is, map-map expression expression_of c.exprs.inside.items.items, ← c.deref.ensures.value) c.put_with_commas.ensures
