use Rattle.std.proofs.Common.{◌≡◌, drop}
use Rattle.brisk_values.specs.Places.{value_in}
use Rattle.brisk_syntax.specs.Stores.{stored}
use Rattle.brisk_syntax.specs.There.{AreThere}
use Rattle.brisk_syntax.proofs.stores.store_there.Given as goal

abbrev pub invariant-loop-i : goal.invariant-loop-i
invariant-loop-i l = record {
  same : stored (value_in l.store) l.process (drop l.i l.xs) (drop l.i l.vs) ≡ stored (value_in l.initial.store) l.process l.xs l.vs;
  there : AreThere l.store l.process l.xs;
}
