use Rattle.std.proofs.Common.{◌≡◌, drop}
use Rattle.brisk_values.specs.Places.{value_in}
use Rattle.brisk_syntax.specs.Stores.{stored}
use Rattle.brisk_syntax.proofs.stores.store_new.Given as goal

abbrev pub invariant-loop-i : goal.invariant-loop-i
invariant-loop-i l = stored (value_in l.next) l.process (drop l.i l.xs) (drop l.i l.vs) ≡ stored (value_in l.initial.next) l.process l.xs l.vs
