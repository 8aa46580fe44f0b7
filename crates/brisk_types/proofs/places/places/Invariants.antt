use Rattle.std.proofs.Common.{◌≡◌, [], take, drop}
use Rattle.brisk_values.specs.Names.{Name}
use Rattle.brisk_types.specs.Declarations as spec
use Rattle.brisk_types.specs.Failures.{note_all}
use Rattle.brisk_types.specs.Indexes.{found, key, same_key}
use Rattle.brisk_types.proofs.places.places.Given as goal

abbrev pub invariant-loop-placed : goal.invariant-loop-placed
invariant-loop-placed l = record {
  index : (n : Name) → found same_key l.index (key n) ≡ spec.place_of (take l.placed-index l.names) n;
  noted : note_all l.first.failure (spec.apart (take l.placed-index l.names) (drop l.placed-index l.names)) ≡ note_all l.fn.first.failure (spec.apart [] l.names);
}
