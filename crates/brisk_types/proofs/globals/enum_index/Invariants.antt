use Rattle.std.proofs.Common.{◌≡◌, take}
use Rattle.std.specs.Option.{is_some}
use Rattle.brisk_values.specs.Names.{Name}
use Rattle.brisk_types.specs.Indexes.{found, key, same_key}
use Rattle.brisk_types.specs.Declarations.{is_enum_of}
use Rattle.brisk_types.proofs.globals.enum_index.Given as goal

abbrev pub invariant-loop-e : goal.invariant-loop-e
invariant-loop-e l = (e : Name) → is_some (found same_key l.index (key e)) ≡ is_enum_of (take l.e-index l.e-items) e
