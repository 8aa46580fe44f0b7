use Rattle.std.proofs.Common.{◌≡◌, take, map}
use Rattle.std.specs.Prelude.{option_map}
use Rattle.brisk_values.specs.Names.{Name}
use Rattle.brisk_types.specs.Indexes.{found, key, same_key}
use Rattle.brisk_types.specs.Names.{meaning_of, named}
use Rattle.brisk_types.proofs.names.Processes.new.Given as goal

abbrev pub invariant-loop-each : goal.invariant-loop-each
invariant-loop-each l = (n : Name) → option_map (λ k. meaning_of k.now) (found same_key l.index (key n)) ≡ named (map meaning_of (take l.each-index l.names)) n
