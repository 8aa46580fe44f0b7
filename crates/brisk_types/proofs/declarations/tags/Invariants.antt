use Rattle.std.proofs.Common.{◌≡◌, ◌+◌, ◌*◌, ◌<◌, ◌^◌, [], take, drop, length}
use Rattle.std.specs.Option.{is_some}
use Rattle.brisk_values.specs.Names.{Name}
use Rattle.brisk_types.specs.Indexes.{found, key, same_key}
use Rattle.brisk_types.specs.Declarations as spec
use Rattle.brisk_types.specs.Failures.{note_all}
use Rattle.brisk_syntax.specs.Typing.{is_among}
use Rattle.brisk_types.proofs.declarations.tags.Given as goal

abbrev pub invariant-loop-name : goal.invariant-loop-name
invariant-loop-name l = record {
  seen : (n : Name) → is_some (found same_key l.seen (key n)) ≡ is_among (take l.name-index l.name-items) n;
  noted : note_all l.first.failure (spec.tags (take l.name-index l.name-items) l.at (drop l.name-index l.name-items)) ≡ note_all l.fn.first.failure (spec.tags [] l.fn.at l.names);
  room : l.at + 2 * length (drop l.name-index l.name-items) < 2 ^ 32;
}
