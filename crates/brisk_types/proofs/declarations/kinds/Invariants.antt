use Rattle.std.proofs.Common.{◌≡◌, ◌+◌, ◌*◌, ◌<◌, ◌^◌, drop, length}
use Rattle.brisk_types.specs.Declarations as spec
use Rattle.brisk_types.specs.Failures.{note_all}
use Rattle.brisk_types.specs.Names.{known_enum}
use Rattle.brisk_types.proofs.declarations.kinds.Given as goal

abbrev pub invariant-loop-kind : goal.invariant-loop-kind
invariant-loop-kind l = record {
  noted : note_all l.first.failure (spec.kinds (known_enum l.globals) l.at (drop l.kind-index l.kind-items)) ≡ note_all l.fn.first.failure (spec.kinds (known_enum l.globals) l.fn.at l.kinds);
  room : l.at + 2 * length (drop l.kind-index l.kind-items) < 2 ^ 32;
}
