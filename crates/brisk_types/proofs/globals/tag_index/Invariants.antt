use Rattle.std.proofs.Common.{◌≡◌, take}
use Rattle.std.specs.Option.{is_some}
use Rattle.brisk_values.specs.Names.{Name}
use Rattle.brisk_types.specs.Indexes.{found, same_tag, tag_key}
use Rattle.brisk_syntax.specs.Declarations.{is_tag}
use Rattle.brisk_types.proofs.globals.tag_index.Given as goal

abbrev pub invariant-loop-e : goal.invariant-loop-e
invariant-loop-e l = (e t : Name) → is_some (found same_tag l.index (tag_key e t)) ≡ is_tag (take l.e-index l.e-items) e t
