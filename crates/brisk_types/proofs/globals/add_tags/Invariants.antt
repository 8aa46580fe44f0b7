use Rattle.std.proofs.Common.{◌≡◌, ◌||◌, ◌&&◌, take}
use Rattle.std.specs.Option.{is_some}
use Rattle.brisk_values.specs.Names.{Name, same_name}
use Rattle.brisk_types.specs.Indexes.{found, same_tag, tag_key}
use Rattle.brisk_syntax.specs.Typing.{is_among}
use Rattle.brisk_types.proofs.globals.add_tags.Given as goal

abbrev pub invariant-loop-tag : goal.invariant-loop-tag
invariant-loop-tag l = (e t : Name) → is_some (found same_tag l.index (tag_key e t)) ≡ (is_some (found same_tag l.fn.index (tag_key e t)) || (same_name e l.of && is_among (take l.tag-index l.tag-items) t))
