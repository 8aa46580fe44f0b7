use Rattle.std.proofs.Common.{◌≡◌, take, map}
use Rattle.std.specs.Option.{is_some}
use Rattle.brisk_values.specs.Names.{Name}
use Rattle.brisk_types.specs.Indexes.{found, key, same_key}
use Rattle.brisk_syntax.specs.Texts.{text_of}
use Rattle.brisk_syntax.specs.Typing.{is_single}
use Rattle.brisk_types.proofs.globals.single_index.Given as goal

abbrev pub invariant-loop-role : goal.invariant-loop-role
invariant-loop-role l = (n : Name) → is_some (found same_key l.index (key n)) ≡ is_single (map text_of (take l.role-index l.role-items)) n
