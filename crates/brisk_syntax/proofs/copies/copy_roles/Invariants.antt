use Rattle.std.proofs.Common.{◌≡◌, map, take}
use Rattle.brisk_syntax.specs.Texts.{text_of}
use Rattle.brisk_syntax.proofs.copies.copy_roles.Given as goal

abbrev pub invariant-loop-role : goal.invariant-loop-role
invariant-loop-role l = map text_of l.items.items ≡ map text_of (take l.role-index l.role-items)
