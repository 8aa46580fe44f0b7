use Rattle.std.proofs.Common.{◌≡◌, take}
use Rattle.brisk_syntax.proofs.copies.copy_enums.Given as goal

abbrev pub invariant-loop-decl : goal.invariant-loop-decl
invariant-loop-decl l = l.items.items ≡ take l.decl-index l.decl-items
