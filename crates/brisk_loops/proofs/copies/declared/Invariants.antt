use Rattle.std.proofs.Common.{◌≡◌, map, take}
use Rattle.brisk_syntax.specs.Texts.{text_of}
use Rattle.brisk_rules.specs.Derives.{without_code}
use Rattle.brisk_loops.proofs.copies.declared.Given as goal

abbrev pub invariant-loop-role : goal.invariant-loop-role
invariant-loop-role l = map text_of l.items.items ≡ map without_code (map text_of (take l.role-index l.role-items))
