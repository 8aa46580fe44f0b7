use Rattle.std.proofs.Common.{◌≡◌, ◌++◌, drop, map}
use Rattle.brisk_syntax.specs.Texts.{text_of}
use Rattle.brisk_syntax.specs.Value.{size_in}
use Rattle.brisk_values.specs.Places.{value_in}
use Rattle.brisk_schedule.specs.Printing.{store_text}
use Rattle.brisk_schedule.proofs.printed.put_store.Given as goal

-- what is written, and what is left to write
abbrev pub invariant-loop-role : goal.invariant-loop-role
invariant-loop-role l =
    l.out.items ++ store_text (size_in l.sizes) (map text_of (drop l.role-index l.role-items)) (value_in l.store)
    ≡ l.initial.out.items ++ store_text (size_in l.sizes) l.roles (value_in l.store)
