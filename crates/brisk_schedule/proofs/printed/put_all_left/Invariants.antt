use Rattle.std.proofs.Common.{◌≡◌, ◌++◌, drop, map}
use Rattle.brisk_syntax.specs.Texts.{text_of}
use Rattle.brisk_syntax.specs.Value.{size_in}
use Rattle.brisk_async.specs.Keys.{code_in_map}
use Rattle.brisk_schedule.specs.Printing.{left_text}
use Rattle.brisk_schedule.proofs.printed.put_all_left.Given as goal

-- what is written, and what is left to write
abbrev pub invariant-loop-role : goal.invariant-loop-role
invariant-loop-role l =
    l.out.items ++ left_text (size_in l.machine.sizes) (map text_of (drop l.role-index l.role-items)) (code_in_map l.machine.codes)
    ≡ l.initial.out.items ++ left_text (size_in l.machine.sizes) l.roles (code_in_map l.machine.codes)
