use Rattle.std.proofs.Common.{◌≡◌, ◌++◌, ◌-◌, ◌≤◌}
use Rattle.brisk_syntax.specs.Texts.{text_of}
use Rattle.brisk_async.specs.Keys.{code_in_map}
use Rattle.brisk_schedule.specs.Printing.{left_lines, member_lines}
use Rattle.brisk_schedule.proofs.printed.put_left_members.Given as goal

-- what is written, and what is left to write
abbrev pub invariant-loop-member : goal.invariant-loop-member
invariant-loop-member l =
    (l.member ≤ l.members)
    × (l.out.items ++ member_lines (left_lines (code_in_map l.machine.codes)) (text_of l.role) l.member (l.members - l.member)
    ≡ l.initial.out.items ++ member_lines (left_lines (code_in_map l.machine.codes)) (text_of l.role) 0 l.members)
