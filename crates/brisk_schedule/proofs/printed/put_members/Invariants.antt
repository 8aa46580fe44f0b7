use Rattle.std.proofs.Common.{◌≡◌, ◌++◌, ◌-◌, ◌≤◌}
use Rattle.brisk_syntax.specs.Texts.{text_of}
use Rattle.brisk_values.specs.Places.{value_in}
use Rattle.brisk_schedule.specs.Printing.{member_lines, variable_lines}
use Rattle.brisk_schedule.proofs.printed.put_members.Given as goal

-- what is written, and what is left to write
abbrev pub invariant-loop-member : goal.invariant-loop-member
invariant-loop-member l =
    (l.member ≤ l.members)
    × (l.out.items ++ member_lines (variable_lines (value_in l.store)) (text_of l.role) l.member (l.members - l.member)
    ≡ l.initial.out.items ++ member_lines (variable_lines (value_in l.store)) (text_of l.role) 0 l.members)
