use Rattle.std.proofs.Common.{◌≡◌, ◌++◌, ◌-◌, map}
use Rattle.std.specs.List.{range_with_len}
use Rattle.brisk_values.specs.Names.{member}
use Rattle.brisk_instance.specs.Given.{members}
use Rattle.brisk_trace.proofs.plain.add_members.Given as goal

-- the members so far and those that are left
abbrev pub invariant-loop-member : goal.invariant-loop-member
invariant-loop-member l =
    l.order.items ++ map (member l.set) (range_with_len l.member (l.size - l.member)) ≡ l.initial.order.items ++ members l.set l.size
