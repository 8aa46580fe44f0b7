use Rattle.std.proofs.Common.{◌≡◌, ◌++◌, ◌-◌, map}
use Rattle.brisk_instance.specs.Ordered.{slots_of}
use Rattle.brisk_trace.specs.Plain.{plain_input}
use Rattle.brisk_trace.proofs.instance.add_members.Given as goal

-- the inputs so far and those of the members that are left
abbrev pub invariant-loop-member : goal.invariant-loop-member
invariant-loop-member l =
    l.inputs.items ++ map (plain_input l.enums) (slots_of l.role.name l.role.decls l.member (l.members - l.member))
    ≡ l.initial.inputs.items ++ map (plain_input l.enums) (slots_of l.role.name l.role.decls 0 l.members)
