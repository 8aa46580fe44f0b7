use Rattle.std.proofs.Common.{◌-◌}
use Rattle.brisk_instance.specs.Ordered.{slots_of}
use Rattle.brisk_schedule.proofs.Goes.{InputsGo}
use Rattle.brisk_schedule.proofs.instance.read_members.Given as goal

-- the inputs of the members that are left
abbrev pub invariant-loop-member : goal.invariant-loop-member
invariant-loop-member l =
    InputsGo l.enums l.sizes (slots_of l.role.name l.role.decls 0 l.members) (slots_of l.role.name l.role.decls l.member (l.members - l.member)) l.fn.lines l.lines l.fn.inputs.items l.inputs.items
