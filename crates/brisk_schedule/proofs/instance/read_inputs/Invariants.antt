use Rattle.std.proofs.Common.{[], drop, map}
use Rattle.brisk_syntax.specs.Texts.{text_of}
use Rattle.brisk_instance.specs.Given.{instance_with}
use Rattle.brisk_instance.specs.Ordered.{slots}
use Rattle.brisk_schedule.proofs.Goes.{InputsGo}
use Rattle.brisk_schedule.proofs.instance.read_inputs.Given as goal

-- the inputs of the roles that are left
abbrev pub invariant-loop-role : goal.invariant-loop-role
invariant-loop-role l =
    InputsGo l.enums l.sizes (slots (instance_with l.sizes) l.roles) (slots (instance_with l.sizes) (map text_of (drop l.role-index l.role-items))) l.fn.lines l.lines [] l.items.items
