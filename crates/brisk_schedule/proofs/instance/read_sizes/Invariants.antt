use Rattle.std.proofs.Common.{[], drop, map}
use Rattle.brisk_syntax.specs.Texts.{text_of}
use Rattle.brisk_instance.specs.Ordered.{sets}
use Rattle.brisk_schedule.proofs.Goes.{SizesGo}
use Rattle.brisk_schedule.proofs.instance.read_sizes.Given as goal

-- the sets that are left
abbrev pub invariant-loop-role : goal.invariant-loop-role
invariant-loop-role l = SizesGo (sets l.roles) (sets (map text_of (drop l.role-index l.role-items))) l.fn.lines l.lines [] l.items.items
