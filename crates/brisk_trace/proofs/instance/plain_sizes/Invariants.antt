use Rattle.std.proofs.Common.{◌≡◌, ◌++◌, drop, map}
use Rattle.brisk_syntax.specs.Texts.{text_of}
use Rattle.brisk_instance.specs.Ordered.{sets}
use Rattle.brisk_trace.specs.Plain.{plain_size}
use Rattle.brisk_trace.proofs.instance.plain_sizes.Given as goal

-- the sizes so far and those of the roles that are left
abbrev pub invariant-loop-role : goal.invariant-loop-role
invariant-loop-role l =
    l.items.items ++ map (plain_size l.size) (sets (map text_of (drop l.role-index l.role-items))) ≡ map (plain_size l.size) (sets l.roles)
