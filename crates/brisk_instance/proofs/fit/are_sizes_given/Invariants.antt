use Rattle.std.proofs.Common.{◌≡◌, drop, map}
use Rattle.brisk_values.specs.Names.{same_name}
use Rattle.brisk_syntax.specs.Texts.{text_of}
use Rattle.brisk_instance.specs.Given.{set_names}
use Rattle.brisk_instance.specs.Walks.{rest_after, size_name}
use Rattle.brisk_instance.proofs.fit.are_sizes_given.Given as goal

-- the same stands behind what is left to go
abbrev pub invariant-loop-role : goal.invariant-loop-role
invariant-loop-role l =
    rest_after same_name (set_names (map text_of (drop l.role-index l.role-items))) (map size_name l.rest) ≡ rest_after same_name (set_names l.roles) (map size_name l.sizes)
