use Rattle.std.proofs.Common.{◌≡◌, drop, map}
use Rattle.brisk_syntax.specs.Texts.{text_of}
use Rattle.brisk_instance.specs.Given.{all_inputs, instance_with, place_of}
use Rattle.brisk_instance.specs.Walks.{rest_after, same_input}
use Rattle.brisk_instance.proofs.fit.are_inputs_given.Given as goal

-- the same stands behind what is left to go
abbrev pub invariant-loop-role : goal.invariant-loop-role
invariant-loop-role l =
    rest_after same_input (all_inputs (instance_with l.sizes) (map text_of (drop l.role-index l.role-items))) (map place_of l.rest) ≡ rest_after same_input (all_inputs (instance_with l.sizes) l.roles) (map place_of l.inputs)
