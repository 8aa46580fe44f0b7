use Rattle.std.proofs.Common.{◌≡◌, ◌+◌, ◌-◌, ◌<◌, ◌^◌, min, drop, map}
use Rattle.brisk_syntax.specs.Texts.{text_of}
use Rattle.brisk_syntax.specs.Tokens.{weight}
use Rattle.brisk_instance.specs.Given.{instance_with}
use Rattle.brisk_instance.proofs.tokens.weight.Given as goal

-- what is counted, and what is left
abbrev pub invariant-loop-role : goal.invariant-loop-role
invariant-loop-role l =
    (l.weight < 2 ^ 64) × (min (l.weight + weight (map text_of (drop l.role-index l.role-items)) (instance_with l.sizes)) (2 ^ 64 - 1) ≡ min (weight l.roles (instance_with l.sizes)) (2 ^ 64 - 1))
