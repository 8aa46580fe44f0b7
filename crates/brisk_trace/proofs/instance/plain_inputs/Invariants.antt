use Rattle.std.proofs.Common.{◌≡◌, ◌++◌, drop, map}
use Rattle.std.specs.List.{AllByRecursion}
use Rattle.brisk_syntax.specs.Texts.{text_of}
use Rattle.brisk_syntax.specs.Typing.{IsDeclWellTyped}
use Rattle.brisk_instance.specs.Given.{instance_with}
use Rattle.brisk_instance.specs.Ordered.{slots}
use Rattle.brisk_trace.specs.Plain.{plain_input}
use Rattle.brisk_trace.proofs.instance.plain_inputs.Given as goal

-- the inputs so far and those of the roles that are left
abbrev pub invariant-loop-role : goal.invariant-loop-role
invariant-loop-role l = let left = map text_of (drop l.role-index l.role-items) in
    (l.items.items ++ map (plain_input l.enums) (slots (instance_with l.sizes) left) ≡ map (plain_input l.enums) (slots (instance_with l.sizes) l.roles))
    × AllByRecursion (λ r. AllByRecursion (IsDeclWellTyped l.enums) r.decls) left
