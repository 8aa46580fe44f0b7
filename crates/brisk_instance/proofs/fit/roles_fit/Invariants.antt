use Rattle.std.proofs.Common.{drop, map}
use Rattle.std.specs.Prelude.{◌↔◌}
use Rattle.std.specs.List.{AllByRecursion}
use Rattle.brisk_syntax.specs.Instance.{RoleFits}
use Rattle.brisk_syntax.specs.Texts.{text_of}
use Rattle.brisk_instance.specs.Walks.{instance_given}
use Rattle.brisk_instance.proofs.fit.roles_fit.Given as goal

-- all fit exactly where those that are left do
abbrev pub invariant-loop-role : goal.invariant-loop-role
invariant-loop-role l =
    AllByRecursion (RoleFits l.enums (instance_given l.sizes l.given)) (map text_of (drop l.role-index l.role-items))
    ↔ AllByRecursion (RoleFits l.enums (instance_given l.sizes l.given)) l.roles
