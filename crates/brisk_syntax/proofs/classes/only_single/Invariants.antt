use Rattle.std.proofs.Common.{◌≡◌, not, drop, map, filter}
use Rattle.brisk_syntax.specs.Centres.{only_name, only_name_from}
use Rattle.brisk_syntax.specs.Roles.{RoleText}
use Rattle.brisk_syntax.specs.Texts.{text_of}
use Rattle.brisk_syntax.proofs.classes.only_single.Given as goal

-- what was found, and the roles that are left
abbrev pub invariant-loop-role : goal.invariant-loop-role
invariant-loop-role l =
    only_name_from l.found (filter (λ (r : RoleText). not r.many) (map text_of (drop l.role-index l.role-items)))
    ≡ only_name (filter (λ (r : RoleText). not r.many) l.roles)
