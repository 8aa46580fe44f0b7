use Rattle.std.proofs.Common.{◌≡◌, ◌&&◌, not, true, drop, map}
use Rattle.std.specs.List.{list_all}
use Rattle.brisk_syntax.specs.Classes.{every, talks_to}
use Rattle.brisk_syntax.specs.Roles.{RoleText}
use Rattle.brisk_syntax.specs.Texts.{text_of}
use Rattle.brisk_syntax.proofs.classes.all_straight.Given as goal

abbrev pub invariant-loop-role : goal.invariant-loop-role
invariant-loop-role l =
    list_all (λ (r : RoleText). not r.many && every (talks_to (λ u. true)) r.code) (map text_of (drop l.role-index l.role-items))
    ≡ list_all (λ (r : RoleText). not r.many && every (talks_to (λ u. true)) r.code) l.roles
