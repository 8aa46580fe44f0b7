use Rattle.std.proofs.Common.{◌≡◌, ◌++◌, drop, map}
use Rattle.brisk_syntax.specs.Texts.{text_of}
use Rattle.brisk_print.specs.Layout.{roles}
use Rattle.brisk_print.proofs.programs.put_roles.Given as goal

-- what is written, and then what is left
abbrev pub invariant-loop-role : goal.invariant-loop-role
invariant-loop-role l = l.out.items ++ roles (map text_of (drop l.role-index l.roles)) ≡ l.fn.out.items ++ roles (map text_of l.roles)
