-- How roles are seen.
use Rattle.brisk_syntax.specs.Roles.{RoleText}
use Rattle.brisk_syntax.specs.declared.program.Role.{Role}

-- the role without the place of its code in memory
abbrev pub text_of : Role → RoleText
text_of r = record { name = r.name; many = r.many; nonempty = r.nonempty; decls = r.decls; code = r.code.value }
