-- A small program on which the quiet test is tried: a role H and a set Ws, with nothing to do.
use Rattle.std.specs.Prelude.{[], ◌∷◌, Bool, true, false}
use Rattle.brisk_values.specs.Names.{Name}
use Rattle.brisk_syntax.specs.declared.program.Program.{Program}
use Rattle.brisk_syntax.specs.Roles.{RoleText}
use Rattle.brisk_syntax.specs.Syntax.{done}

-- a role of this name without declarations
abbrev pub idle : Name → Bool → RoleText
idle name many = record { name = name; many = many; nonempty = false; decls = []; code = done }

-- `one H { }` and `many Ws { }`
abbrev pub sample : Program
sample = record { enums = []; channels = []; roles = idle (72 ∷ []) false ∷ idle (87 ∷ 115 ∷ []) true ∷ [] }
