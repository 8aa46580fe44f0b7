-- A small program on which states are tried: a single role with two variables, and a set.
use Rattle.std.specs.Prelude.{[], ◌∷◌, false, true}
use Rattle.brisk_values.specs.declared.value.Kind.TheVariants as kind
use Rattle.brisk_syntax.specs.declared.program.Const.TheVariants as constant
use Rattle.brisk_syntax.specs.declared.program.Decl.TheVariants as decl
use Rattle.brisk_syntax.specs.declared.program.Program.{Program}
use Rattle.brisk_syntax.specs.Roles.{RoleText}
use Rattle.brisk_syntax.specs.Syntax.{done}

-- `one A { var x : int = 7; input y : int; }`
abbrev pub single : RoleText
single = record {
  name = 65 ∷ [];
  many = false;
  nonempty = false;
  decls = decl.Var (120 ∷ []) kind.Int (constant.Num false 7) ∷ decl.Input (121 ∷ []) kind.Int ∷ [];
  code = done;
}

-- `many Ws { }`
abbrev pub set : RoleText
set = record { name = 87 ∷ 115 ∷ []; many = true; nonempty = false; decls = []; code = done }

-- the two roles
abbrev pub sample : Program
sample = record { enums = []; channels = []; roles = single ∷ set ∷ [] }
