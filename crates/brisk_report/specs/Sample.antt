-- A small program of which a report is written: `channel T(); one B { } one A { send T() to B; send T() to B; }`.
use Rattle.std.specs.Prelude.{ℕ, [], ◌∷◌, false}
use Rattle.brisk_syntax.specs.declared.program.Program.{Program}
use Rattle.brisk_syntax.specs.declared.tree.Who.TheVariants as who
use Rattle.brisk_syntax.specs.Roles.{RoleText}
use Rattle.brisk_syntax.specs.Syntax.{Code, Send, done, ◌⨾◌}

abbrev pub role : ℕ → Code → RoleText
role name code = record { name = name ∷ []; many = false; nonempty = false; decls = []; code = code }

abbrev pub receiver : RoleText
receiver = role 66 done

abbrev pub sender : RoleText
sender = role 65 (Send (84 ∷ []) [] (who.Name (66 ∷ [])) ⨾ Send (84 ∷ []) [] (who.Name (66 ∷ [])) ⨾ done)

abbrev pub sample : Program
sample = record { enums = []; channels = record { name = 84 ∷ []; kinds = []; loose = false } ∷ []; roles = receiver ∷ sender ∷ [] }
