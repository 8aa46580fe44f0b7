-- A role without where its code lies in memory.
use Rattle.std.specs.Prelude.{Bool, List, refl}
use Rattle.std.specs.Coded.{Coded, code_by, coded×, coded_bool}
use Rattle.brisk_values.specs.Names.{Name}
use Rattle.brisk_values.specs.Places.{coded_name}
use Rattle.brisk_syntax.specs.Syntax.{Code}
use Rattle.brisk_syntax.specs.Stored.{coded_code}
use Rattle.brisk_syntax.specs.declared.program.Decl.{Decl}
use Rattle.brisk_syntax.specs.contracts.program.Decls as decls

-- a role
pub record RoleText : Type 0 where
  pub name : Name
  pub many : Bool
  pub nonempty : Bool
  pub decls : List Decl
  pub code : Code

abbrev pub coded_role : Coded RoleText
coded_role = code_by (Name × (Bool × (Bool × (List Decl × Code)))) (coded× coded_name (coded× coded_bool (coded× coded_bool (coded× decls.the_row.coded coded_code))))
    (λ r. (r.name, (r.many, (r.nonempty, (r.decls, r.code))))) (λ p. record { name = p.0; many = p.1.0; nonempty = p.1.1.0; decls = p.1.1.1.0; code = p.1.1.1.1 }) (λ _. refl)
