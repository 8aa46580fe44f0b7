-- The store in which an instance starts, process by process.
use Rattle.std.specs.Prelude.{ℕ, zero, suc, List, [], ◌∷◌, if◌then◌else◌}
use Rattle.std.specs.FinMap.{insert}
use Rattle.brisk_values.specs.declared.value.Pid.{Pid}
use Rattle.brisk_values.specs.declared.value.Value.{Value}
use Rattle.brisk_values.specs.Names.{Name, member}
use Rattle.brisk_values.specs.Places.{Entries, value_in}
use Rattle.brisk_syntax.specs.declared.program.Decl.{Decl}
use Rattle.brisk_syntax.specs.declared.program.Decl.TheVariants as decl
use Rattle.brisk_syntax.specs.Declarations.{constant_value, variable_of}
use Rattle.brisk_syntax.specs.Roles.{RoleText}
use Rattle.brisk_syntax.specs.Value.{or_false}

-- the number of a role's processes
abbrev pub members_of : (Name → ℕ) → RoleText → ℕ
members_of sizes r = if r.many then sizes r.name else 1

-- the value with which a process's variable starts, from the store of the inputs
abbrev pub declared_value : Entries → Pid → Decl → Value
declared_value given p (decl.Var x k c) = constant_value c
declared_value given p (decl.Input x k) = or_false (value_in given p x)

-- the store, with the values of a process's declarations
abbrev pub with_values : Entries → Pid → List Decl → Entries → Entries
with_values given p [] m = m
with_values given p (d ∷ ds) m = with_values given p ds (insert m (p, variable_of d) (declared_value given p d))

-- the store, with those of the first members of a role
abbrev pub with_members : Entries → Name → List Decl → ℕ → Entries → Entries
with_members given n ds zero m = m
with_members given n ds (suc k) m = with_values given (member n k) ds (with_members given n ds k m)

-- the store, with those of all processes of these roles
abbrev pub with_roles : Entries → (Name → ℕ) → List RoleText → Entries → Entries
with_roles given sizes [] m = m
with_roles given sizes (r ∷ rs) m = with_roles given sizes rs (with_members given r.name r.decls (members_of sizes r) m)
