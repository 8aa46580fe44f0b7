-- Instances as they are given: a list of sizes and a list of inputs.
use Rattle.std.specs.Prelude.{◌≡◌, ℕ, true, false, List, [], ◌∷◌, map, flat_map, if◌then◌else◌}
use Rattle.std.specs.FinMap.{empty, insert}
use Rattle.std.specs.List.{AllByRecursion, range_with_len}
use Rattle.brisk_values.specs.declared.instance.Input.{Input}
use Rattle.brisk_values.specs.declared.instance.Instance.{Instance as Given}
use Rattle.brisk_values.specs.declared.value.Pid.{Pid}
use Rattle.brisk_values.specs.declared.value.Value.TheVariants as value
use Rattle.brisk_values.specs.Names.{Name, member}
use Rattle.brisk_values.specs.Places.{Entries, value_in}
use Rattle.brisk_syntax.specs.declared.program.Decl.{Decl}
use Rattle.brisk_syntax.specs.declared.program.Decl.TheVariants as decl
use Rattle.brisk_syntax.specs.declared.program.EnumDecl.{EnumDecl}
use Rattle.brisk_syntax.specs.Declarations.{variable_of}
use Rattle.brisk_syntax.specs.Instance.{Instance, RoleFits, processes}
use Rattle.brisk_syntax.specs.Roles.{RoleText}
use Rattle.brisk_syntax.specs.Typing.{are_distinct}
use Rattle.brisk_syntax.specs.Value.{or_false, size_in}

-- the members of a set of size n, in number order
abbrev pub members : Name → ℕ → List Pid
members s n = map (member s) (range_with_len 0 n)

-- the store with the values of these inputs, each in the place of an earlier one
abbrev pub with_inputs : List Input → Entries → Entries
with_inputs [] m = m
with_inputs (e ∷ es) m = with_inputs es (insert m (e.process, e.variable) e.value)

-- an instance of these sizes, of which no input is told
abbrev pub instance_with : List (Name × ℕ) → Instance
instance_with sizes = record { size = size_in sizes; input = λ p x. value.Bool false }

-- the instance that is given; what isn't given is false
abbrev pub instance_of : Given → Instance
instance_of g = record { size = size_in g.sizes; input = λ p x. or_false (value_in (with_inputs g.inputs empty) p x) }

-- the process and the variable of an input
abbrev pub place_of : Input → Pid × Name
place_of e = (e.process, e.variable)

-- the sets, in order of declaration
abbrev pub set_names : List RoleText → List Name
set_names [] = []
set_names (r ∷ rs) = if r.many then r.name ∷ set_names rs else set_names rs

-- the inputs of a process, in order of declaration
abbrev pub inputs_at : Pid → List Decl → List (Pid × Name)
inputs_at p [] = []
inputs_at p (decl.Var x k c ∷ ds) = inputs_at p ds
inputs_at p (decl.Input x k ∷ ds) = (p, x) ∷ inputs_at p ds

-- the inputs of all processes, in order of role, member and declaration
abbrev pub all_inputs : Instance → List RoleText → List (Pid × Name)
all_inputs i roles = flat_map (λ r. flat_map (λ p. inputs_at p r.decls) (members r.name (processes i r))) roles

-- what is given names each set once and each input of each process once, in order, and fits
pub record FitsAsGiven (enums : List EnumDecl) (roles : List RoleText) (g : Given) : Type 0 where
  pub sizes : map (λ e. e.0) g.sizes ≡ set_names roles
  pub inputs : map place_of g.inputs ≡ all_inputs (instance_of g) roles
  pub fits : AllByRecursion (RoleFits enums (instance_of g)) roles

-- the roles have different names, and so have the variables of each
pub record AreApart (roles : List RoleText) : Type 0 where
  pub names : are_distinct (map (λ r. r.name) roles) ≡ true
  pub variables : AllByRecursion (λ r. are_distinct (map variable_of r.decls) ≡ true) roles
