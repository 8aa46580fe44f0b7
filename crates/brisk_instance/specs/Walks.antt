-- Lists of sizes and inputs, walked through in order.
use Rattle.std.specs.Prelude.{ℕ, Bool, true, false, ◌&&◌, List, [], ◌∷◌, map, Option, Some, None, flat_map, if◌then◌else◌}
use Rattle.std.specs.List.{list_any, range_with_len}
use Rattle.brisk_values.specs.declared.value.Pid.{Pid}
use Rattle.brisk_values.specs.Names.{Name, member, same_name, same_process}
use Rattle.brisk_values.specs.Places.{Entries, value_in}
use Rattle.brisk_syntax.specs.declared.program.Decl.{Decl}
use Rattle.brisk_syntax.specs.declared.program.Decl.TheVariants as decl
use Rattle.brisk_syntax.specs.Instance.{Instance, processes}
use Rattle.brisk_syntax.specs.Roles.{RoleText}
use Rattle.brisk_syntax.specs.Value.{or_false, size_in}
use Rattle.brisk_instance.specs.Given.{inputs_at}

-- where an input is given
abbrev pub Place : Type 0
Place = Pid × Name

-- the two places are the same
abbrev pub same_input : Place → Place → Bool
same_input a b = same_process a.0 b.0 && same_name a.1 b.1

-- what stands in a list behind these items, where it begins with them
abbrev pub rest_after : {X : Type 0} → (X → X → Bool) → List X → List X → Option (List X)
rest_after same [] ys = Some ys
rest_after same (x ∷ xs) [] = None
rest_after same (x ∷ xs) (y ∷ ys) = if same x y then rest_after same xs ys else None

-- nothing stands behind
abbrev pub is_whole : {X : Type 0} → Option (List X) → Bool
is_whole None = false
is_whole (Some []) = true
is_whole (Some (y ∷ ys)) = false

-- the set of a size
abbrev pub size_name : Name × ℕ → Name
size_name e = e.0

-- one of the declarations is that of an input
abbrev pub is_input : Decl → Bool
is_input (decl.Var x k c) = false
is_input (decl.Input x k) = true

abbrev pub has_input : List Decl → Bool
has_input ds = list_any is_input ds

-- the inputs of so many members of a role, from one on
abbrev pub inputs_of : Name → List Decl → ℕ → ℕ → List Place
inputs_of n ds from count = flat_map (λ p. inputs_at p ds) (map (member n) (range_with_len from count))

-- the inputs of all processes of a role
abbrev pub role_inputs : Instance → RoleText → List Place
role_inputs i r = inputs_of r.name r.decls 0 (processes i r)

-- an instance of these sizes with the inputs of a store
abbrev pub instance_given : List (Name × ℕ) → Entries → Instance
instance_given sizes given = record { size = size_in sizes; input = λ p x. or_false (value_in given p x) }

-- an instance with the inputs of a store
abbrev pub instance_from : Entries → Instance
instance_from = instance_given []
