-- Stores as functions, and values put into them.
use Rattle.std.specs.Prelude.{Bool, false, List, [], ◌∷◌, Option, Some}
use Rattle.brisk_values.specs.declared.value.Pid.{Pid}
use Rattle.brisk_values.specs.declared.value.Value.{Value}
use Rattle.brisk_values.specs.declared.value.Value.TheVariants as value
use Rattle.brisk_values.specs.Functions.{changed}
use Rattle.brisk_values.specs.Names.{Name, same_name, same_process}

-- a store: from a process and a variable to its value, where it has one
abbrev pub Store : Type 0
Store = Pid → Name → Option Value

-- a process's variables, but the values at these
abbrev pub with_variables : (Name → Option Value) → List Name → List Value → Name → Option Value
with_variables own [] vs = own
with_variables own (x ∷ xs) [] = own
with_variables own (x ∷ xs) (v ∷ vs) = with_variables (changed same_name own x (Some v)) xs vs

-- the store, but the values at these variables of p
abbrev pub stored : Store → Pid → List Name → List Value → Store
stored store p xs vs = changed same_process store p (with_variables (store p) xs vs)

-- the value is true
abbrev pub is_true : Value → Bool
is_true (value.Bool b) = b
is_true (value.Int n) = false
is_true (value.Tag e t) = false
