-- The value of an expression.
use Rattle.std.specs.Prelude.{ℕ, pos, false, List, [], ◌∷◌, Option, Some, None, if◌then◌else◌}
use Rattle.brisk_values.specs.declared.value.Value.{Value}
use Rattle.brisk_values.specs.declared.value.Value.TheVariants as value
use Rattle.brisk_values.specs.Values.{wrapped}
use Rattle.brisk_values.specs.Operations.{applied1, applied2}
use Rattle.brisk_values.specs.Names.{Name, same_name}
use Rattle.brisk_syntax.specs.Syntax.{Expression, Num, Truth, Var, Tag, Size, Paren, Un, Bin}

-- the size of a set, and 0 where it has none
abbrev pub size_in : List (Name × ℕ) → Name → ℕ
size_in [] s = 0
size_in (e ∷ es) s = if same_name e.0 s then e.1 else size_in es s

-- the value of a variable, and false where it has none
abbrev pub or_false : Option Value → Value
or_false None = value.Bool false
or_false (Some v) = v

-- the value of an expression, from the sizes of the sets and the process's own variables
abbrev pub value_of : (Name → ℕ) → (Name → Option Value) → Expression → Value
value_of sizes own (Num n) = value.Int (wrapped (pos n))
value_of sizes own (Truth b) = value.Bool b
value_of sizes own (Var x) = or_false (own x)
value_of sizes own (Tag e t) = value.Tag e t
value_of sizes own (Size s) = value.Int (wrapped (pos (sizes s)))
value_of sizes own (Paren e) = value_of sizes own e
value_of sizes own (Un op e) = applied1 op (value_of sizes own e)
value_of sizes own (Bin op e f) = applied2 op (value_of sizes own e) (value_of sizes own f)
