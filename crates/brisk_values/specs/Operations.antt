-- What the operators give. Arithmetic is modulo 2^64, and an operand of the wrong kind gives false.
use Rattle.std.specs.Prelude.{◌+ℤ◌, ◌-ℤ◌, ◌*ℤ◌, neg_ℤ, int_lt, false, ◌&&◌, ◌||◌, not}
use Rattle.brisk_values.specs.declared.value.Value.{Value}
use Rattle.brisk_values.specs.declared.value.Value.TheVariants.{Int, Bool as Truth}
use Rattle.brisk_values.specs.declared.operation.Op1.{Op1}
use Rattle.brisk_values.specs.declared.operation.Op1.TheVariants.{Neg, Not}
use Rattle.brisk_values.specs.declared.operation.Op2.{Op2}
use Rattle.brisk_values.specs.declared.operation.Op2.TheVariants.{Add, Sub, Mul, Eq, Ne, Lt, Le, Gt, Ge, And, Or}
use Rattle.brisk_values.specs.Values.{kind_of, wrapped, same_kind, same_value}

-- the value of an operator with one operand
abbrev pub applied1 : Op1 → Value → Value
applied1 Neg (Int n) = Int (wrapped (neg_ℤ n))
applied1 Not (Truth b) = Truth (not b)
applied1 _ _ = Truth false

-- the value of an operator with two operands
abbrev pub applied2 : Op2 → Value → Value → Value
applied2 Add (Int m) (Int n) = Int (wrapped (m +ℤ n))
applied2 Sub (Int m) (Int n) = Int (wrapped (m -ℤ n))
applied2 Mul (Int m) (Int n) = Int (wrapped (m *ℤ n))
applied2 Lt (Int m) (Int n) = Truth (int_lt m n)
applied2 Le (Int m) (Int n) = Truth (not (int_lt n m))
applied2 Gt (Int m) (Int n) = Truth (int_lt n m)
applied2 Ge (Int m) (Int n) = Truth (not (int_lt m n))
applied2 And (Truth p) (Truth q) = Truth (p && q)
applied2 Or (Truth p) (Truth q) = Truth (p || q)
applied2 Eq a b = Truth (same_value a b)
applied2 Ne a b = Truth (same_kind (kind_of a) (kind_of b) && not (same_value a b))
applied2 _ _ _ = Truth false
