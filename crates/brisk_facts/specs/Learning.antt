-- What facts tell of an expression, and what an expression that is true or false tells.
use Rattle.std.specs.Prelude.{pos, Bool, true, false, not, Option, Some, None, option_map, option_and_then}
use Rattle.brisk_values.specs.declared.operation.Op1.TheVariants.{Not}
use Rattle.brisk_values.specs.declared.operation.Op2.TheVariants.{Eq, Ne, And, Or}
use Rattle.brisk_values.specs.declared.value.Value.{Value}
use Rattle.brisk_values.specs.declared.value.Value.TheVariants as value
use Rattle.brisk_values.specs.Names.{Name}
use Rattle.brisk_values.specs.Operations.{applied1, applied2}
use Rattle.brisk_values.specs.Values.{wrapped}
use Rattle.brisk_syntax.specs.Syntax.{Expression, Num, Truth, Var, Tag, Size, Paren, Un, Bin}
use Rattle.brisk_facts.specs.Facts.{Facts, fact, with_fact}

-- the value of an expression, where no size stands in it and each of its variables is known
abbrev pub fold : (Name → Option Value) → Expression → Option Value
fold known (Num n) = Some (value.Int (wrapped (pos n)))
fold known (Truth b) = Some (value.Bool b)
fold known (Var x) = known x
fold known (Tag e t) = Some (value.Tag e t)
fold known (Size s) = None
fold known (Paren e) = fold known e
fold known (Un op e) = option_map (applied1 op) (fold known e)
fold known (Bin op e f) = option_and_then (λ a. option_map (applied2 op a) (fold known f)) (fold known e)

-- the value of an expression at a role, under the facts
abbrev pub folded : Facts → Name → Expression → Option Value
folded facts at e = fold (fact facts at) e

-- the variable that the expression is, brackets aside
abbrev pub variable_in : Expression → Option Name
variable_in (Var x) = Some x
variable_in (Paren e) = variable_in e
variable_in e = None

-- Two sides are equal, of which each may be a variable and may have a value: the variable on the left has the value of the
-- right, or otherwise the variable on the right has that of the left.
abbrev pub learn_equal : Name → Facts → Option Name → Option Value → Option Name → Option Value → Facts
learn_equal at facts (Some x) (Some w) y v = with_fact at x w facts
learn_equal at facts x w (Some y) (Some v) = with_fact at y v facts
learn_equal at facts x w y v = facts

-- the facts, and what it tells that the expression has this truth at a role
abbrev pub learn : Name → Facts → Expression → Bool → Facts
learn at facts (Var x) b = with_fact at x (value.Bool b) facts
learn at facts (Paren e) b = learn at facts e b
learn at facts (Un Not e) b = learn at facts e (not b)
learn at facts (Bin And e f) true = learn at (learn at facts e true) f true
learn at facts (Bin Or e f) false = learn at (learn at facts e false) f false
learn at facts (Bin Eq e f) true = learn_equal at facts (variable_in e) (folded facts at f) (variable_in f) (folded facts at e)
learn at facts (Bin Ne e f) false = learn_equal at facts (variable_in e) (folded facts at f) (variable_in f) (folded facts at e)
learn at facts e b = facts
