-- What a folded value is.
use Rattle.std.specs.Prelude.{◌≡◌, ℕ, Option, Some}
use Rattle.brisk_values.specs.declared.value.Value.{Value}
use Rattle.brisk_values.specs.Names.{Name}
use Rattle.brisk_syntax.specs.Syntax.{Expression}
use Rattle.brisk_syntax.specs.Value.{or_false, value_of}
use Rattle.brisk_facts.specs.Learning.{fold}

-- the variables have the values that are known of them; one without a value counts as false
abbrev pub Agrees : (Name → Option Value) → (Name → Option Value) → Type 0
Agrees own known = (x : Name) (v : Value) → known x ≡ Some v → or_false (own x) ≡ v

-- a folded value is the expression's value wherever the variables agree with what is known
abbrev pub FoldIsValue : Type 0
FoldIsValue =
    (sizes : Name → ℕ) (own known : Name → Option Value) → Agrees own known → (e : Expression) (v : Value) → fold known e ≡ Some v →
    value_of sizes own e ≡ v
