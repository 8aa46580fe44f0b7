-- The values of a message, one variable after another.
use Rattle.std.proofs.Common.{◌≡◌, ℕ, zero, suc, ◌≤◌, min, List, [], ◌∷◌, drop, length, map, Option, refl, arith}
use Rattle.brisk_values.specs.declared.value.Value.{Value}
use Rattle.brisk_values.specs.Names.{Name}
use Rattle.brisk_facts.specs.Facts.{Facts, with_values}

no_values : (to : Name) (xs : List Name) (facts : Facts) → with_values to xs [] facts ≡ facts
no_values to [] facts = refl
no_values to (x ∷ xs) facts = refl

-- past the end of the variables, or of the values, nothing is changed
pub values_end : {A B : Type 0} (f : B → Option Value) (g : A → B) (to : Name) (i : ℕ) (xs : List Name) (es : List A) (facts : Facts) → min (length xs) (length es) ≤ i →
    with_values to (drop i xs) (map f (map g (drop i es))) facts ≡ facts
values_end f g to zero [] es facts h = refl
values_end f g to zero (x ∷ xs) [] facts h = refl
values_end f g to zero (x ∷ xs) (e ∷ es) facts h = absurd (omega arith)
values_end f g to (suc i) [] es facts h = refl
values_end f g to (suc i) (x ∷ xs) [] facts h = no_values to (drop i xs) facts
values_end f g to (suc i) (x ∷ xs) (e ∷ es) facts h = values_end f g to i xs es facts (omega arith)
