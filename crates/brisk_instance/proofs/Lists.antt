-- Counts of tokens that stay at a greatest number.
use Rattle.std.proofs.Common.{◌≡◌, ℕ, zero, suc, ◌+◌, ◌*◌, ◌-◌, min, List, [], ◌∷◌, length, arith, refl}
use Rattle.std.specs.Prelude.{sum_by}
use Rattle.std.proofs.Math.Nat.{suc-mul}
use Rattle.std.proofs.lemmas.List.Sums.{sum_by-cons}
use Rattle.brisk_syntax.specs.Syntax.{Expression}
use Rattle.brisk_syntax.specs.Tokens.{separated, expression_tokens, list_tokens}

pub names_tokens_is : {X : Type 0} (xs : List X) → separated (λ x. 1) xs ≡ 2 * length xs - 1
names_tokens_is [] = refl
names_tokens_is (x ∷ []) = omega arith
names_tokens_is (x ∷ y ∷ xs) = omega (arith, names_tokens_is (y ∷ xs))

-- a list has the tokens of its parts and one comma less than it has parts
pub list_tokens_is : (es : List Expression) → list_tokens es ≡ (length es - 1) + sum_by expression_tokens es
list_tokens_is [] = omega arith
list_tokens_is (e ∷ []) = omega (arith, sum_by-cons expression_tokens e [])
list_tokens_is (e ∷ f ∷ es) = omega (arith, list_tokens_is (f ∷ es), sum_by-cons expression_tokens e (f ∷ es), sum_by-cons expression_tokens f es)

-- the second factor may be cut off at the greatest number too
pub capped_product : (k t m : ℕ) → min (k * min t m) m ≡ min (k * t) m
capped_product zero t m = omega arith
capped_product (suc k) t m = omega (arith, capped_product k t m, suc-mul k (min t m), suc-mul k t)
