-- Numbers of tokens of lists.
use Rattle.std.proofs.Common.{◌≡◌, ℕ, ◌+◌, ◌*◌, ◌-◌, ◌≤◌, List, [], ◌∷◌, length, arith, refl}
use Rattle.brisk_syntax.specs.Syntax.{Expression}
use Rattle.brisk_syntax.specs.Tokens.{separated, expression_tokens, list_tokens}

-- the tokens of expressions, with one after each
abbrev pub spaced_tokens : List Expression → ℕ
spaced_tokens [] = 0
spaced_tokens (e ∷ es) = expression_tokens e + 1 + spaced_tokens es

pub spaced_is : (es : List Expression) → list_tokens es ≡ spaced_tokens es - 1
spaced_is [] = refl
spaced_is (e ∷ []) = omega arith
spaced_is (e ∷ f ∷ es) = omega (arith, spaced_is (f ∷ es))

pub names_is : {X : Type 0} (xs : List X) → separated (λ x. 1) xs ≡ 2 * length xs - 1
names_is [] = refl
names_is (x ∷ []) = omega arith
names_is (x ∷ y ∷ xs) = omega (arith, names_is (y ∷ xs))

pub spaced_room : (es : List Expression) → spaced_tokens es ≤ list_tokens es + 1
spaced_room es = omega (arith, spaced_is es)
