-- A token is taken where there is room, and a statement counted where one may begin.
use Rattle.std.proofs.Common.{◌≡◌, ℕ, ◌+◌, ◌-◌, false, List, ◌∷◌, nat_eq, Ok, arith}
use Rattle.brisk_lex.specs.declared.token.Token.{Token}
use Rattle.brisk_parse.specs.Input.{at}
use Rattle.brisk_parse.specs.Reading.{spend, count}

not_zero : (n r : ℕ) → n ≡ 1 + r → nat_eq n 0 ≡ false
not_zero n r h = rw h (grind arith)

-- a token of an expression is taken where there is room
pub spend_only : (k : Token) (rest : List Token) (s r n : ℕ) → s ≡ 1 + r → spend (at (k ∷ rest) s n) ≡ Ok (tt, at rest r n)
unfolding spend
spend_only k rest s r n h = let e : s - 1 ≡ r = omega (arith, h) in rw (not_zero s r h) (λ i. Ok (tt, at rest (e i) n))

-- a statement is counted where there may be one
pub count_only : (rest : List Token) (r a b : ℕ) → a ≡ 1 + b → count (at rest r a) ≡ Ok (tt, at rest r b)
unfolding count
count_only rest r a b h = let e : a - 1 ≡ b = omega (arith, h) in rw (not_zero a b h) (λ i. Ok (tt, at rest r (e i)))
