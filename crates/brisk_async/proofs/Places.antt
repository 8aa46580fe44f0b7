-- The first place in a list at which a test passes.
use Rattle.std.proofs.Common.{◌≡◌, ℕ, ◌+◌, ◌<◌, List, [], ◌∷◌, length, map, get_or, Bool, false, cond, refl, ap, arith}
use Rattle.std.specs.Prelude.{not}
use Rattle.std.specs.List.{position_or_len}
use Rattle.std.proofs.lemmas.List.Sums.{position_or_len_is}

pub mapped_place : {X Y : Type 0} (f : X → Y) (p : Y → Bool) (xs : List X) → position_or_len p (map f xs) ≡ position_or_len (λ x. p (f x)) xs
mapped_place f p [] = refl
mapped_place f p (x ∷ xs) = ap (λ n. cond (not (p (f x))) (1 + n) 0) (mapped_place f p xs)

-- where no element passes, the place is behind all
pub place_behind : {X : Type 0} (p : X → Bool) (xs : List X) → ((j : ℕ) (d : X) → j < length xs → p (get_or xs j d) ≡ false) → position_or_len p xs ≡ length xs
place_behind p [] h = refl
place_behind p (x ∷ xs) h = position_or_len_is p (x ∷ xs) (length (x ∷ xs)) x (omega arith) (λ j l. h j x l) (λ l. absurd (omega arith))
