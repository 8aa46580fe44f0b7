-- Two texts compared byte by byte.
use Rattle.std.proofs.Common.{◌≡◌, ◌<◌, ◌+◌, ℕ, Bool, true, false, [], ◌∷◌, drop, length, length-drop, min, Option, Some, None, refl, sym, ap, ◌∙◌, arith}
use Rattle.std.specs.Prelude.{nat_lt, option_map}
use Rattle.std.proofs.lemmas.Bool.{ltb-false, ltb-true}
use Rattle.brisk_text.specs.Values.{Text}
use Rattle.brisk_check.specs.Checking.{differs_at}

-- the place in whole texts, by that in what is left of them behind their first i bytes
abbrev pub from : ℕ → Option ℕ → Option ℕ
from i o = option_map (λ n. n + i) o

pub from_start : (o : Option ℕ) → o ≡ from 0 o
from_start None = refl
from_start (Some n) = ap Some (omega arith)

-- one text ends here, and the other goes on
ends_there : (a b : Text) → length a ≡ 0 → 0 < length b → differs_at a b ≡ Some 0
ends_there [] (y ∷ b) h k = refl
ends_there [] [] h k = absurd (omega arith)
ends_there (x ∷ a) b h k = absurd (omega arith)

ends_here : (a b : Text) → 0 < length a → length b ≡ 0 → differs_at a b ≡ Some 0
ends_here (x ∷ a) [] h k = refl
ends_here [] b h k = absurd (omega arith)
ends_here (x ∷ a) (y ∷ b) h k = absurd (omega arith)

pub other_length : (a b : Text) (i : ℕ) → min (length a) (length b) ≡ i → (length a ≡ length b → ⊥) → differs_at a b ≡ from i (differs_at (drop i a) (drop i b)) → Some i ≡ differs_at a b
other_length a b i h other so_far =
    let zero : from i (Some 0) ≡ Some i = ap Some (omega arith) in
    sym (so_far ∙ ap (from i) (by (nat_lt (length a) (length b)) refl) ∙ zero)
  where
    by : (t : Bool) → nat_lt (length a) (length b) ≡ t → differs_at (drop i a) (drop i b) ≡ Some 0
    by true e =
        let le = ltb-true (length a) (length b) e in
        let l = length-drop i a in
        let m = length-drop i b in
        ends_there (drop i a) (drop i b) (omega arith) (omega arith)
    by false e =
        let gt = ltb-false (length a) (length b) e in
        let l = length-drop i a in
        let m = length-drop i b in
        ends_here (drop i a) (drop i b) (omega arith) (omega arith)
