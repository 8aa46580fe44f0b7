-- Each token that is read can be spelled: its names are names of the language, and its numbers are within the limit.
use Rattle.std.proofs.Common.{◌≡◌, ◌==◌, ◌≤◌, ◌^◌, Bool, true, false, ℕ, zero, suc, List, [], ◌∷◌, length, map, take, Result, Ok, Err, refl, sym, ap, subst, ◌∙◌}
use Rattle.std.specs.Str.{chars, all_scalars}
use Rattle.std.specs.Str.Lossy.{utf8_valid_len}
use Rattle.std.proofs.lemmas.Str.{chars-encodes, scalars-chars}
use lib.Utf8.{scalar}
use Rattle.brisk_lex.specs.declared.token.Token.{Token}
use Rattle.brisk_lex.specs.declared.token.Token.TheVariants as t
use Rattle.brisk_lex.specs.declared.token.Placed.{Placed}
use Rattle.brisk_lex.specs.declared.fault.LexFault.{LexFault}
use Rattle.brisk_lex.specs.Tokens.{Text, Cut, Blank, Takes, Fails, cut, place, placed, with_front, goes_on, lexed, then_broken, tokens}
use Rattle.brisk_lex.specs.Spelled.{IsSpelled, IsName, CanBeSpelled, AllCanBeSpelled}
use Rattle.brisk_lex.specs.Longest.{IsCutOff}
use Rattle.brisk_lex.proofs.Broken.{valid_front}
use Rattle.brisk_lex.proofs.Cutting.{longest_is_cut}
use Rattle.brisk_values.proofs.Changes.{both_true}

pub name_of_spelled : (x : List ℕ) → CanBeSpelled (t.Name x) → IsName x
name_of_spelled x h =
    let back : chars x ≡ h.0 = ap chars h.2.0 ∙ chars-encodes h.0 h.1 in
    ((h.0, (h.1, sym h.2.0)), subst (IsSpelled (t.Name x)) (sym back) h.2)

pub number_of_spelled : (n : ℕ) → CanBeSpelled (t.Num n) → n ≤ 2 ^ 63
number_of_spelled n h = h.2.2

-- ---- what is read

abbrev Spelt : Result (List Placed) LexFault → Type 0
Spelt (Ok ts) = AllCanBeSpelled (map (λ p. p.token) ts)
Spelt (Err e) = Unit {0}

scalars_take : (k : ℕ) (cs : Text) → all_scalars cs ≡ true → all_scalars (take k cs) ≡ true
scalars_take zero cs h = refl
scalars_take (suc k) [] h = refl
scalars_take (suc k) (c ∷ cs) h = let b = both_true (scalar c) (all_scalars cs) h in rw (b.0, scalars_take k cs b.1) refl

one_more : (t : Token) (at : ℕ) (r : Result (List Placed) LexFault) → CanBeSpelled t → Spelt r → Spelt (with_front (placed t at ∷ []) r)
one_more t at (Ok ts) h rest = (h, rest)
one_more t at (Err e) h rest = tt

step : (c : ℕ) (cs : Text) (x : Cut) (at : ℕ) (rest : ℕ → Result (List Placed) LexFault) → all_scalars (c ∷ cs) ≡ true → IsCutOff c cs x → ((k : ℕ) → Spelt (rest k)) → Spelt (goes_on x at rest)
step c cs (Blank k) at rest s is h = h k
step c cs (Takes t k) at rest s is h =
    let b = both_true (scalar c) (all_scalars cs) s in
    let front : all_scalars (c ∷ take k cs) ≡ true = rw (b.0, scalars_take k cs b.1) refl in
    one_more t at (rest k) (c ∷ take k cs, front, is.0) (h k)
step c cs (Fails w) at rest s is h = tt

read_spelt : (n k : ℕ) (cs : Text) → all_scalars cs ≡ true → Spelt (lexed n k cs)
read_spelt n k [] s = tt
read_spelt n (suc k) (c ∷ cs) s = read_spelt n k cs (both_true (scalar c) (all_scalars cs) s).1
read_spelt n zero (c ∷ cs) s = step c cs (cut c cs) (place n (c ∷ cs)) (λ k. lexed n k cs) s (longest_is_cut c cs) (λ k. read_spelt n k cs (both_true (scalar c) (all_scalars cs) s).1)

then_spelt : (bs : List ℕ) (n : ℕ) (r : Result (List Placed) LexFault) (b : Bool) → (n == length bs) ≡ b → Spelt r → Spelt (then_broken bs n r)
then_spelt bs n (Err e) b is h = tt
then_spelt bs n (Ok ts) true is h = rw is h
then_spelt bs n (Ok ts) false is h = rw is tt

all_spelt : (bs : List ℕ) → Spelt (tokens bs)
unfolding tokens
all_spelt bs =
    let n : ℕ = utf8_valid_len bs in
    then_spelt bs n (lexed n 0 (chars (take n bs))) (n == length bs) refl (read_spelt n 0 (chars (take n bs)) (scalars-chars (take n bs) (valid_front bs)))

pub tokens_can_be_spelled : (bs : List ℕ) (ts : List Placed) → tokens bs ≡ Ok ts → AllCanBeSpelled (map (λ p. p.token) ts)
tokens_can_be_spelled bs ts h = subst Spelt h (all_spelt bs)
