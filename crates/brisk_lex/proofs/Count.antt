-- There are no more tokens than bytes.
use Rattle.std.proofs.Common.{◌≡◌, ◌==◌, ◌≤◌, Bool, true, false, ℕ, zero, suc, List, [], ◌∷◌, length, take, Result, Ok, Err, refl, ap, subst, arith}
use Rattle.std.specs.Prelude.{IfOk}
use Rattle.std.specs.Str.{chars}
use Rattle.std.specs.Str.Lossy.{utf8_valid_len}
use Rattle.std.proofs.lemmas.List.{length-take-le}
use Rattle.std.proofs.lemmas.Str.{length-le-encodes, encodes-chars, utf8_valid_len_le}
use Rattle.brisk_lex.specs.declared.token.Placed.{Placed}
use Rattle.brisk_lex.specs.declared.fault.LexFault.{LexFault}
use Rattle.brisk_lex.specs.Seen.{Gives}
use Rattle.brisk_lex.specs.Tokens.{Text, Cut, Blank, Takes, Fails, cut, place, placed, with_front, goes_on, lexed, then_broken, tokens}
use Rattle.brisk_lex.proofs.Broken.{valid_front}

-- at most m tokens are read
abbrev AtMost : ℕ → Result (List Placed) LexFault → Type 0
AtMost m (Ok ts) = length ts ≤ m
AtMost m (Err e) = Unit {0}

more : (m : ℕ) (p : Placed) (r : Result (List Placed) LexFault) → AtMost m r → AtMost (suc m) (with_front (p ∷ []) r)
more m p (Ok ts) h = omega arith
more m p (Err e) h = tt

one_more : (m : ℕ) (r : Result (List Placed) LexFault) → AtMost m r → AtMost (suc m) r
one_more m (Ok ts) h = omega arith
one_more m (Err e) h = tt

step : (m : ℕ) (x : Cut) (at : ℕ) (rest : ℕ → Result (List Placed) LexFault) → ((k : ℕ) → AtMost m (rest k)) → AtMost (suc m) (goes_on x at rest)
step m (Blank k) at rest h = one_more m (rest k) (h k)
step m (Takes t k) at rest h = more m (placed t at) (rest k) (h k)
step m (Fails w) at rest h = tt

few : (n k : ℕ) (cs : Text) → AtMost (length cs) (lexed n k cs)
few n k [] = omega arith
few n (suc k) (c ∷ cs) = one_more (length cs) (lexed n k cs) (few n k cs)
few n zero (c ∷ cs) = step (length cs) (cut c cs) (place n (c ∷ cs)) (λ k. lexed n k cs) (λ k. few n k cs)

at_most_more : (m n : ℕ) (r : Result (List Placed) LexFault) → m ≤ n → AtMost m r → AtMost n r
at_most_more m n (Ok ts) l h = omega arith
at_most_more m n (Err e) l h = tt

then_few : (bs : List ℕ) (n m : ℕ) (r : Result (List Placed) LexFault) (b : Bool) → (n == length bs) ≡ b → AtMost m r → AtMost m (then_broken bs n r)
then_few bs n m (Err e) b is h = tt
then_few bs n m (Ok ts) true is h = rw is h
then_few bs n m (Ok ts) false is h = rw is tt

few_tokens : (bs : List ℕ) → AtMost (length bs) (tokens bs)
unfolding tokens
few_tokens bs =
    let n : ℕ = utf8_valid_len bs in
    let front : List ℕ = take n bs in
    let chars_few : length (chars front) ≤ length bs =
    omega (arith, length-le-encodes (chars front), ap length (encodes-chars front (valid_front bs)), length-take-le n bs (utf8_valid_len_le bs), utf8_valid_len_le bs) in
    then_few bs n (length bs) (lexed n 0 (chars front)) (n == length bs) refl (at_most_more (length (chars front)) (length bs) (lexed n 0 (chars front)) chars_few (few n 0 (chars front)))

-- the same of what a call answers
pub answer_is_few : {X : Type 0} (view : X → List Placed) (bs : List ℕ) (r : Result X LexFault) → Gives view r (tokens bs) → IfOk r (λ x. length (view x) ≤ length bs)
answer_is_few view bs (Ok x) h = subst (AtMost (length bs)) h (few_tokens bs)
answer_is_few view bs (Err e) h = tt
