-- One step of the loop.
use Rattle.std.proofs.Common.{◌≡◌, true, nat_eq, ℕ, zero, suc, ◌-◌, ◌≤◌, List, [], ◌∷◌, ◌++◌, length, take, drop, IsUtf8, Result, Ok, Err, refl, sym, ap, ◌∙◌, arith, append_assoc}
use Rattle.std.specs.Str.{chars, encode_utf8_all}
use Rattle.std.specs.Char.{encode_utf8}
use Rattle.std.proofs.lemmas.List.{length-append, take_all}
use Rattle.std.proofs.lemmas.Str.{encodes-chars, utf8_valid_len-IsUtf8}
use Rattle.brisk_lex.specs.declared.token.Token.{Token}
use Rattle.brisk_lex.specs.declared.token.Placed.{Placed}
use Rattle.brisk_lex.specs.declared.fault.Wrong.{Wrong}
use Rattle.brisk_lex.specs.declared.fault.LexFault.{LexFault}
use Rattle.brisk_lex.specs.Tokens.{Text, cut, Blank, Takes, Fails, fault_at, place, placed, with_front, lexed, then_broken, tokens}
use Rattle.brisk_lex.specs.declared.fault.Wrong.TheVariants as wrong
use Rattle.brisk_lex.specs.Seen.{IsFault}
use Rattle.brisk_lex.proofs.Chars.{bytes_before}

pub skips : (n k : ℕ) (cs : Text) → lexed n k cs ≡ lexed n 0 (drop k cs)
skips n zero cs = refl
skips n (suc k) [] = refl
skips n (suc k) (c ∷ cs) = skips n k cs

fronts : (a b : List Placed) (r : Result (List Placed) LexFault) → with_front a (with_front b r) ≡ with_front (a ++ b) r
fronts a b (Ok ts) = ap (λ (l : List Placed). Ok l) (sym (append_assoc a b ts))
fronts a b (Err e) = refl

pub step_blank : (n k c : ℕ) (cs rest next : Text) (front : List Placed) (total : Result (List Placed) LexFault) → rest ≡ c ∷ cs → cut c cs ≡ Blank k → next ≡ drop k cs → with_front front (lexed n 0 rest) ≡ total → with_front front (lexed n 0 next) ≡ total
step_blank n k c cs rest next front total e is to h =
    let one : lexed n 0 rest ≡ lexed n 0 next = rw (e, is, to) (skips n k cs) in
    ap (with_front front) (sym one) ∙ h

pub step_takes : (n k c at : ℕ) (t : Token) (cs rest next : Text) (front : List Placed) (total : Result (List Placed) LexFault) → rest ≡ c ∷ cs → cut c cs ≡ Takes t k → next ≡ drop k cs → at ≡ place n rest → with_front front (lexed n 0 rest) ≡ total → with_front (front ++ placed t at ∷ []) (lexed n 0 next) ≡ total
step_takes n k c at t cs rest next front total e is to there h =
    let one : lexed n 0 rest ≡ with_front (placed t at ∷ []) (lexed n 0 next) = rw (there, e, is, to) (ap (with_front (placed t (place n (c ∷ cs)) ∷ [])) (skips n k cs)) in
    sym (fronts front (placed t at ∷ []) (lexed n 0 next)) ∙ ap (with_front front) (sym one) ∙ h

pub step_fails : (n c at : ℕ) (w : Wrong) (cs rest : Text) (front : List Placed) (total : Result (List Placed) LexFault) → rest ≡ c ∷ cs → cut c cs ≡ Fails w → at ≡ place n rest → with_front front (lexed n 0 rest) ≡ total → total ≡ Err (fault_at w at)
step_fails n c at w cs rest front total e is there h =
    let one : lexed n 0 rest ≡ Err (fault_at w at) = rw (there, e, is) refl in
    sym h ∙ ap (with_front front) one

pub place_is : (n : ℕ) (rest : List ℕ) → IsUtf8 rest → n - length rest ≡ place n (chars rest)
place_is n rest u = ap (λ l. n - length l) (sym (encodes-chars rest u))

pub shorter : (rest after next : List ℕ) (c k : ℕ) → IsUtf8 after → IsUtf8 next → rest ≡ encode_utf8 c ++ after → chars next ≡ drop k (chars after) → length next ≤ length rest
shorter rest after next c k u v e h =
    let whole = ap length (bytes_before after next k u v h) in
    omega (arith, whole, length-append (encode_utf8_all (take k (chars after))) next, ap length e, length-append (encode_utf8 c) after)

pub as_fault : (w : Wrong) (at : ℕ) (total : Result (List Placed) LexFault) → total ≡ Err (fault_at w at) → IsFault (fault_at w at) total
as_fault wrong.BadChar at total h = h
as_fault wrong.NumberTooLarge at total h = h
as_fault wrong.NameTooLong at total h = h

same_self : (n : ℕ) → nat_eq n n ≡ true
same_self n = grind arith

not_broken : (bytes : List ℕ) (r : Result (List Placed) LexFault) → then_broken bytes (length bytes) r ≡ r
not_broken bytes (Ok ts) = rw (same_self (length bytes)) refl
not_broken bytes (Err e) = refl

pub whole_text : (bytes : List ℕ) → IsUtf8 bytes → tokens bytes ≡ lexed (length bytes) 0 (chars bytes)
unfolding tokens
whole_text bytes u = rw (utf8_valid_len-IsUtf8 bytes u, take_all (length bytes) bytes (omega arith)) (not_broken bytes (lexed (length bytes) 0 (chars bytes)))
