-- Bytes and characters.
use Rattle.std.proofs.Common.{◌≡◌, Bool, true, false, if◌then◌else◌, ◌<◌, ℕ, suc, ◌+◌, ◌-◌, ◌*◌, ◌^◌, ◌≤◌, min, List, [], ◌∷◌, ◌++◌, length, take, drop, IsUtf8, refl, sym, ap, ◌∙◌, arith}
use Rattle.std.specs.Str.{chars, encode_utf8_all}
use Rattle.std.proofs.lemmas.List.{take-append-drop, take_at, length-append}
use Rattle.std.proofs.lemmas.Str.{encodes-append, encodes-chars, length-encode, len_utf8_bounds}
use Rattle.std.specs.Char.{is_ascii_digit, encode_utf8}
use Rattle.std.specs.List.{prefix_len}
use Rattle.brisk_lex.specs.Tokens.{number}

-- the bytes before a place are those of the characters before it
pub bytes_before : (start end : List ℕ) (n : ℕ) → IsUtf8 start → IsUtf8 end → chars end ≡ drop n (chars start) → start ≡ encode_utf8_all (take n (chars start)) ++ end
bytes_before start end n u v e =
    sym (encodes-chars start u) ∙ ap encode_utf8_all (sym (take-append-drop n (chars start))) ∙ encodes-append (take n (chars start)) (drop n (chars start))
    ∙ ap (λ l. encode_utf8_all (take n (chars start)) ++ l) (ap encode_utf8_all (sym e) ∙ encodes-chars end v)

-- a number that was cut at the limit stays there
number_cut_at : (m n c : ℕ) (cs : List ℕ) (b : Bool) → ((m n : ℕ) → min m (2 ^ 64 - 1) ≡ min n (2 ^ 64 - 1) → min (number m cs) (2 ^ 64 - 1) ≡ min (number n cs) (2 ^ 64 - 1)) → min m (2 ^ 64 - 1) ≡ min n (2 ^ 64 - 1) → min (if b then number (10 * m + (c - 48)) cs else m) (2 ^ 64 - 1) ≡ min (if b then number (10 * n + (c - 48)) cs else n) (2 ^ 64 - 1)
number_cut_at m n c cs true rest e = rest (10 * m + (c - 48)) (10 * n + (c - 48)) (omega (arith, e))
number_cut_at m n c cs false rest e = e

number_cut : (m n : ℕ) (cs : List ℕ) → min m (2 ^ 64 - 1) ≡ min n (2 ^ 64 - 1) → min (number m cs) (2 ^ 64 - 1) ≡ min (number n cs) (2 ^ 64 - 1)
number_cut m n [] e = e
number_cut m n (c ∷ cs) e = number_cut_at m n c cs (is_ascii_digit c) (λ m n h. number_cut m n cs h) e

pub number_step : (v d w : ℕ) (cs ds : List ℕ) → cs ≡ d ∷ ds → is_ascii_digit d ≡ true → w ≡ min (min (v * 10) (2 ^ 64 - 1) + (d - 48)) (2 ^ 64 - 1) → min (number w ds) (2 ^ 64 - 1) ≡ min (number v cs) (2 ^ 64 - 1)
number_step v d w cs ds e is h = rw (e, is) (number_cut w (10 * v + (d - 48)) ds (omega (arith, h)))

-- a name and the text around it
pub record IsNameText (start end : List ℕ) (name : List ℕ) : Type 0 where
  pub shorter : length end ≤ length start
  pub bytes : take (length start - length end) start ≡ name
  pub some : 0 < length name

pub name_text : (start after end : List ℕ) (c n : ℕ) → IsUtf8 start → IsUtf8 end → chars start ≡ c ∷ chars after → chars end ≡ drop n (chars after) → IsNameText start end (encode_utf8_all (c ∷ take n (chars after)))
name_text start after end c n u v e h =
    let name = encode_utf8_all (c ∷ take n (chars after)) in
    let whole : start ≡ name ++ end = bytes_before start end (suc n) u v (rw e h) ∙ ap (λ l. encode_utf8_all (take (suc n) l) ++ end) e in
    let lens : length start ≡ length name + length end = ap length whole ∙ length-append name end in
    let all : length start - length end ≡ length name = omega (arith, lens) in
    let least = len_utf8_bounds c in
    let one : length (encode_utf8 c) + length (encode_utf8_all (take n (chars after))) ≡ length name = sym (length-append (encode_utf8 c) (encode_utf8_all (take n (chars after)))) in
    record {
      shorter = omega (arith, lens);
      bytes = rw (all, whole) (take_at name end (length name) refl);
      some = omega (arith, one, length-encode c, least.0);
    }

pub past_step : (p : ℕ → Bool) (d : ℕ) (cs ds : List ℕ) → cs ≡ d ∷ ds → p d ≡ true → drop (prefix_len p ds) ds ≡ drop (prefix_len p cs) cs
past_step p d cs ds e is = let k : 1 + prefix_len p ds ≡ suc (prefix_len p ds) = omega arith in rw (e, is, k) refl
