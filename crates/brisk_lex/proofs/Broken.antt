-- The byte of a fault NotUtf8 is the least at which the bytes begin no text.
use Rattle.std.proofs.Common.{if◌then◌else◌, ◌-◌, ◌&&◌, ◌≡◌, ℕ, zero, suc, ◌+◌, ◌<◌, ◌≤◌, ◌⊎◌, inl, inr, Bool, true, false, List, [], ◌∷◌, ◌++◌, length, take, drop, IsUtf8, Result, Ok, Err, refl, sym, ap, subst, ◌∙◌, arith, append_assoc}
use Rattle.std.specs.Prelude.{slice_index, IfErr}
use Rattle.brisk_lex.specs.Seen.{Gives}
use lib.Utf8.{scalar as scalar_value}
use Rattle.std.specs.Char.{IsScalar, encode_utf8}
use Rattle.std.specs.Str.{chars, is_utf8, encode_utf8_all, all_scalars}
use Rattle.std.specs.Str.Lossy.{utf8_valid_len, valid_len_up_to}
use Rattle.std.proofs.lemmas.Bool.Decides.{leb_tells, eqb_tells}
use Rattle.std.proofs.lemmas.List.{length-append, length-take-le, length-drop, take-append-le, take_at, drop_at, get_or-take}
use Rattle.std.proofs.Math.Seq.{take-add, take-take}
use Rattle.std.proofs.Math.ListN.{get_or-append}
use Rattle.std.proofs.lemmas.Str.{IsUtf8-nil, IsUtf8-append, IsUtf8-encode, IsUtf8-drop, IsUtf8-from_is_utf8, is_utf8-from_IsUtf8, IsCharBoundary-from_take, length-encode, len_utf8_bounds, utf8_valid_len_le, utf8_valid_len-IsUtf8}
use Rattle.brisk_lex.specs.declared.token.Placed.{Placed}
use Rattle.brisk_lex.specs.declared.fault.Wrong.TheVariants as wrong
use Rattle.brisk_lex.specs.declared.fault.LexFault.{LexFault}
use Rattle.brisk_lex.specs.declared.fault.LexFault.TheVariants.{NotUtf8, BadChar, NumberTooLarge, NameTooLong, NoMemory}
use Rattle.brisk_lex.specs.Broken.{BeginsText, IsBroken, IsNotUtf8At}
use Rattle.brisk_lex.specs.Tokens.{Text, Cut, Blank, Takes, Fails, cut, with_front, goes_on, place, placed, lexed, begun, then_broken, tokens}
use Rattle.brisk_lex.proofs.Encoding.{long_bytes}
use Rattle.brisk_lex.proofs.Begun.{Leads, begun_le, begun_leads, begun_most, leads_on}

-- ---- the longest front that is text

text_if : (bs : List ℕ) (m : ℕ) (b : Bool) → is_utf8 (take (suc m) bs) ≡ b → IsUtf8 (take (valid_len_up_to bs m) bs) → IsUtf8 (take (if b then suc m else valid_len_up_to bs m) bs)
text_if bs m true e h = IsUtf8-from_is_utf8 (take (suc m) bs) e
text_if bs m false e h = h

text_front : (bs : List ℕ) (m : ℕ) → IsUtf8 (take (valid_len_up_to bs m) bs)
text_front bs zero = IsUtf8-nil
text_front bs (suc m) = text_if bs m (is_utf8 (take (suc m) bs)) refl (text_front bs m)

longest_if : (bs : List ℕ) (k m : ℕ) (b : Bool) → is_utf8 (take (suc m) bs) ≡ b → k ≤ suc m → is_utf8 (take k bs) ≡ true → (k ≤ m → k ≤ valid_len_up_to bs m) → k ≤ (if b then suc m else valid_len_up_to bs m)
longest_if bs k m true e l u rest = l
longest_if bs k m false e l u rest =
    elim (leb_tells k m) as (λ _. k ≤ valid_len_up_to bs m) [
      | inl a ↦ rest a.1
      | inr a ↦ let same : k ≡ suc m = omega (arith, a.1) in absurd (let both : true ≡ false = sym u ∙ ap (λ n. is_utf8 (take n bs)) same ∙ e in cc)
    ]

longest_front : (bs : List ℕ) (k m : ℕ) → k ≤ m → is_utf8 (take k bs) ≡ true → k ≤ valid_len_up_to bs m
longest_front bs k zero l u = l
longest_front bs k (suc m) l u = longest_if bs k m (is_utf8 (take (suc m) bs)) refl l u (λ h. longest_front bs k m h u)

pub valid_front : (bs : List ℕ) → IsUtf8 (take (utf8_valid_len bs) bs)
unfolding utf8_valid_len
valid_front bs = text_front bs (length bs)

valid_longest : (bs : List ℕ) (k : ℕ) → k ≤ length bs → IsUtf8 (take k bs) → k ≤ utf8_valid_len bs
unfolding utf8_valid_len
valid_longest bs k l u = longest_front bs k (length bs) l (is_utf8-from_IsUtf8 (take k bs) u)

-- no character stands behind it
none_behind : (bs : List ℕ) (m : ℕ) → 0 < m → m ≤ length (drop (utf8_valid_len bs) bs) → IsUtf8 (take m (drop (utf8_valid_len bs) bs)) → ⊥
none_behind bs m some l u =
    let n : ℕ = utf8_valid_len bs in
    let whole : IsUtf8 (take (n + m) bs) = subst IsUtf8 (sym (take-add n m bs)) (IsUtf8-append (take n bs) (take m (drop n bs)) (valid_front bs) u) in
    let fits : n + m ≤ length bs = omega (arith, l, length-drop n bs, utf8_valid_len_le bs) in
    absurd (omega (arith, some, valid_longest bs (n + m) fits whole))

-- what follows text in a text is text
after_text : (a b : List ℕ) → IsUtf8 (a ++ b) → IsUtf8 a → IsUtf8 b
after_text a b u v =
    let front : IsUtf8 (take (length a) (a ++ b)) = subst IsUtf8 (sym (take_at a b (length a) refl)) v in
    let cut = IsCharBoundary-from_take (a ++ b) (length a) u (omega (arith, length-append a b)) front in
    subst IsUtf8 (drop_at a b (length a) refl) (IsUtf8-drop (a ++ b) (length a) u cut)

-- ---- no more than `begun` bytes go on

-- the first m bytes of l and then others are the character c and then rest
module _ (l more : List ℕ) (m c : ℕ) (rest : List ℕ) (s : IsScalar c) (few : m ≤ length l) (e : encode_utf8 c ++ rest ≡ take m l ++ more) where
  short_is_text : length (encode_utf8 c) ≤ m → IsUtf8 (take (length (encode_utf8 c)) l)
  short_is_text h =
      let n : ℕ = length (encode_utf8 c) in
      let same : encode_utf8 c ≡ take n l =
      sym (take_at (encode_utf8 c) rest n refl) ∙ ap (take n) e ∙ take-append-le n (take m l) more (omega (arith, h, length-take-le m l few)) ∙ take-take n m l h in
      subst IsUtf8 same (IsUtf8-encode c s)

  same_at : (i : ℕ) → i < m → m < length (encode_utf8 c) → slice_index (encode_utf8 c) i ≡ slice_index l i
  same_at i h long =
      sym (get_or-append (encode_utf8 c) rest 0 i (omega (arith, h, long))) ∙ ap (λ x. slice_index x i) e
      ∙ get_or-append (take m l) more 0 i (omega (arith, h, length-take-le m l few)) ∙ get_or-take m l i 0 h

  long_leads : m < length (encode_utf8 c) → 0 < m → Leads l m
  long_leads long some =
      let r = long_bytes c s (omega (arith, long, some)) in
      record {
        long = few;
        few = omega (arith, long, r.few);
        first = λ h. rw (← same_at 0 h long) r.first;
        second = λ h. rw (← same_at 0 (omega (arith, h)) long, ← same_at 1 h long) (r.second (omega (arith, h, long)));
        third = λ h. rw (← same_at 2 h long) (r.third (omega (arith, h, long)));
      }

both_left : (x y : Bool) → (x && y) ≡ true → x ≡ true
both_left true y h = refl
both_left false y h = h

-- where l begins with no character
no_more : (l more : List ℕ) → begun l < length l → ((n : ℕ) → 0 < n → n ≤ length l → IsUtf8 (take n l) → ⊥) → (cs : List ℕ) → all_scalars cs ≡ true → encode_utf8_all cs ≡ take (begun l + 1) l ++ more → ⊥
no_more l more h none [] s e = absurd (omega (arith, ap length e, length-append (take (begun l + 1) l) more, length-take-le (begun l + 1) l (omega (arith, h))))
no_more l more h none (c ∷ cs) s e =
    let m : ℕ = begun l + 1 in
    let few : m ≤ length l = omega (arith, h) in
    let scalar : IsScalar c = both_left (scalar_value c) (all_scalars cs) s in
    elim (leb_tells (length (encode_utf8 c)) m) as (λ _. ⊥) [
      | inl a ↦ none (length (encode_utf8 c)) (let least = (len_utf8_bounds c).0 in omega (arith, least, length-encode c)) (omega (arith, a.1, few)) (short_is_text l more m c (encode_utf8_all cs) scalar few e a.1)
      | inr a ↦ absurd (omega (arith, begun_most l m (long_leads l more m c (encode_utf8_all cs) scalar few e a.1 (omega arith))))
    ]

-- ---- the bytes of a text

front_of : (bs : List ℕ) (b : ℕ) → let l = drop (utf8_valid_len bs) bs in BeginsText (take b l) ⊎ ((2 ≤ length l) × IsUtf8 (take 2 l)) → BeginsText (take (utf8_valid_len bs) bs ++ take b l)
front_of bs b (inl t) =
    let n : ℕ = utf8_valid_len bs in
    (t.0, subst IsUtf8 (sym (append_assoc (take n bs) (take b (drop n bs)) t.0)) (IsUtf8-append (take n bs) (take b (drop n bs) ++ t.0) (valid_front bs) t.1))
front_of bs b (inr t) = absurd (none_behind bs 2 (omega arith) t.0 t.1)

broken_at : (bs : List ℕ) → (utf8_valid_len bs ≡ length bs → ⊥) → IsBroken bs (utf8_valid_len bs + begun (drop (utf8_valid_len bs) bs))
broken_at bs part =
    let n : ℕ = utf8_valid_len bs in
    let l : List ℕ = drop n bs in
    let b : ℕ = begun l in
    let len : length l ≡ length bs - n = length-drop n bs in
    record {
      broken = λ u. part (utf8_valid_len-IsUtf8 bs u);
      within = omega (arith, len, begun_le l, utf8_valid_len_le bs);
      front = subst BeginsText (sym (take-add n b bs)) (front_of bs b (leads_on l b (begun_leads l)));
      stuck = λ h t.
          let u : IsUtf8 (take n bs ++ (take (b + 1) l ++ t.0)) = subst IsUtf8 (ap (λ x. x ++ t.0) (ap (λ k. take k bs) (let k : n + b + 1 ≡ n + (b + 1) = omega arith in k) ∙ take-add n (b + 1) bs) ∙ append_assoc (take n bs) (take (b + 1) l) t.0) t.1 in
          let v : IsUtf8 (take (b + 1) l ++ t.0) = after_text (take n bs) (take (b + 1) l ++ t.0) u (valid_front bs) in
          no_more l t.0 (omega (arith, h, len)) (none_behind bs) v.0 v.1.0 v.1.1;
    }

-- ---- the fault of a reading

-- no character that is read gives this fault
abbrev IsPlain : Result (List Placed) LexFault → Type 0
IsPlain (Err (NotUtf8 k)) = ⊥
IsPlain r = Unit {0}

plain_front : (front : List Placed) (r : Result (List Placed) LexFault) → IsPlain r → IsPlain (with_front front r)
plain_front front (Ok ts) h = tt
plain_front front (Err (NotUtf8 k)) h = h
plain_front front (Err (BadChar k)) h = tt
plain_front front (Err (NumberTooLarge k)) h = tt
plain_front front (Err (NameTooLong k)) h = tt
plain_front front (Err NoMemory) h = tt

plain_step : (x : Cut) (at : ℕ) (rest : ℕ → Result (List Placed) LexFault) → ((k : ℕ) → IsPlain (rest k)) → IsPlain (goes_on x at rest)
plain_step (Blank k) at rest h = h k
plain_step (Takes t k) at rest h = plain_front (placed t at ∷ []) (rest k) (h k)
plain_step (Fails wrong.BadChar) at rest h = tt
plain_step (Fails wrong.NumberTooLarge) at rest h = tt
plain_step (Fails wrong.NameTooLong) at rest h = tt

plain : (n k : ℕ) (cs : Text) → IsPlain (lexed n k cs)
plain n k [] = tt
plain n (suc k) (c ∷ cs) = plain n k cs
plain n zero (c ∷ cs) = plain_step (cut c cs) (place n (c ∷ cs)) (λ k. lexed n k cs) (λ k. plain n k cs)

plain_fault : (bs : List ℕ) (e : LexFault) → IsPlain (Err e) → IsNotUtf8At bs e
plain_fault bs (NotUtf8 k) h = absurd h
plain_fault bs (BadChar k) h = tt
plain_fault bs (NumberTooLarge k) h = tt
plain_fault bs (NameTooLong k) h = tt
plain_fault bs NoMemory h = tt

at_end : (bs : List ℕ) (r : Result (List Placed) LexFault) (e : LexFault) → IsPlain r → then_broken bs (utf8_valid_len bs) r ≡ Err e → IsNotUtf8At bs e
at_end bs (Err f) e p h = subst (IsNotUtf8At bs) (let k : f ≡ e = cc in k) (plain_fault bs f p)
at_end bs (Ok ts) e p h =
    let n : ℕ = utf8_valid_len bs in
    elim (eqb_tells n (length bs)) as (λ _. IsNotUtf8At bs e) [
      | inl a ↦ absurd (let wrong = rw a.0 at h in cc)
      | inr a ↦ let told = rw a.0 at h in subst (IsNotUtf8At bs) (let k : NotUtf8 (n + begun (drop n bs)) ≡ e = cc in k) (broken_at bs a.1)
    ]

pub fault_is_at : (bs : List ℕ) (e : LexFault) → tokens bs ≡ Err e → IsNotUtf8At bs e
unfolding tokens
fault_is_at bs e h = at_end bs (lexed (utf8_valid_len bs) 0 (chars (take (utf8_valid_len bs) bs))) e (plain (utf8_valid_len bs) 0 (chars (take (utf8_valid_len bs) bs))) h

-- the same of what a call answers
pub answer_is_at : {X : Type 0} (view : X → List Placed) (bs : List ℕ) (r : Result X LexFault) → Gives view r (tokens bs) → IfErr r (IsNotUtf8At bs)
answer_is_at view bs (Ok x) h = tt
answer_is_at view bs (Err (NotUtf8 k)) h = fault_is_at bs (NotUtf8 k) h
answer_is_at view bs (Err (BadChar k)) h = tt
answer_is_at view bs (Err (NumberTooLarge k)) h = tt
answer_is_at view bs (Err (NameTooLong k)) h = tt
answer_is_at view bs (Err NoMemory) h = tt
