-- How many bytes of a broken character begin one.
use Rattle.std.proofs.Common.{◌≡◌, ℕ, zero, suc, ◌<◌, ◌≤◌, ◌⊎◌, inl, inr, Bool, true, false, ◌==◌, nat_lt, if◌then◌else◌, Some, None, List, [], ◌∷◌, length, take, IsUtf8, refl, sym, subst, arith}
use Rattle.std.specs.Prelude.{slice_index}
use Rattle.std.specs.Int.{is_in_range}
use Rattle.std.specs.Option.{unwrap_or}
use Rattle.std.specs.Str.Lossy.{utf8_error_len, second_byte_min, second_byte_max}
use Rattle.std.proofs.lemmas.Bool.Decides.{leb_tells, eqb_tells, nat_tests}
use Rattle.std.proofs.lemmas.Str.{IsUtf8-nil}
use Rattle.brisk_lex.specs.Broken.{BeginsText}
use Rattle.brisk_lex.specs.Tokens.{begun}
use Rattle.brisk_lex.proofs.Encoding.{IsFirst, IsSecond, IsLater, two_bytes, three_bytes, four_bytes}

-- the first j bytes may begin a character of more than one byte
pub record Leads (bytes : List ℕ) (j : ℕ) : Type 0 where
  pub long : j ≤ length bytes
  pub few : j ≤ 3
  pub first : 0 < j → IsFirst (slice_index bytes 0)
  pub second : 1 < j → IsSecond (slice_index bytes 0) (slice_index bytes 1)
  pub third : 2 < j → IsLater (slice_index bytes 2)

-- the same count by three tests on the bytes, of n bytes
abbrev counted : ℕ → Bool → Bool → Bool → ℕ
counted n f s t = if f then unwrap_or (if n == 0 then None else (if f then (if nat_lt n 2 then None else (if s then (if nat_lt n 3 then None else (if t then (if nat_lt n 4 then None else Some 3) else Some 2)) else Some 1)) else Some 1)) n else 0

abbrev is_first : List ℕ → Bool
is_first l = is_in_range 0xC2 0xF4 (slice_index l 0)

abbrev is_second : List ℕ → Bool
is_second l = is_in_range (second_byte_min (slice_index l 0)) (second_byte_max (slice_index l 0)) (slice_index l 1)

abbrev is_third : List ℕ → Bool
is_third l = is_in_range 0x80 0xBF (slice_index l 2)

begun_counts : (l : List ℕ) → begun l ≡ counted (length l) (is_first l) (is_second l) (is_third l)
unfolding utf8_error_len
begun_counts l = refl

-- ---- the three tests

first_is : (x : ℕ) → is_in_range 0xC2 0xF4 x ≡ true → IsFirst x
first_is x h = (grind (arith, nat_tests), grind (arith, nat_tests))

is_first_of : (x : ℕ) → IsFirst x → is_in_range 0xC2 0xF4 x ≡ true
is_first_of x h = grind (arith, nat_tests, h.0, h.1)

later_is : (x : ℕ) → is_in_range 0x80 0xBF x ≡ true → IsLater x
later_is x h = (grind (arith, nat_tests), grind (arith, nat_tests))

is_later_of : (x : ℕ) → IsLater x → is_in_range 0x80 0xBF x ≡ true
is_later_of x h = grind (arith, nat_tests, h.0, h.1)

second_is : (x y : ℕ) → is_in_range (second_byte_min x) (second_byte_max x) y ≡ true → IsSecond x y
second_is x y h = record {
  least = grind (arith, nat_tests);
  most = grind (arith, nat_tests);
  after_224 = λ e. grind (arith, nat_tests);
  after_237 = λ e. grind (arith, nat_tests);
  after_240 = λ e. grind (arith, nat_tests);
  after_244 = λ e. grind (arith, nat_tests);
}

is_second_of : (x y : ℕ) → IsSecond x y → is_in_range (second_byte_min x) (second_byte_max x) y ≡ true
is_second_of x y h = grind (arith, nat_tests, h.least, h.most, h.after_224, h.after_237, h.after_240, h.after_244)

-- ---- the count

counted_le : (n : ℕ) (f s t : Bool) → counted n f s t ≤ n
counted_le n false s t = grind (arith, nat_tests)
counted_le n true false t = grind (arith, nat_tests)
counted_le n true true false = grind (arith, nat_tests)
counted_le n true true true = grind (arith, nat_tests)

counted_few : (n : ℕ) (f s t : Bool) → counted n f s t ≤ 3
counted_few n false s t = grind (arith, nat_tests)
counted_few n true false t = grind (arith, nat_tests)
counted_few n true true false = grind (arith, nat_tests)
counted_few n true true true = grind (arith, nat_tests)

counted_first : (n : ℕ) (f s t : Bool) → 0 < counted n f s t → f ≡ true
counted_first n true s t h = refl
counted_first n false s t h = absurd (omega arith)

counted_second : (n : ℕ) (f s t : Bool) → 1 < counted n f s t → s ≡ true
counted_second n f true t h = refl
counted_second n false false t h = absurd (omega arith)
counted_second n true false t h = grind (arith, nat_tests)

counted_third : (n : ℕ) (f s t : Bool) → 2 < counted n f s t → t ≡ true
counted_third n f s true h = refl
counted_third n false s false h = absurd (omega arith)
counted_third n true false false h = grind (arith, nat_tests)
counted_third n true true false h = grind (arith, nat_tests)

reaches_one : (n : ℕ) (f s t : Bool) → f ≡ true → 0 < n → 1 ≤ counted n f s t
reaches_one n false s t e h = cc
reaches_one n true false t e h = grind (arith, nat_tests)
reaches_one n true true false e h = grind (arith, nat_tests)
reaches_one n true true true e h = grind (arith, nat_tests)

reaches_two : (n : ℕ) (f s t : Bool) → f ≡ true → s ≡ true → 1 < n → 2 ≤ counted n f s t
reaches_two n false s t e g h = cc
reaches_two n true false t e g h = cc
reaches_two n true true false e g h = grind (arith, nat_tests)
reaches_two n true true true e g h = grind (arith, nat_tests)

reaches_three : (n : ℕ) (f s t : Bool) → f ≡ true → s ≡ true → t ≡ true → 2 < n → 3 ≤ counted n f s t
reaches_three n false s t e g k h = cc
reaches_three n true false t e g k h = cc
reaches_three n true true false e g k h = cc
reaches_three n true true true e g k h = grind (arith, nat_tests)

pub begun_le : (l : List ℕ) → begun l ≤ length l
begun_le l = subst (λ k. k ≤ length l) (sym (begun_counts l)) (counted_le (length l) (is_first l) (is_second l) (is_third l))

-- the bytes that begin a character do
pub begun_leads : (l : List ℕ) → Leads l (begun l)
begun_leads l = subst (Leads l) (sym (begun_counts l)) (record {
  long = counted_le (length l) (is_first l) (is_second l) (is_third l);
  few = counted_few (length l) (is_first l) (is_second l) (is_third l);
  first = λ h. first_is (slice_index l 0) (counted_first (length l) (is_first l) (is_second l) (is_third l) h);
  second = λ h. second_is (slice_index l 0) (slice_index l 1) (counted_second (length l) (is_first l) (is_second l) (is_third l) h);
  third = λ h. later_is (slice_index l 2) (counted_third (length l) (is_first l) (is_second l) (is_third l) h);
})

at_least : (l : List ℕ) (j : ℕ) → Leads l j → j ≤ counted (length l) (is_first l) (is_second l) (is_third l)
at_least l zero h = omega arith
at_least l (suc zero) h = reaches_one (length l) (is_first l) (is_second l) (is_third l) (is_first_of _ (h.first (omega arith))) (omega (arith, h.long))
at_least l (suc (suc zero)) h = reaches_two (length l) (is_first l) (is_second l) (is_third l) (is_first_of _ (h.first (omega arith))) (is_second_of _ _ (h.second (omega arith))) (omega (arith, h.long))
at_least l (suc (suc (suc zero))) h = reaches_three (length l) (is_first l) (is_second l) (is_third l) (is_first_of _ (h.first (omega arith))) (is_second_of _ _ (h.second (omega arith))) (is_later_of _ (h.third (omega arith))) (omega (arith, h.long))
at_least l (suc (suc (suc (suc j)))) h = absurd (omega (arith, h.few))

-- and no more bytes begin one
pub begun_most : (l : List ℕ) (j : ℕ) → Leads l j → j ≤ begun l
begun_most l j h = subst (λ k. j ≤ k) (sym (begun_counts l)) (at_least l j h)

-- ---- some text begins with them

lead_one : (x : ℕ) → IsFirst x → BeginsText (x ∷ [])
lead_one x f =
    elim (leb_tells 224 x) as (λ _. BeginsText (x ∷ [])) [
      | inr a ↦ (128 ∷ [], two_bytes x 128 f a.1 (omega arith, omega arith))
      | inl a ↦ elim (leb_tells 240 x) as (λ _. BeginsText (x ∷ [])) [
        | inr b ↦ elim (eqb_tells x 224) as (λ _. BeginsText (x ∷ [])) [
          | inl e ↦ (160 ∷ 128 ∷ [], three_bytes x 160 128 a.1 b.1 (record { least = omega arith; most = omega arith; after_224 = λ i. omega arith; after_237 = λ i. absurd (omega (arith, e.1, i)); after_240 = λ i. omega arith; after_244 = λ i. absurd (omega (arith, e.1, i)) }) (omega arith, omega arith))
          | inr n ↦ (128 ∷ 128 ∷ [], three_bytes x 128 128 a.1 b.1 (record { least = omega arith; most = omega arith; after_224 = λ i. absurd (omega (arith, n.1, i)); after_237 = λ i. omega arith; after_240 = λ i. absurd (omega (arith, b.1, i)); after_244 = λ i. omega arith }) (omega arith, omega arith))
        ]
        | inl b ↦ elim (eqb_tells x 240) as (λ _. BeginsText (x ∷ [])) [
          | inl e ↦ (144 ∷ 128 ∷ 128 ∷ [], four_bytes x 144 128 128 b.1 f.1 (record { least = omega arith; most = omega arith; after_224 = λ i. absurd (omega (arith, e.1, i)); after_237 = λ i. absurd (omega (arith, e.1, i)); after_240 = λ i. omega arith; after_244 = λ i. absurd (omega (arith, e.1, i)) }) (omega arith, omega arith) (omega arith, omega arith))
          | inr n ↦ (128 ∷ 128 ∷ 128 ∷ [], four_bytes x 128 128 128 b.1 f.1 (record { least = omega arith; most = omega arith; after_224 = λ i. absurd (omega (arith, b.1, i)); after_237 = λ i. omega arith; after_240 = λ i. absurd (omega (arith, n.1, i)); after_244 = λ i. omega arith }) (omega arith, omega arith) (omega arith, omega arith))
        ]
      ]
    ]

later : (x y : ℕ) → IsSecond x y → IsLater y
later x y h = (h.least, h.most)

lead_two : (x y : ℕ) → IsFirst x → IsSecond x y → BeginsText (x ∷ y ∷ [])
lead_two x y f s =
    elim (leb_tells 224 x) as (λ _. BeginsText (x ∷ y ∷ [])) [
      | inr a ↦ ([], two_bytes x y f a.1 (later x y s))
      | inl a ↦ elim (leb_tells 240 x) as (λ _. BeginsText (x ∷ y ∷ [])) [
        | inr b ↦ (128 ∷ [], three_bytes x y 128 a.1 b.1 s (omega arith, omega arith))
        | inl b ↦ (128 ∷ 128 ∷ [], four_bytes x y 128 128 b.1 f.1 s (omega arith, omega arith) (omega arith, omega arith))
      ]
    ]

-- or else the first two are a character
lead_three : (x y z : ℕ) → IsFirst x → IsSecond x y → IsLater z → BeginsText (x ∷ y ∷ z ∷ []) ⊎ IsUtf8 (x ∷ y ∷ [])
lead_three x y z f s g =
    elim (leb_tells 224 x) as (λ _. BeginsText (x ∷ y ∷ z ∷ []) ⊎ IsUtf8 (x ∷ y ∷ [])) [
      | inr a ↦ inr (two_bytes x y f a.1 (later x y s))
      | inl a ↦ elim (leb_tells 240 x) as (λ _. BeginsText (x ∷ y ∷ z ∷ []) ⊎ IsUtf8 (x ∷ y ∷ [])) [
        | inr b ↦ inl ([], three_bytes x y z a.1 b.1 s g)
        | inl b ↦ inl (128 ∷ [], four_bytes x y z 128 b.1 f.1 s g (omega arith, omega arith))
      ]
    ]

pub leads_on : (l : List ℕ) (j : ℕ) → Leads l j → BeginsText (take j l) ⊎ ((2 ≤ length l) × IsUtf8 (take 2 l))
leads_on l zero h = inl ([], IsUtf8-nil)
leads_on [] (suc j) h = absurd (omega (arith, h.long))
leads_on (x ∷ l) (suc zero) h = inl (lead_one x (h.first (omega arith)))
leads_on (x ∷ []) (suc (suc j)) h = absurd (omega (arith, h.long))
leads_on (x ∷ y ∷ l) (suc (suc zero)) h = inl (lead_two x y (h.first (omega arith)) (h.second (omega arith)))
leads_on (x ∷ y ∷ []) (suc (suc (suc j))) h = absurd (omega (arith, h.long))
leads_on (x ∷ y ∷ z ∷ l) (suc (suc (suc zero))) h =
    elim (lead_three x y z (h.first (omega arith)) (h.second (omega arith)) (h.third (omega arith))) as (λ _. BeginsText (x ∷ y ∷ z ∷ []) ⊎ ((2 ≤ length (x ∷ y ∷ z ∷ l)) × IsUtf8 (x ∷ y ∷ []))) [
      | inl b ↦ inl b
      | inr u ↦ inr (omega (arith, h.long), u)
    ]
leads_on (x ∷ y ∷ z ∷ l) (suc (suc (suc (suc j)))) h = absurd (omega (arith, h.few))
