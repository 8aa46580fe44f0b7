-- Which bytes a character of more than one byte has.
use Rattle.std.proofs.Common.{◌≡◌, ℕ, ◌+◌, ◌-◌, ◌*◌, ◌/◌, ◌<◌, ◌≤◌, ◌⊎◌, inl, inr, true, List, [], ◌∷◌, length, IsUtf8, refl, sym, ap, subst, ◌∙◌, arith}
use Rattle.std.specs.Prelude.{slice_index}
use Rattle.std.specs.Char.{IsScalar}
use Rattle.std.proofs.lemmas.Bool.{le-ltb, lt-ltb}
use Rattle.std.proofs.lemmas.Bool.Decides.{leb_tells, eqb_tells, nat_tests}
use Rattle.std.proofs.lemmas.Str.{IsUtf8-encode}
use lib.Utf8.{encode, next, scalar, scalar_cases}

-- the bytes that may begin such a character, that may follow x in one, and that may stand further on
abbrev pub IsFirst : ℕ → Type 0
IsFirst x = (194 ≤ x) × (x ≤ 244)

pub record IsSecond (x y : ℕ) : Type 0 where
  pub least : 128 ≤ y
  pub most : y ≤ 191
  pub after_224 : x ≡ 224 → 160 ≤ y
  pub after_237 : x ≡ 237 → y ≤ 159
  pub after_240 : x ≡ 240 → 144 ≤ y
  pub after_244 : x ≡ 244 → y ≤ 143

abbrev pub IsLater : ℕ → Type 0
IsLater z = (128 ≤ z) × (z ≤ 191)

-- ---- the bytes of a character

two : (c : ℕ) → 128 ≤ c → c < 2048 → encode c ≡ (192 + c / 64) ∷ next c ∷ []
unfolding encode
two c l h = rw (le-ltb c 128 l, lt-ltb c 2048 h) refl

three : (c : ℕ) → 2048 ≤ c → c < 65536 → encode c ≡ (224 + c / 4096) ∷ next (c / 64) ∷ next c ∷ []
unfolding encode
three c l h = let a : 128 ≤ c = omega arith in rw (le-ltb c 128 a, le-ltb c 2048 l, lt-ltb c 65536 h) refl

four : (c : ℕ) → 65536 ≤ c → encode c ≡ (240 + c / 262144) ∷ next (c / 4096) ∷ next (c / 64) ∷ next c ∷ []
unfolding encode
four c l = let a : 128 ≤ c = omega arith in let b : 2048 ≤ c = omega arith in rw (le-ltb c 128 a, le-ltb c 2048 b, le-ltb c 65536 l) refl

one : (c : ℕ) → c < 128 → encode c ≡ c ∷ []
unfolding encode
one c l = rw (lt-ltb c 128 l) refl

-- the bytes of a character that has more than one
pub record IsLong (bytes : List ℕ) : Type 0 where
  pub first : IsFirst (slice_index bytes 0)
  pub second : 2 < length bytes → IsSecond (slice_index bytes 0) (slice_index bytes 1)
  pub third : 3 < length bytes → IsLater (slice_index bytes 2)
  pub few : length bytes ≤ 4

long_two : (c : ℕ) → 128 ≤ c → c < 2048 → IsLong ((192 + c / 64) ∷ next c ∷ [])
long_two c l h = record { first = (omega arith, omega arith); second = λ t. absurd (omega arith); third = λ t. absurd (omega arith); few = omega arith }

long_three : (c : ℕ) → 2048 ≤ c → c < 65536 → (c < 55296) ⊎ ((57344 ≤ c) × (c < 1114112)) → IsLong ((224 + c / 4096) ∷ next (c / 64) ∷ next c ∷ [])
long_three c l h (inl s) = record {
  first = (omega arith, omega arith);
  second = λ t. record { least = omega arith; most = omega arith; after_224 = λ e. omega (arith, e); after_237 = λ e. omega (arith, e); after_240 = λ e. absurd (omega (arith, e)); after_244 = λ e. absurd (omega (arith, e)) };
  third = λ t. absurd (omega arith);
  few = omega arith;
}
long_three c l h (inr s) = record {
  first = (omega arith, omega arith);
  second = λ t. record { least = omega arith; most = omega arith; after_224 = λ e. omega (arith, e, s.0); after_237 = λ e. absurd (omega (arith, e, s.0)); after_240 = λ e. absurd (omega (arith, e)); after_244 = λ e. absurd (omega (arith, e)) };
  third = λ t. absurd (omega arith);
  few = omega arith;
}

long_four : (c : ℕ) → 65536 ≤ c → c < 1114112 → IsLong ((240 + c / 262144) ∷ next (c / 4096) ∷ next (c / 64) ∷ next c ∷ [])
long_four c l h = record {
  first = (omega arith, omega arith);
  second = λ t. record { least = omega arith; most = omega arith; after_224 = λ e. absurd (omega (arith, e)); after_237 = λ e. absurd (omega (arith, e)); after_240 = λ e. omega (arith, e); after_244 = λ e. omega (arith, e) };
  third = λ t. (omega arith, omega arith);
  few = omega arith;
}

below : (c : ℕ) → (c < 55296) ⊎ ((57344 ≤ c) × (c < 1114112)) → c < 1114112
below c (inl s) = omega arith
below c (inr s) = s.1

pub long_bytes : (c : ℕ) → IsScalar c → 1 < length (encode c) → IsLong (encode c)
long_bytes c s more =
    elim (leb_tells 128 c) as (λ _. IsLong (encode c)) [
      | inl a ↦ elim (leb_tells 2048 c) as (λ _. IsLong (encode c)) [
        | inl b ↦ elim (leb_tells 65536 c) as (λ _. IsLong (encode c)) [
          | inl d ↦ subst IsLong (sym (four c d.1)) (long_four c d.1 (below c (scalar_cases c s)))
          | inr d ↦ subst IsLong (sym (three c b.1 d.1)) (long_three c b.1 d.1 (scalar_cases c s))
        ]
        | inr b ↦ subst IsLong (sym (two c a.1 b.1)) (long_two c a.1 b.1)
      ]
      | inr a ↦ absurd (omega (arith, more, ap length (one c a.1)))
    ]

-- ---- the character of the bytes

text_of : (c : ℕ) (bytes : List ℕ) → scalar c ≡ true → encode c ≡ bytes → IsUtf8 bytes
text_of c bytes s e = subst IsUtf8 e (IsUtf8-encode c s)

is_scalar : (c : ℕ) → (c < 55296) ⊎ ((57344 ≤ c) × (c < 1114112)) → scalar c ≡ true
is_scalar c (inl h) = grind (arith, nat_tests)
is_scalar c (inr h) = grind (arith, nat_tests, h.0, h.1)

pub two_bytes : (x y : ℕ) → IsFirst x → x < 224 → IsLater y → IsUtf8 (x ∷ y ∷ [])
two_bytes x y f h g =
    let c : ℕ = (x - 192) * 64 + (y - 128) in
    let first : 192 + c / 64 ≡ x = omega arith in
    let second : next c ≡ y = omega arith in
    text_of c (x ∷ y ∷ []) (is_scalar c (inl (omega arith))) (two c (omega arith) (omega arith) ∙ λ i. first i ∷ second i ∷ [])

three_scalar : (x y z : ℕ) → 224 ≤ x → x < 240 → IsSecond x y → IsLater z → let c = (x - 224) * 4096 + (y - 128) * 64 + (z - 128) in (c < 55296) ⊎ ((57344 ≤ c) × (c < 1114112))
three_scalar x y z l h s g =
    let c : ℕ = (x - 224) * 4096 + (y - 128) * 64 + (z - 128) in
    elim (leb_tells 238 x) as (λ _. (c < 55296) ⊎ ((57344 ≤ c) × (c < 1114112))) [
      | inl a ↦ inr (omega (arith, a.1, s.least, s.most), omega (arith, s.least, s.most))
      | inr a ↦ elim (eqb_tells x 237) as (λ _. (c < 55296) ⊎ ((57344 ≤ c) × (c < 1114112))) [
        | inl e ↦ inl (omega (arith, e.1, s.least, s.after_237 e.1))
        | inr n ↦ inl (omega (arith, a.1, n.1, s.least, s.most))
      ]
    ]

three_long : (x y z : ℕ) → 224 ≤ x → IsSecond x y → 2048 ≤ (x - 224) * 4096 + (y - 128) * 64 + (z - 128)
three_long x y z l s =
    elim (eqb_tells x 224) as (λ _. 2048 ≤ (x - 224) * 4096 + (y - 128) * 64 + (z - 128)) [
      | inl e ↦ omega (arith, s.after_224 e.1)
      | inr n ↦ omega (arith, n.1)
    ]

pub three_bytes : (x y z : ℕ) → 224 ≤ x → x < 240 → IsSecond x y → IsLater z → IsUtf8 (x ∷ y ∷ z ∷ [])
three_bytes x y z l h s g =
    let c : ℕ = (x - 224) * 4096 + (y - 128) * 64 + (z - 128) in
    let first : 224 + c / 4096 ≡ x = omega (arith, s.least, s.most) in
    let second : next (c / 64) ≡ y = omega (arith, s.least, s.most) in
    let third : next c ≡ z = omega (arith, s.least, s.most) in
    text_of c (x ∷ y ∷ z ∷ []) (is_scalar c (three_scalar x y z l h s g)) (three c (three_long x y z l s) (omega (arith, s.least, s.most)) ∙ λ i. first i ∷ second i ∷ third i ∷ [])

four_long : (x y z w : ℕ) → 240 ≤ x → IsSecond x y → 65536 ≤ (x - 240) * 262144 + (y - 128) * 4096 + (z - 128) * 64 + (w - 128)
four_long x y z w l s =
    elim (eqb_tells x 240) as (λ _. 65536 ≤ (x - 240) * 262144 + (y - 128) * 4096 + (z - 128) * 64 + (w - 128)) [
      | inl e ↦ omega (arith, s.after_240 e.1)
      | inr n ↦ omega (arith, n.1)
    ]

four_fits : (x y z w : ℕ) → x ≤ 244 → IsSecond x y → IsLater z → IsLater w → (x - 240) * 262144 + (y - 128) * 4096 + (z - 128) * 64 + (w - 128) < 1114112
four_fits x y z w h s g m =
    elim (eqb_tells x 244) as (λ _. (x - 240) * 262144 + (y - 128) * 4096 + (z - 128) * 64 + (w - 128) < 1114112) [
      | inl e ↦ omega (arith, e.1, s.after_244 e.1)
      | inr n ↦ omega (arith, n.1, s.most)
    ]

pub four_bytes : (x y z w : ℕ) → 240 ≤ x → x ≤ 244 → IsSecond x y → IsLater z → IsLater w → IsUtf8 (x ∷ y ∷ z ∷ w ∷ [])
four_bytes x y z w l h s g m =
    let c : ℕ = (x - 240) * 262144 + (y - 128) * 4096 + (z - 128) * 64 + (w - 128) in
    let first : 240 + c / 262144 ≡ x = omega (arith, s.least, s.most) in
    let second : next (c / 4096) ≡ y = omega (arith, s.least, s.most) in
    let third : next (c / 64) ≡ z = omega (arith, s.least, s.most) in
    let fourth : next c ≡ w = omega (arith, s.least, s.most) in
    text_of c (x ∷ y ∷ z ∷ w ∷ []) (is_scalar c (inr (omega (arith, four_long x y z w l s), four_fits x y z w h s g m))) (four c (four_long x y z w l s) ∙ λ i. first i ∷ second i ∷ third i ∷ fourth i ∷ [])
