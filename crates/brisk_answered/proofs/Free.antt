-- The number of a box that the search takes: the least that is free.
use Rattle.std.proofs.Common.{◌≡◌, ◌⊎◌, inl, inr, ℕ, zero, suc, ◌+◌, ◌<◌, ◌≤◌, true, false, List, length, Some, refl, sym, ap, ◌∙◌, arith, nat_eq}
use Rattle.std.specs.Prelude.{if◌then◌else◌}
use Rattle.std.proofs.lemmas.Bool.{eqb-true, eqb-false}
use Rattle.brisk_state.specs.Symbolic.{Pending, is_in_use}
use Rattle.brisk_rules.proofs.Readings.{has}
use Rattle.brisk_rules.specs.Standing.{free_from}
use Rattle.brisk_straight.proofs.Numbers.{IsFree, in_a_row}

free_or_all : (k n : ℕ) (p : Pending) → ((number : ℕ) × (free_from k n p ≡ Some number) × IsFree p k n number) ⊎ ((m : ℕ) → n ≤ m → m < n + k → is_in_use p m ≡ true)
free_or_all zero n p = inr (λ m low high. absurd (omega (arith, low, high)))
free_or_all (suc k) n p =
    elim (is_in_use p n) as (λ b. is_in_use p n ≡ b → ((number : ℕ) × ((if b then free_from k (suc n) p else Some n) ≡ Some number) × IsFree p (suc k) n number) ⊎ ((m : ℕ) → n ≤ m → m < n + suc k → is_in_use p m ≡ true)) [
      | true ↦ λ e. elim (free_or_all k (suc n) p) [
        | inl f ↦ inl (f.0, f.1, record { low = (let l = f.2.low in omega (arith, l)); high = (let h = f.2.high in omega (arith, h)); unused = f.2.unused })
        | inr all ↦ inr (λ m low high. elim (nat_eq n m) as (λ b. nat_eq n m ≡ b → is_in_use p m ≡ true) [
          | true ↦ λ g. ap (is_in_use p) (sym (eqb-true n m g)) ∙ e
          | false ↦ λ g. all m (let d = eqb-false n m g in omega (arith, d, low)) (omega (arith, high))
        ] refl)
      ]
      | false ↦ λ e. inl (n, refl, record { low = omega arith; high = omega arith; unused = e })
    ] refl

-- where fewer numbers were used than are tried, one is free
pub some_free : (k n : ℕ) (p : Pending) (used : List ℕ) → ((m : ℕ) → is_in_use p m ≡ true → has m used ≡ true) → length used < k →
    (number : ℕ) × (free_from k n p ≡ Some number) × IsFree p k n number
some_free k n p used uses few =
    elim (free_or_all k n p) [
      | inl f ↦ f
      | inr all ↦ absurd (let many = in_a_row k n used (λ m low high. uses m (all m low high)) in omega (arith, many, few))
    ]
