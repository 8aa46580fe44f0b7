-- The number that is found is the least free one.
use Rattle.std.proofs.Common.{◌≡◌, ℕ, zero, suc, ◌+◌, ◌≤◌, ◌<◌, Bool, true, false, Option, Some, None, nat_eq, nat_lt, refl, subst, sym, ap, ◌∙◌, true≢false, arith}
use Rattle.std.specs.Prelude.{if◌then◌else◌}
use Rattle.std.proofs.lemmas.Bool.{eqb-true, eqb-false, ltb-true, ltb-false}
use Rattle.brisk_state.specs.Pending.{IsLeastAbsent, IsLeastFree}
use Rattle.brisk_state.specs.Symbolic.{Pending, is_in_use}
use Rattle.brisk_rules.specs.Standing.{free_from, least_free}

module _ (pending : Pending) where
  from : (m n : ℕ) → ((i : ℕ) → 1 ≤ i → i < n → is_in_use pending i ≡ true) → 1 ≤ n → n + m ≡ 1000001 → IsLeastAbsent (is_in_use pending) (free_from m n pending)
  from zero n h one e = λ i a b. h i a (omega (arith, b, e))
  from (suc m) n h one e = go (is_in_use pending n) refl (λ used. from m (suc n) (next used) (omega arith) (omega (arith, e)))
    where
      next : is_in_use pending n ≡ true → (i : ℕ) → 1 ≤ i → i < suc n → is_in_use pending i ≡ true
      next used i a b = at (nat_eq i n) refl
        where
          at : (c : Bool) → nat_eq i n ≡ c → is_in_use pending i ≡ true
          at true is = subst (λ z. is_in_use pending z ≡ true) (sym (eqb-true i n is)) used
          at false is = let apart = eqb-false i n is in h i a (omega (arith, b, apart))

      go : (c : Bool) → is_in_use pending n ≡ c → (is_in_use pending n ≡ true → IsLeastAbsent (is_in_use pending) (free_from m (suc n) pending)) →
          IsLeastAbsent (is_in_use pending) (if c then free_from m (suc n) pending else Some n)
      go true is more = more is
      go false is more = (one, omega (arith, e), is, h)

-- it is the least number from 1 to 1,000,000 that pends nowhere, and none where each pends
pub least_is_free : (pending : Pending) → IsLeastFree pending (least_free pending)
least_is_free pending = from pending 1000000 1 (λ i a b. absurd (omega (arith, a, b))) (omega arith) refl

least_once : (test : ℕ → Bool) (a b : Option ℕ) → IsLeastAbsent test a → IsLeastAbsent test b → a ≡ b
least_once test None None h g = refl
least_once test None (Some n) h g = absurd (true≢false (sym (h n g.0 g.1) ∙ g.2))
least_once test (Some n) None h g = absurd (true≢false (sym (g n h.0 h.1) ∙ h.2))
least_once test (Some n) (Some m) h g = by (nat_lt n m) (nat_lt m n) refl refl
  where
    by : (p q : Bool) → nat_lt n m ≡ p → nat_lt m n ≡ q → Some n ≡ Some m
    by true q e f = absurd (true≢false (sym (g.3 n h.0 (ltb-true n m e)) ∙ h.2))
    by false true e f = absurd (true≢false (sym (h.3 m g.0 (ltb-true m n f)) ∙ g.2))
    by false false e f = let one = ltb-false n m e in let other = ltb-false m n f in ap (λ k. Some k) (omega (arith, one, other))

-- there is one least number that is free
pub least_is : (pending : Pending) (o : Option ℕ) → IsLeastFree pending o → o ≡ least_free pending
least_is pending o h = least_once (is_in_use pending) o (least_free pending) h (least_is_free pending)
