-- The numbers of pending boxes: which are in use after a change, and that one is free where few were used.
use Rattle.std.proofs.Common.{◌≡◌, ◌⊎◌, inl, inr, ℕ, zero, suc, ◌+◌, ◌<◌, ◌≤◌, Bool, true, false, cond, List, [], ◌∷◌, length, Some, refl, sym, ap, ◌∙◌, arith, nat_eq}
use Rattle.std.specs.Prelude.{◌||◌, not, if◌then◌else◌, filter}
use Rattle.std.specs.declared.cmp.Ordering.TheVariants.{Less, Equal, Greater}
use Rattle.std.specs.FinMap.{find, put}
use Rattle.std.specs.FinMap.Entries.{by_order}
use Rattle.std.specs.Ordering.{eq_by_cmp}
use Rattle.std.proofs.lemmas.Bool.{eqb-true, eqb-false, or_right}
use Rattle.brisk_state.specs.Symbolic.{Key, key_cmp, same_key, Pending, or_none, numbers_at, with_numbers, is_in_use}
use Rattle.brisk_rules.proofs.Readings.{has}

pub either : (a b : Bool) → (a || b) ≡ true → (a ≡ true) ⊎ (b ≡ true)
either true b e = inl refl
either false b e = inr e

or_left : (a b : Bool) → a ≡ true → (a || b) ≡ true
or_left a b e = ap (λ c. c || b) e

-- a number in use after an entry was put was in use before or stands in the entry
put_uses : (m : ℕ) (k : Key) (v : List ℕ) (p : Pending) → is_in_use (put key_cmp k v p) m ≡ true → (has m v ≡ true) ⊎ (is_in_use p m ≡ true)
put_uses m k v [] h = either (has m v) false h
put_uses m k v (e ∷ es) h =
    elim (key_cmp k e.0) as (λ o. is_in_use (by_order o ((k, v) ∷ e ∷ es) ((e.0, v) ∷ es) (e ∷ put key_cmp k v es)) m ≡ true → (has m v ≡ true) ⊎ ((has m e.1 || is_in_use es m) ≡ true)) [
      | Less ↦ λ g. either (has m v) (has m e.1 || is_in_use es m) g
      | Equal ↦ λ g. elim (either (has m v) (is_in_use es m) g) [ inl x ↦ inl x | inr x ↦ inr (or_right (has m e.1) (is_in_use es m) x) ]
      | Greater ↦ λ g. elim (either (has m e.1) (is_in_use (put key_cmp k v es) m) g) [
        | inl x ↦ inr (or_left (has m e.1) (is_in_use es m) x)
        | inr x ↦ elim (put_uses m k v es x) [ inl y ↦ inl y | inr y ↦ inr (or_right (has m e.1) (is_in_use es m) y) ]
      ]
    ] h

filter_uses : (m : ℕ) (test : Key → Bool) (p : Pending) → is_in_use (filter (λ e. test e.0) p) m ≡ true → is_in_use p m ≡ true
filter_uses m test [] h = h
filter_uses m test (e ∷ es) h =
    elim (test e.0) as (λ b. is_in_use (cond b (e ∷ filter (λ e. test e.0) es) (filter (λ e. test e.0) es)) m ≡ true → (has m e.1 || is_in_use es m) ≡ true) [
      | true ↦ λ g. elim (either (has m e.1) (is_in_use (filter (λ e. test e.0) es) m) g) [
        | inl x ↦ or_left (has m e.1) (is_in_use es m) x
        | inr x ↦ or_right (has m e.1) (is_in_use es m) (filter_uses m test es x)
      ]
      | false ↦ λ g. or_right (has m e.1) (is_in_use es m) (filter_uses m test es g)
    ] h

-- a number under a key is in use
pub found_uses : (m : ℕ) (k : Key) (p : Pending) → has m (numbers_at p k) ≡ true → is_in_use p m ≡ true
found_uses m k [] h = h
found_uses m k (e ∷ es) h =
    elim (eq_by_cmp key_cmp k e.0) as (λ b. has m (or_none (cond b (Some e.1) (find key_cmp k es))) ≡ true → (has m e.1 || is_in_use es m) ≡ true) [
      | true ↦ λ g. or_left (has m e.1) (is_in_use es m) g
      | false ↦ λ g. or_right (has m e.1) (is_in_use es m) (found_uses m k es g)
    ] h

-- after the numbers of a key were changed
pub with_uses : (m : ℕ) (k : Key) (ns : List ℕ) (p : Pending) → is_in_use (with_numbers k ns p) m ≡ true → (has m ns ≡ true) ⊎ (is_in_use p m ≡ true)
with_uses m k [] p h = inr (filter_uses m (λ l. not (same_key k l)) p h)
with_uses m k (n ∷ ns) p h = put_uses m k (n ∷ ns) p h

-- the list without the first place of a number
abbrev take_out : ℕ → List ℕ → List ℕ
take_out n [] = []
take_out n (x ∷ xs) = if nat_eq n x then xs else x ∷ take_out n xs

out_length : (n : ℕ) (xs : List ℕ) → has n xs ≡ true → length xs ≡ suc (length (take_out n xs))
out_length n [] h = cc
out_length n (x ∷ xs) h =
    elim (nat_eq n x) as (λ b. (b || has n xs) ≡ true → length (x ∷ xs) ≡ suc (length (if b then xs else x ∷ take_out n xs))) [
      | true ↦ λ g. refl
      | false ↦ λ g. ap suc (out_length n xs g)
    ] h

out_others : (n m : ℕ) (xs : List ℕ) → n < m → has m xs ≡ true → has m (take_out n xs) ≡ true
out_others n m [] less h = h
out_others n m (x ∷ xs) less h =
    elim (nat_eq n x) as (λ b. nat_eq n x ≡ b → has m (if b then xs else x ∷ take_out n xs) ≡ true) [
      | true ↦ λ e. elim (either (nat_eq m x) (has m xs) h) [
        | inl g ↦ absurd (let a = eqb-true n x e in let b = eqb-true m x g in omega (arith, a, b, less))
        | inr g ↦ g
      ]
      | false ↦ λ e. elim (either (nat_eq m x) (has m xs) h) [
        | inl g ↦ or_left (nat_eq m x) (has m (take_out n xs)) g
        | inr g ↦ or_right (nat_eq m x) (has m (take_out n xs)) (out_others n m xs less g)
      ]
    ] refl

-- a list that has so many numbers in a row is as long
pub in_a_row : (k n : ℕ) (xs : List ℕ) → ((m : ℕ) → n ≤ m → m < n + k → has m xs ≡ true) → k ≤ length xs
in_a_row zero n xs h = omega arith
in_a_row (suc k) n xs h =
    let one = out_length n xs (h n (omega arith) (omega arith)) in
    let rest = in_a_row k (suc n) (take_out n xs) (λ m low high. out_others n m xs (omega (arith, low)) (h m (omega (arith, low)) (omega (arith, high)))) in
    omega (arith, one, rest)

-- a number from n on, among so many, that is free
pub record IsFree (p : Pending) (k n number : ℕ) : Type 0 where
  pub low : n ≤ number
  pub high : number < n + k
  pub unused : is_in_use p number ≡ false

unused_or_all : (k n : ℕ) (p : Pending) → ((number : ℕ) × IsFree p k n number) ⊎ ((m : ℕ) → n ≤ m → m < n + k → is_in_use p m ≡ true)
unused_or_all zero n p = inr (λ m low high. absurd (omega (arith, low, high)))
unused_or_all (suc k) n p =
    elim (is_in_use p n) as (λ b. is_in_use p n ≡ b → ((number : ℕ) × IsFree p (suc k) n number) ⊎ ((m : ℕ) → n ≤ m → m < n + suc k → is_in_use p m ≡ true)) [
      | true ↦ λ e. elim (unused_or_all k (suc n) p) [
        | inl f ↦ inl (f.0, record { low = (let l = f.1.low in omega (arith, l)); high = (let h = f.1.high in omega (arith, h)); unused = f.1.unused })
        | inr all ↦ inr (λ m low high. elim (nat_eq n m) as (λ b. nat_eq n m ≡ b → is_in_use p m ≡ true) [
          | true ↦ λ g. ap (is_in_use p) (sym (eqb-true n m g)) ∙ e
          | false ↦ λ g. all m (let d = eqb-false n m g in omega (arith, d, low)) (omega (arith, high))
        ] refl)
      ]
      | false ↦ λ e. inl (n, record { low = omega arith; high = omega arith; unused = e })
    ] refl

-- where fewer numbers were used than there are, one is free
pub some_unused : (k n : ℕ) (p : Pending) (used : List ℕ) → ((m : ℕ) → is_in_use p m ≡ true → has m used ≡ true) → length used < k → (number : ℕ) × IsFree p k n number
some_unused k n p used uses few =
    elim (unused_or_all k n p) [
      | inl f ↦ f
      | inr all ↦ absurd (let many = in_a_row k n used (λ m low high. uses m (all m low high)) in omega (arith, many, few))
    ]
