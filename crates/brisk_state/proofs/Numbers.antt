-- Numbers under keys: how often each stands there, and what remains after a change.
use Rattle.std.proofs.Common.{◌≡◌, ℕ, ◌+◌, ◌<◌, ◌≤◌, length, Bool, true, false, cond, List, [], ◌∷◌, ◌++◌, drop, nat_eq, Some, refl, sym, ap, ◌∙◌, arith}
use Rattle.std.specs.Prelude.{◌&&◌, ◌||◌, not, filter, if◌then◌else◌, is_some, IsSome, nat_lt}
use Rattle.std.specs.declared.cmp.Ordering.TheVariants.{Less, Equal, Greater}
use Rattle.std.specs.Ordering.{nat_cmp, is_eq, eq_by_cmp}
use Rattle.std.specs.Cmp.{IsTotalOrder, both_ways, eq_by_cmp_equiv}
use Rattle.std.specs.Cmp.Lexicographic.{slice_cmp}
use Rattle.std.proofs.lemmas.Cmp.{nat_list_cmp_total, on_total, then_total}
use Rattle.std.proofs.lemmas.Map.Lookups.{CmpEqualImpliesEq, exact_bytes, exact_pairs}
use Rattle.std.proofs.lemmas.Map.Keys.{sorted_head, sorted_tail}
use Rattle.std.proofs.lemmas.Map.Views.{tells_apart}
use Rattle.std.specs.List.{AllByRecursion, list_any}
use Rattle.std.specs.List.Sorted.{IsStrictlySortedBy}
use Rattle.std.specs.Map.{keys_of, lookup, remove_entry, set_value}
use Rattle.std.specs.BTreeMap.{is_at}
use Rattle.std.specs.FinMap.{find, put}
use Rattle.std.specs.FinMap.Entries.{by_order}
use Rattle.brisk_values.specs.Names.{same_name}
use Rattle.brisk_values.proofs.Changes.{both_true, exact_name, name_laws}
use Rattle.brisk_state.specs.Kept.{times, times_in, has_numbers}
use Rattle.brisk_state.specs.Symbolic.{Key, key_cmp, same_key, Pending, or_none, numbers_at, with_numbers, is_in_use}
use Rattle.brisk_state.proofs.Entries.{all_but_one, filter_alike, find_entry, none_past, set_entry}

pub key_total : IsTotalOrder key_cmp
key_total =
    then_total (on_total (λ (k : Key). k.from) nat_list_cmp_total)
    (then_total (on_total (λ (k : Key). k.to) nat_list_cmp_total) (on_total (λ (k : Key). k.channel) nat_list_cmp_total))

pub exact_keys : CmpEqualImpliesEq key_cmp
exact_keys a b h =
    let e : (a.from, (a.to, a.channel)) ≡ (b.from, (b.to, b.channel)) =
    exact_pairs (slice_cmp nat_cmp) _ exact_bytes (exact_pairs (slice_cmp nat_cmp) (slice_cmp nat_cmp) exact_bytes exact_bytes)
    (a.from, (a.to, a.channel)) (b.from, (b.to, b.channel)) h in
    λ i. record { from = (e i).0; to = (e i).1.0; channel = (e i).1.1 }

-- the two tests on keys agree
pub same_keys : (k q : Key) → eq_by_cmp key_cmp k q ≡ same_key k q
same_keys k q = both_ways _ _
    (λ e. ap (same_key k) (sym (tells_apart exact_keys k q e)) ∙ (λ i. name_laws.refl k.from i && name_laws.refl k.to i && name_laws.refl k.channel i))
    (λ e.
    let h = both_true (same_name k.from q.from && same_name k.to q.to) (same_name k.channel q.channel) e in
    let g = both_true (same_name k.from q.from) (same_name k.to q.to) h.0 in
    let same : k ≡ q = λ i. record { from = exact_name k.from q.from g.0 i; to = exact_name k.to q.to g.1 i; channel = exact_name k.channel q.channel h.1 i } in
    ap (eq_by_cmp key_cmp k) (sym same) ∙ (eq_by_cmp_equiv key_total).refl k)

-- the numbers of a key are taken out
pub taken_out : (k : Key) (es : Pending) → IsStrictlySortedBy key_cmp (keys_of es) → remove_entry (is_at (key_cmp k)) es ≡ with_numbers k [] es
taken_out k es s = all_but_one exact_keys k es s ∙ filter_alike _ _ (λ e. ap not (same_keys k e.0)) es

-- one number more, or none
abbrev pub one_if : Bool → ℕ
one_if b = if b then 1 else 0

module _ (n : ℕ) where
  times_put : (k : Key) (ns : List ℕ) (es : Pending) → IsStrictlySortedBy key_cmp (keys_of es) →
      times n (put key_cmp k ns es) + times_in n (or_none (find key_cmp k es)) ≡ times n es + times_in n ns
  times_put k ns [] s = omega arith
  times_put k ns (e ∷ es) s =
      elim (key_cmp k e.0) as (λ o. key_cmp k e.0 ≡ o →
      times n (by_order o ((k, ns) ∷ e ∷ es) ((e.0, ns) ∷ es) (e ∷ put key_cmp k ns es)) + times_in n (or_none (cond (is_eq o) (Some e.1) (find key_cmp k es)))
      ≡ times n (e ∷ es) + times_in n ns) [
        | Less ↦ λ l. let none = none_past key_total k e.0 es l (sorted_head key_cmp e.0 (keys_of es) s) in rw none (omega arith)
        | Equal ↦ λ l. omega arith
        | Greater ↦ λ l. let later = times_put k ns es (sorted_tail key_cmp e.0 (keys_of es) s) in omega arith
      ] refl

  times_out : (k : Key) (es : Pending) → times n (remove_entry (is_at (key_cmp k)) es) + times_in n (or_none (find key_cmp k es)) ≡ times n es
  times_out k [] = refl
  times_out k (e ∷ es) =
      elim (is_eq (key_cmp k e.0)) as (λ b. times n (cond b es (e ∷ remove_entry (is_at (key_cmp k)) es)) + times_in n (or_none (cond b (Some e.1) (find key_cmp k es))) ≡ times n (e ∷ es)) [
        | true ↦ omega arith
        | false ↦ let later = times_out k es in omega arith
      ]

  -- other numbers under a key
  pub times_with : (k : Key) (ns : List ℕ) (es : Pending) → IsStrictlySortedBy key_cmp (keys_of es) →
      times n (with_numbers k ns es) + times_in n (numbers_at es k) ≡ times n es + times_in n ns
  times_with k [] es s = ap (λ fs. times n fs + times_in n (numbers_at es k)) (sym (taken_out k es s)) ∙ times_out k es ∙ omega arith
  times_with k (m ∷ ns) es s = times_put k (m ∷ ns) es s

  any_counted : (ns : List ℕ) → list_any (nat_eq n) ns ≡ nat_lt 0 (times_in n ns)
  any_counted [] = refl
  any_counted (m ∷ ns) =
      either (nat_eq n m) (list_any (nat_eq n) ns) (times_in n ns) (any_counted ns)
    where
      either : (b d : Bool) (k : ℕ) → d ≡ nat_lt 0 k → (b || d) ≡ nat_lt 0 (one_if b + k)
      either true d k e = grind arith
      either false d k e = e ∙ ap (nat_lt 0) (omega arith)

  either_counted : (a b : ℕ) → (nat_lt 0 a || nat_lt 0 b) ≡ nat_lt 0 (a + b)
  either_counted a b = grind arith

  any_time : (es : Pending) → is_in_use es n ≡ nat_lt 0 (times n es)
  any_time [] = refl
  any_time (e ∷ es) = (λ i. any_counted e.1 i || any_time es i) ∙ either_counted (times_in n e.1) (times n es)

  -- one more number at the end of a list
  pub times_pushed : (ns : List ℕ) (m : ℕ) → times_in n (ns ++ m ∷ []) ≡ times_in n ns + one_if (nat_eq n m)
  times_pushed [] m = omega arith
  times_pushed (l ∷ ns) m = let later = times_pushed ns m in omega arith

  -- a box has the number where the set has it
  pub in_use_kept : (es : Pending) (b : Bool) → times n es ≡ one_if b → is_in_use es n ≡ b
  in_use_kept es b h = any_time es ∙ ap (nat_lt 0) h ∙ elim b as (λ b. nat_lt 0 (one_if b) ≡ b) [ true ↦ refl | false ↦ refl ]

-- other numbers, of which there are some, under a key that has some
pub changed_entry : (k : Key) (w : List ℕ) (es : Pending) → IsStrictlySortedBy key_cmp (keys_of es) → IsSome (lookup (is_at (key_cmp k)) es) → has_numbers w ≡ true →
    set_value (is_at (key_cmp k)) es w ≡ with_numbers k w es
changed_entry k [] es s h f = cc
changed_entry k (n ∷ ns) es s h f = set_entry key_total k (n ∷ ns) es s (sym (ap is_some (find_entry key_cmp k es)) ∙ h)

pub one_more_is_there : (ns : List ℕ) (n : ℕ) → has_numbers (ns ++ n ∷ []) ≡ true
one_more_is_there [] n = refl
one_more_is_there (m ∷ ns) n = refl

pub one_less_is_there : (ns : List ℕ) → 1 < length ns → has_numbers (drop 1 ns) ≡ true
one_less_is_there [] h = absurd (omega arith)
one_less_is_there (m ∷ []) h = absurd (omega arith)
one_less_is_there (m ∷ n ∷ ns) h = refl

pub none_left : (ns : List ℕ) → length ns ≤ 1 → drop 1 ns ≡ []
none_left [] h = refl
none_left (m ∷ []) h = refl
none_left (m ∷ n ∷ ns) h = absurd (omega arith)

-- each queue has numbers after a change
filled_put : (k : Key) (m : ℕ) (ns : List ℕ) (es : Pending) → AllByRecursion (λ e. has_numbers e.1 ≡ true) es → AllByRecursion (λ e. has_numbers e.1 ≡ true) (put key_cmp k (m ∷ ns) es)
filled_put k m ns [] h = (refl, tt)
filled_put k m ns (e ∷ es) h =
    elim (key_cmp k e.0) as (λ o. AllByRecursion (λ e. has_numbers e.1 ≡ true) (by_order o ((k, m ∷ ns) ∷ e ∷ es) ((e.0, m ∷ ns) ∷ es) (e ∷ put key_cmp k (m ∷ ns) es))) [
      | Less ↦ (refl, h)
      | Equal ↦ (refl, h.1)
      | Greater ↦ (h.0, filled_put k m ns es h.1)
    ]

all_kept : {A : Type 0} (P : A → Type 0) (test : A → Bool) (xs : List A) → AllByRecursion P xs → AllByRecursion P (filter test xs)
all_kept P test [] h = tt
all_kept P test (x ∷ xs) h =
    elim (test x) as (λ b. AllByRecursion P (cond b (x ∷ filter test xs) (filter test xs))) [ true ↦ (h.0, all_kept P test xs h.1) | false ↦ all_kept P test xs h.1 ]

pub filled_with : (k : Key) (ns : List ℕ) (es : Pending) → AllByRecursion (λ e. has_numbers e.1 ≡ true) es → AllByRecursion (λ e. has_numbers e.1 ≡ true) (with_numbers k ns es)
filled_with k [] es h = all_kept (λ e. has_numbers e.1 ≡ true) (λ e. not (same_key k e.0)) es h
filled_with k (m ∷ ns) es h = filled_put k m ns es h
