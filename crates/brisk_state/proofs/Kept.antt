-- The set stays that of the numbers of the queues.
use Rattle.std.proofs.Common.{◌≡◌, ℕ, ◌+◌, Bool, true, false, cond, List, [], ◌∷◌, ◌++◌, drop, nat_eq, Some, refl, sym, ap, ◌∙◌, subst, arith}
use Rattle.std.specs.Prelude.{slice_get}
use Rattle.std.specs.Ordering.{nat_cmp, is_eq}
use Rattle.std.specs.Cmp.{both_ways, eq_by_cmp_equiv}
use Rattle.std.proofs.lemmas.Bool.{eqb-true}
use Rattle.std.proofs.lemmas.Cmp.{nat_cmp_total}
use Rattle.std.proofs.lemmas.Map.Lookups.{exact_unsigned}
use Rattle.std.proofs.lemmas.Map.Views.{tells_apart}
use Rattle.std.proofs.lemmas.Option.{same_Some}
use Rattle.std.specs.BTreeMap as tree
use Rattle.std.specs.BTreeMap.{BTreeMap}
use Rattle.std.specs.BTreeSet.{BTreeSet, contains, Updates}
use Rattle.std.specs.List.{AllByRecursion}
use Rattle.brisk_state.specs.Kept.{AreKept, has_numbers, times, times_in}
use Rattle.brisk_state.specs.Symbolic.{Key, key_cmp, Pending, is_in_use, numbers_at, with_numbers}
use Rattle.brisk_state.proofs.Numbers.{filled_with, in_use_kept, one_if, times_pushed, times_with}

-- the two tests on numbers agree
at_number : (m n : ℕ) → is_eq (nat_cmp m n) ≡ nat_eq n m
at_number m n = both_ways _ _
    (λ e. ap (λ k. nat_eq k m) (sym (tells_apart exact_unsigned m n e)) ∙ same m)
    (λ e. ap (λ k. is_eq (nat_cmp m k)) (eqb-true n m e) ∙ (eq_by_cmp_equiv nat_cmp_total).refl m)
  where
    same : (k : ℕ) → nat_eq k k ≡ true
    same k = grind arith

first_out : (n m : ℕ) (ns : List ℕ) → slice_get ns 0 ≡ Some m → times_in n ns ≡ one_if (nat_eq n m) + times_in n (drop 1 ns)
first_out n m [] h = cc
first_out n m (l ∷ ns) h = ap (λ k. one_if (nat_eq n k) + times_in n ns) (same_Some l m h)

less_one : (k : ℕ) (same b : Bool) → k + one_if same ≡ one_if b → k ≡ one_if (cond same false b)
less_one k true true h = omega arith
less_one k true false h = absurd (omega arith)
less_one k false b h = omega arith

one_more : (k : ℕ) (same b : Bool) → k ≡ one_if b + one_if same → (same ≡ true → b ≡ false) → k ≡ one_if (cond same true b)
one_more k true b h f = h ∙ ap (λ d. one_if d + 1) (f refl)
one_more k false b h f = omega arith

put_back : (same b : Bool) → (same ≡ true → b ≡ false) → cond same false (cond same true b) ≡ b
put_back true b f = sym (f refl)
put_back false b f = refl

module _ (k : Key) (m : ℕ) (queues next : BTreeMap Key (List ℕ)) (used set : BTreeSet ℕ) (kept : AreKept queues used) where
  abbrev es : Pending
  es = queues.entries

  -- the oldest number is taken out of both
  pub kept_popped : slice_get (numbers_at es k) 0 ≡ Some m → tree.IsOrdered key_cmp next → next.entries ≡ with_numbers k (drop 1 (numbers_at es k)) es →
      Updates nat_cmp used set m false → AreKept next set
  kept_popped first ordered changed updates = record {
    ordered = ordered;
    filled = subst (AllByRecursion (λ e. has_numbers e.1 ≡ true)) (sym changed) (filled_with k (drop 1 (numbers_at es k)) es kept.filled);
    exact = λ n.
        let ns = numbers_at es k in
        let with : times n (with_numbers k (drop 1 ns) es) + times_in n ns ≡ times n es + times_in n (drop 1 ns) = times_with n k (drop 1 ns) es kept.ordered in
        let out = first_out n m ns first in
        let less : times n (with_numbers k (drop 1 ns) es) + one_if (nat_eq n m) ≡ times n es = omega arith in
        ap (times n) changed
        ∙ less_one (times n (with_numbers k (drop 1 ns) es)) (nat_eq n m) (contains nat_cmp used n) (less ∙ kept.exact n)
        ∙ ap one_if (ap (λ b. cond b false (contains nat_cmp used n)) (sym (at_number m n)) ∙ sym (updates.0 n));
  }

  absent : is_in_use es m ≡ false → (n : ℕ) → nat_eq n m ≡ true → contains nat_cmp used n ≡ false
  absent free n same = sym (in_use_kept n es (contains nat_cmp used n) (kept.exact n)) ∙ ap (is_in_use es) (eqb-true n m same) ∙ free

  -- a free number is put into both
  pub kept_pushed : is_in_use es m ≡ false → tree.IsOrdered key_cmp next → next.entries ≡ with_numbers k (numbers_at es k ++ m ∷ []) es → Updates nat_cmp used set m true →
      AreKept next set
  kept_pushed free ordered changed updates = record {
    ordered = ordered;
    filled = subst (AllByRecursion (λ e. has_numbers e.1 ≡ true)) (sym changed) (filled_with k (numbers_at es k ++ m ∷ []) es kept.filled);
    exact = λ n.
        let ns = numbers_at es k in
        let with : times n (with_numbers k (ns ++ m ∷ []) es) + times_in n ns ≡ times n es + times_in n (ns ++ m ∷ []) = times_with n k (ns ++ m ∷ []) es kept.ordered in
        let last = times_pushed n ns m in
        let more : times n (with_numbers k (ns ++ m ∷ []) es) ≡ times n es + one_if (nat_eq n m) = omega arith in
        ap (times n) changed
        ∙ one_more (times n (with_numbers k (ns ++ m ∷ []) es)) (nat_eq n m) (contains nat_cmp used n) (more ∙ ap (λ t. t + one_if (nat_eq n m)) (kept.exact n)) (absent free n)
        ∙ ap one_if (ap (λ b. cond b true (contains nat_cmp used n)) (sym (at_number m n)) ∙ sym (updates.0 n));
  }

  -- a free number is put into the set and out again
  pub kept_back : is_in_use es m ≡ false → tree.IsOrdered key_cmp next → next.entries ≡ es → (last : BTreeSet ℕ) → Updates nat_cmp used set m true → Updates nat_cmp set last m false →
      AreKept next last
  kept_back free ordered same last first back = record {
    ordered = ordered;
    filled = subst (AllByRecursion (λ e. has_numbers e.1 ≡ true)) (sym same) kept.filled;
    exact = λ n.
        ap (times n) same ∙ kept.exact n
        ∙ ap one_if
        (sym (put_back (nat_eq n m) (contains nat_cmp used n) (absent free n))
        ∙ (λ i. cond (sym (at_number m n) i) false (cond (sym (at_number m n) i) true (contains nat_cmp used n)))
        ∙ ap (cond (is_eq (nat_cmp m n)) false) (sym (first.0 n))
        ∙ sym (back.0 n));
  }
