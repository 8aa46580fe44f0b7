-- Numbers that are ahead of a walk through numbers in order.
use Rattle.std.proofs.Common.{◌≡◌, ℕ, ◌<◌, true, false, List, [], ◌∷◌, refl, sym, ap, ◌∙◌}
use Rattle.std.specs.Prelude.{◌||◌}
use Rattle.std.specs.declared.cmp.Ordering.TheVariants.{Less, Greater}
use Rattle.std.specs.Ordering.{nat_cmp, is_eq}
use Rattle.std.specs.Cmp.{eq_by_cmp_equiv, nat_cmp_is}
use Rattle.std.proofs.lemmas.Cmp.{nat_cmp_total}
use Rattle.std.proofs.lemmas.Map.Keys.{sorted_head}
use Rattle.std.specs.BTreeMap.{is_at}
use Rattle.std.specs.List.{AllByRecursion, list_any}
use Rattle.std.specs.List.Sorted.{IsStrictlySortedBy}

none_above : (q x : ℕ) (ks : List ℕ) → nat_cmp q x ≡ Less → AllByRecursion (λ y. nat_cmp x y ≡ Less) ks → list_any (is_at (nat_cmp q)) ks ≡ false
none_above q x [] l h = refl
none_above q x (k ∷ ks) l h = ap (λ b. b || list_any (is_at (nat_cmp q)) ks) (ap is_eq (nat_cmp_total.trans q x k l h.0)) ∙ none_above q x ks l h.1

-- a number below the first isn't there
pub none_ahead : (q x : ℕ) (ks : List ℕ) → q < x → IsStrictlySortedBy nat_cmp (x ∷ ks) → list_any (is_at (nat_cmp q)) (x ∷ ks) ≡ false
none_ahead q x ks h s =
    let l : nat_cmp q x ≡ Less = sym (nat_cmp_is q x Less h) in
    ap (λ b. b || list_any (is_at (nat_cmp q)) ks) (ap is_eq l) ∙ none_above q x ks l (sorted_head nat_cmp x ks s)

-- the first number is there
pub first_ahead : (q x : ℕ) (ks : List ℕ) → x ≡ q → list_any (is_at (nat_cmp q)) (x ∷ ks) ≡ true
first_ahead q x ks e = ap (λ y. is_eq (nat_cmp q y) || list_any (is_at (nat_cmp q)) ks) e ∙ ap (λ b. b || list_any (is_at (nat_cmp q)) ks) ((eq_by_cmp_equiv nat_cmp_total).refl q)

-- a number above the first is there if it is among the others
pub later_ahead : (q x : ℕ) (ks : List ℕ) → x < q → list_any (is_at (nat_cmp q)) (x ∷ ks) ≡ list_any (is_at (nat_cmp q)) ks
later_ahead q x ks h = ap (λ b. b || list_any (is_at (nat_cmp q)) ks) (ap is_eq (sym (nat_cmp_is q x Greater h)))
