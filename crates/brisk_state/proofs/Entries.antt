-- Entries of ordered maps, changed at one key.
use Rattle.std.proofs.Common.{◌≡◌, Bool, true, false, cond, List, [], ◌∷◌, Some, None, refl, sym, ap, ◌∙◌}
use Rattle.std.specs.Prelude.{not, filter, IsSome}
use Rattle.std.specs.declared.cmp.Ordering.{Ordering}
use Rattle.std.specs.declared.cmp.Ordering.TheVariants.{Less, Equal, Greater}
use Rattle.std.specs.Ordering.{is_eq, eq_by_cmp, match_ordering}
use Rattle.std.specs.Cmp.{IsTotalOrder}
use Rattle.std.proofs.lemmas.Option.{same_Some}
use Rattle.std.proofs.lemmas.Map.Lookups.{CmpEqualImpliesEq}
use Rattle.std.proofs.lemmas.Map.Keys.{sorted_head, sorted_tail}
use Rattle.std.proofs.lemmas.Map.Views.{tells_apart}
use Rattle.std.specs.List.{AllByRecursion}
use Rattle.std.specs.List.Sorted.{IsStrictlySortedBy}
use Rattle.std.specs.Map.{keys_of, lookup, remove_entry, set_value}
use Rattle.std.specs.BTreeMap.{is_at, insert_entry}
use Rattle.std.specs.FinMap.{find, put}
use Rattle.std.specs.FinMap.Entries.{by_order}

by_each : {A : Type 0} (o : Ordering) (a b c : A) → match_ordering o a b c ≡ by_order o a b c
by_each Less a b c = refl
by_each Equal a b c = refl
by_each Greater a b c = refl

pub filter_alike : {A : Type 0} (p q : A → Bool) → ((a : A) → p a ≡ q a) → (xs : List A) → filter p xs ≡ filter q xs
filter_alike p q h [] = refl
filter_alike p q h (x ∷ xs) = λ i. cond (h x i) (x ∷ filter_alike p q h xs i) (filter_alike p q h xs i)

-- the same value again changes nothing
pub set_again : {K X : Type 0} (test : K → Bool) (w : X) (es : List (K × X)) → Some w ≡ lookup test es → set_value test es w ≡ es
set_again test w [] = λ h. refl
set_again test w (e ∷ es) =
    elim (test e.0) as (λ b. Some w ≡ cond b (Some e.1) (lookup test es) → cond b ((e.0, w) ∷ es) (e ∷ set_value test es w) ≡ e ∷ es) [
      | true ↦ λ h. ap (λ v. (e.0, v) ∷ es) (same_Some w e.1 h)
      | false ↦ λ h. ap (λ r. e ∷ r) (set_again test w es h)
    ]

module _ {K X : Type 0} (R : K → K → Ordering) where
  -- a look-up in the entries
  pub find_entry : (q : K) (es : List (K × X)) → lookup (is_at (R q)) es ≡ find R q es
  find_entry q [] = refl
  find_entry q (e ∷ es) = ap (cond (is_at (R q) e.0) (Some e.1)) (find_entry q es)

  -- an entry that is put in
  pub put_entry : (k : K) (v : X) (es : List (K × X)) → insert_entry R es k v ≡ put R k v es
  put_entry k v [] = refl
  put_entry k v (e ∷ es) =
      by_each (R k e.0) _ _ _ ∙ ap (λ r. by_order (R k e.0) ((k, v) ∷ e ∷ es) ((e.0, v) ∷ es) (e ∷ r)) (put_entry k v es)

module _ {K X : Type 0} {R : K → K → Ordering} (total : IsTotalOrder R) where
  -- no key past a greater one is this one
  pub none_past : (k x : K) (es : List (K × X)) → R k x ≡ Less → AllByRecursion (λ y. R x y ≡ Less) (keys_of es) → find R k es ≡ None
  none_past k x [] l h = refl
  none_past k x (e ∷ es) l h = ap (λ b. cond b (Some e.1) (find R k es)) (ap is_eq (total.trans k x e.0 l h.0)) ∙ none_past k x es l h.1

  -- an entry whose value is changed
  pub set_entry : (k : K) (w : X) (es : List (K × X)) → IsStrictlySortedBy R (keys_of es) → IsSome (find R k es) → set_value (is_at (R k)) es w ≡ put R k w es
  set_entry k w [] s = λ h. cc
  set_entry k w (e ∷ es) s =
      elim (R k e.0) as (λ o. R k e.0 ≡ o → IsSome (cond (is_eq o) (Some e.1) (find R k es)) →
      cond (is_eq o) ((e.0, w) ∷ es) (e ∷ set_value (is_at (R k)) es w) ≡ by_order o ((k, w) ∷ e ∷ es) ((e.0, w) ∷ es) (e ∷ put R k w es)) [
        | Less ↦ λ l h. let n = none_past k e.0 es l (sorted_head R e.0 (keys_of es) s) in let g = rw n at h in cc
        | Equal ↦ λ l h. refl
        | Greater ↦ λ l h. ap (λ r. e ∷ r) (set_entry k w es (sorted_tail R e.0 (keys_of es) s) h)
      ] refl

module _ {K : Type 0} {R : K → K → Ordering} (exact : CmpEqualImpliesEq R) where
  -- an entry that is taken out: no other stands at its key
  at_other : (k x y : K) → eq_by_cmp R k x ≡ true → R x y ≡ Less → eq_by_cmp R k y ≡ false
  at_other k x y t l = ap (λ (z : K). eq_by_cmp R z y) (tells_apart exact k x t) ∙ ap is_eq l

  all_others : {X : Type 0} (k x : K) (es : List (K × X)) → eq_by_cmp R k x ≡ true → AllByRecursion (λ y. R x y ≡ Less) (keys_of es) →
      filter (λ e. not (eq_by_cmp R k e.0)) es ≡ es
  all_others k x [] t h = refl
  all_others k x (e ∷ es) t h =
      ap (λ b. cond (not b) (e ∷ filter (λ d. not (eq_by_cmp R k d.0)) es) (filter (λ d. not (eq_by_cmp R k d.0)) es)) (at_other k x e.0 t h.0)
      ∙ ap (λ r. e ∷ r) (all_others k x es t h.1)

  pub all_but_one : {X : Type 0} (k : K) (es : List (K × X)) → IsStrictlySortedBy R (keys_of es) →
      remove_entry (is_at (R k)) es ≡ filter (λ e. not (eq_by_cmp R k e.0)) es
  all_but_one k [] s = refl
  all_but_one k (e ∷ es) s =
      elim (eq_by_cmp R k e.0) as (λ b. eq_by_cmp R k e.0 ≡ b →
      cond b es (e ∷ remove_entry (is_at (R k)) es)
      ≡ cond (not b) (e ∷ filter (λ d. not (eq_by_cmp R k d.0)) es) (filter (λ d. not (eq_by_cmp R k d.0)) es)) [
        | true ↦ λ t. sym (all_others k e.0 es t (sorted_head R e.0 (keys_of es) s))
        | false ↦ λ t. ap (λ r. e ∷ r) (all_but_one k es (sorted_tail R e.0 (keys_of es) s))
      ] refl
