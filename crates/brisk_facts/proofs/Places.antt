-- The entries at one place.
use Rattle.std.proofs.Common.{◌≡◌, Bool, true, false, cond, List, [], ◌∷◌, Some, refl, sym, ap, ◌∙◌}
use Rattle.std.specs.Prelude.{◌&&◌, not, filter}
use Rattle.std.specs.declared.cmp.Ordering.{Ordering}
use Rattle.std.specs.declared.cmp.Ordering.TheVariants.{Less, Equal, Greater}
use Rattle.std.specs.Ordering.{nat_cmp, is_eq, eq_by_cmp, match_ordering}
use Rattle.std.specs.Cmp.{IsTotalOrder, both_ways, eq_by_cmp_equiv}
use Rattle.std.specs.Cmp.Lexicographic.{slice_cmp}
use Rattle.std.proofs.lemmas.Cmp.{nat_list_cmp_total, on_total, then_total}
use Rattle.std.proofs.lemmas.Map.Lookups.{CmpEqualImpliesEq, exact_bytes, exact_pairs}
use Rattle.std.proofs.lemmas.Map.Keys.{sorted_head, sorted_tail}
use Rattle.std.proofs.lemmas.Map.Views.{tells_apart}
use Rattle.std.specs.List.{AllByRecursion}
use Rattle.std.specs.List.Sorted.{IsStrictlySortedBy}
use Rattle.std.specs.Map.{keys_of, lookup, remove_entry}
use Rattle.std.specs.BTreeMap.{is_at, insert_entry}
use Rattle.std.specs.FinMap.{find, put}
use Rattle.std.specs.FinMap.Entries.{by_order}
use Rattle.brisk_values.specs.declared.value.Value.{Value}
use Rattle.brisk_values.specs.Names.{Name, same_name}
use Rattle.brisk_values.proofs.Changes.{both_true, exact_name, name_laws}
use Rattle.brisk_facts.specs.Facts.{Place, place_cmp, Facts, without_fact}

pub place_total : IsTotalOrder place_cmp
place_total = then_total (on_total (λ (k : Place). k.0) nat_list_cmp_total) (on_total (λ (k : Place). k.1) nat_list_cmp_total)

pub exact_places : CmpEqualImpliesEq place_cmp
exact_places = exact_pairs (slice_cmp nat_cmp) (slice_cmp nat_cmp) exact_bytes exact_bytes

-- the two tests on places agree
pub same_place : (k q : Place) → eq_by_cmp place_cmp k q ≡ (same_name k.0 q.0 && same_name k.1 q.1)
same_place k q = both_ways _ _
    (λ e. ap (λ (z : Place). same_name k.0 z.0 && same_name k.1 z.1) (sym (tells_apart exact_places k q e)) ∙ (λ i. name_laws.refl k.0 i && name_laws.refl k.1 i))
    (λ e. let h = both_true (same_name k.0 q.0) (same_name k.1 q.1) e in
    (λ i. eq_by_cmp place_cmp k (sym (exact_name k.0 q.0 h.0) i, sym (exact_name k.1 q.1 h.1) i)) ∙ (eq_by_cmp_equiv place_total).refl k)

-- a look-up in the entries
pub find_entry : (q : Place) (es : Facts) → lookup (is_at (place_cmp q)) es ≡ find place_cmp q es
find_entry q [] = refl
find_entry q (e ∷ es) = ap (cond (is_at (place_cmp q) e.0) (Some e.1)) (find_entry q es)

-- an entry that is put in
by_each : {A : Type 0} (o : Ordering) (a b c : A) → match_ordering o a b c ≡ by_order o a b c
by_each Less a b c = refl
by_each Equal a b c = refl
by_each Greater a b c = refl

pub put_entry : (k : Place) (v : Value) (es : Facts) → insert_entry place_cmp es k v ≡ put place_cmp k v es
put_entry k v [] = refl
put_entry k v (e ∷ es) =
    by_each (place_cmp k e.0) _ _ _ ∙ ap (λ r. by_order (place_cmp k e.0) ((k, v) ∷ e ∷ es) ((e.0, v) ∷ es) (e ∷ r)) (put_entry k v es)

-- an entry that is taken out: no other stands at its place
at_other : (k x y : Place) → eq_by_cmp place_cmp k x ≡ true → place_cmp x y ≡ Less → eq_by_cmp place_cmp k y ≡ false
at_other k x y t l = ap (λ (z : Place). eq_by_cmp place_cmp z y) (tells_apart exact_places k x t) ∙ ap is_eq l

all_others : (k x : Place) (es : Facts) → eq_by_cmp place_cmp k x ≡ true → AllByRecursion (λ y. place_cmp x y ≡ Less) (keys_of es) →
    filter (λ e. not (eq_by_cmp place_cmp k e.0)) es ≡ es
all_others k x [] t h = refl
all_others k x (e ∷ es) t h =
    ap (λ b. cond (not b) (e ∷ filter (λ d. not (eq_by_cmp place_cmp k d.0)) es) (filter (λ d. not (eq_by_cmp place_cmp k d.0)) es)) (at_other k x e.0 t h.0)
    ∙ ap (λ r. e ∷ r) (all_others k x es t h.1)

all_but_one : (k : Place) (es : Facts) → IsStrictlySortedBy place_cmp (keys_of es) →
    remove_entry (is_at (place_cmp k)) es ≡ filter (λ e. not (eq_by_cmp place_cmp k e.0)) es
all_but_one k [] s = refl
all_but_one k (e ∷ es) s =
    elim (eq_by_cmp place_cmp k e.0) as (λ b. eq_by_cmp place_cmp k e.0 ≡ b →
    cond b es (e ∷ remove_entry (is_at (place_cmp k)) es)
    ≡ cond (not b) (e ∷ filter (λ d. not (eq_by_cmp place_cmp k d.0)) es) (filter (λ d. not (eq_by_cmp place_cmp k d.0)) es)) [
      | true ↦ λ t. sym (all_others k e.0 es t (sorted_head place_cmp e.0 (keys_of es) s))
      | false ↦ λ t. ap (λ r. e ∷ r) (all_but_one k es (sorted_tail place_cmp e.0 (keys_of es) s))
    ] refl

filter_alike : {A : Type 0} (p q : A → Bool) → ((a : A) → p a ≡ q a) → (xs : List A) → filter p xs ≡ filter q xs
filter_alike p q h [] = refl
filter_alike p q h (x ∷ xs) = λ i. cond (h x i) (x ∷ filter_alike p q h xs i) (filter_alike p q h xs i)

pub removed : (at x : Name) (es : Facts) → IsStrictlySortedBy place_cmp (keys_of es) → remove_entry (is_at (place_cmp (at, x))) es ≡ without_fact at x es
removed at x es s =
    all_but_one (at, x) es s ∙ filter_alike _ _ (λ e. ap not (same_place (at, x) e.0)) es
