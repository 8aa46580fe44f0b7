-- What stands where in a symbolic state after a change of facts or of pending numbers.
use Rattle.std.proofs.Common.{◌≡◌, ℕ, Bool, true, false, List, [], ◌∷◌, Option, Some, None, cond, refl, sym, ap, ◌∙◌}
use Rattle.std.specs.Prelude.{if◌then◌else◌, ◌&&◌, not}
use Rattle.std.specs.declared.cmp.Ordering.{Ordering}
use Rattle.std.specs.declared.cmp.Ordering.TheVariants.{Less, Equal, Greater}
use Rattle.std.specs.Cmp.{IsTotalOrder}
use Rattle.std.specs.Cmp.Lexicographic.{slice_cmp, texts_ties}
use Rattle.std.specs.FinMap.{find}
use Rattle.std.specs.FinMap.Entries.{find-put, find-where_key}
use Rattle.std.specs.Ordering.{nat_cmp, ordering_then, is_eq, eq_by_cmp}
use Rattle.std.proofs.lemmas.Cmp.{nat_list_cmp_total, on_total, then_total}
use Rattle.std.proofs.lemmas.Map.Lookups.{exact_bytes, exact_pairs}
use Rattle.brisk_values.specs.declared.value.Value.{Value}
use Rattle.brisk_values.specs.Functions.{changed}
use Rattle.brisk_values.specs.Names.{Name, same_name}
use Rattle.brisk_values.proofs.Changes.{name_laws, exact_name, changed_again, changed-same}
use Rattle.brisk_facts.specs.Facts.{Place, place_cmp, Facts, fact, with_value, with_values, without_fact, without_facts}
use Rattle.brisk_facts.proofs.Places.{place_total, exact_places, same_place}
use Rattle.brisk_state.specs.Symbolic.{Key, key_cmp, same_key, Pending, numbers_at, with_numbers, or_none}
use Rattle.brisk_sound.proofs.Loops.{facts_back}
use Rattle.brisk_rules.proofs.Readings.{facts_with, forgotten}

key_total : IsTotalOrder key_cmp
key_total =
    then_total (on_total (λ (k : Key). k.from) nat_list_cmp_total)
    (then_total (on_total (λ (k : Key). k.to) nat_list_cmp_total) (on_total (λ (k : Key). k.channel) nat_list_cmp_total))

is_eq-then : (a b : Ordering) → is_eq (ordering_then a b) ≡ (is_eq a && is_eq b)
is_eq-then Less b = refl
is_eq-then Equal b = refl
is_eq-then Greater b = refl

and_assoc : (a b c : Bool) → (a && (b && c)) ≡ ((a && b) && c)
and_assoc true b c = refl
and_assoc false b c = refl

-- places that compare alike are the same
place_ties : (at x at' x' : Name) → eq_by_cmp place_cmp (at', x') (at, x) ≡ (same_name at at' && same_name x x')
place_ties at x at' x' = same_place (at', x') (at, x) ∙ (λ i. name_laws.symm at' at i && name_laws.symm x' x i)

key_ties : (k l : Key) → eq_by_cmp key_cmp l k ≡ same_key k l
key_ties k l =
    is_eq-then (slice_cmp nat_cmp l.from k.from) (ordering_then (slice_cmp nat_cmp l.to k.to) (slice_cmp nat_cmp l.channel k.channel))
    ∙ ap (λ b. is_eq (slice_cmp nat_cmp l.from k.from) && b) (is_eq-then (slice_cmp nat_cmp l.to k.to) (slice_cmp nat_cmp l.channel k.channel))
    ∙ and_assoc (is_eq (slice_cmp nat_cmp l.from k.from)) (is_eq (slice_cmp nat_cmp l.to k.to)) (is_eq (slice_cmp nat_cmp l.channel k.channel))
    ∙ (λ i. ((sym (texts_ties l.from k.from) ∙ name_laws.symm l.from k.from) i && (sym (texts_ties l.to k.to) ∙ name_laws.symm l.to k.to) i)
    && (sym (texts_ties l.channel k.channel) ∙ name_laws.symm l.channel k.channel) i)

abbrev Parts : Type 0
Parts = Name × (Name × Name)

pub exact_key_cmp : (k l : Key) → key_cmp k l ≡ Equal → k ≡ l
exact_key_cmp k l h =
    ap (λ (p : Parts). record { from = p.0; to = p.1.0; channel = p.1.1 })
    (exact_pairs (slice_cmp nat_cmp) (λ (a b : Name × Name). ordering_then (slice_cmp nat_cmp a.0 b.0) (slice_cmp nat_cmp a.1 b.1)) exact_bytes
    (exact_pairs (slice_cmp nat_cmp) (slice_cmp nat_cmp) exact_bytes exact_bytes) (k.from, (k.to, k.channel)) (l.from, (l.to, l.channel)) h)

turned : {A : Type 0} (b : Bool) (x y : A) → cond (not b) x y ≡ cond b y x
turned true x y = refl
turned false x y = refl

-- the value at a place after a change at a place
value_at : (at x : Name) (o : Option Value) (F : Facts) (at' x' : Name) →
    fact (with_value at x o F) at' x' ≡ (if same_name at at' && same_name x x' then o else fact F at' x')
value_at at x None F at' x' =
    find-where_key place_cmp (λ q. not (same_name at q.0 && same_name x q.1)) (at', x')
    (λ q e. ap (λ (z : Place). not (same_name at z.0 && same_name x z.1)) (sym (exact_places (at', x') q e))) F
    ∙ turned (same_name at at' && same_name x x') (fact F at' x') None
value_at at x (Some v) F at' x' =
    find-put place_cmp place_total (at', x') (at, x) v F ∙ ap (λ b. cond b (Some v) (fact F at' x')) (place_ties at x at' x')

nested : (F : Facts) (at x : Name) (o : Option Value) (at' x' : Name) →
    (if same_name at at' && same_name x x' then o else fact F at' x') ≡ changed same_name (fact F) at (changed same_name (fact F at) x o) at' x'
nested F at x o at' x' =
    elim (same_name at at') as (λ b. same_name at at' ≡ b → (if b && same_name x x' then o else fact F at' x') ≡ (if b then changed same_name (fact F at) x o else fact F at') x') [
      | true ↦ λ e. ap (λ z. if same_name x x' then o else fact F z x') (sym (exact_name at at' e))
      | false ↦ λ e. refl
    ] refl

pub one_value : (at x : Name) (o : Option Value) (F : Facts) → fact (with_value at x o F) ≡ changed same_name (fact F) at (changed same_name (fact F at) x o)
one_value at x o F = λ i at' x'. (value_at at x o F at' x' ∙ nested F at x o at' x') i

-- a change of one role's facts, and then a further one
pub again : (F F1 : Facts) (at : Name) (g : Name → Option Value) (h : (Name → Option Value) → Name → Option Value) → fact F1 ≡ changed same_name (fact F) at g →
    changed same_name (fact F1) at (h (fact F1 at)) ≡ changed same_name (fact F) at (h g)
again F F1 at g h is =
    (λ i. changed same_name (is i) at (h (is i at)))
    ∙ ap (λ z. changed same_name (changed same_name (fact F) at g) at (h z)) (changed-same name_laws (fact F) at g)
    ∙ changed_again same_name (fact F) at g (h g)

pub some_values : (at : Name) (xs : List Name) (vs : List (Option Value)) (F : Facts) →
    fact (with_values at xs vs F) ≡ changed same_name (fact F) at (facts_with (fact F at) xs vs)
some_values at [] vs F = sym (facts_back (fact F) at)
some_values at (x ∷ xs) [] F = sym (facts_back (fact F) at)
some_values at (x ∷ xs) (v ∷ vs) F =
    some_values at xs vs (with_value at x v F)
    ∙ again F (with_value at x v F) at (changed same_name (fact F at) x v) (λ g. facts_with g xs vs) (one_value at x v F)

pub no_values : (at : Name) (xs : List Name) (F : Facts) → fact (without_facts at xs F) ≡ changed same_name (fact F) at (forgotten (fact F at) xs)
no_values at [] F = sym (facts_back (fact F) at)
no_values at (x ∷ xs) F =
    no_values at xs (without_fact at x F)
    ∙ again F (without_fact at x F) at (changed same_name (fact F at) x None) (λ g. forgotten g xs) (one_value at x None F)

-- the numbers under each key after a change at one
pub numbers_with : (k : Key) (ns : List ℕ) (pending : Pending) → numbers_at (with_numbers k ns pending) ≡ changed same_key (numbers_at pending) k ns
numbers_with k ns pending = λ i l. at_key k ns pending l i
  where
    pushed : (b : Bool) (o : Option (List ℕ)) (ms : List ℕ) → or_none (cond b (Some ms) o) ≡ cond b ms (or_none o)
    pushed true o ms = refl
    pushed false o ms = refl

    gone : (b : Bool) (o : Option (List ℕ)) → or_none (cond (not b) o None) ≡ cond b [] (or_none o)
    gone true o = refl
    gone false o = refl

    at_key : (k : Key) (ns : List ℕ) (pending : Pending) (l : Key) → numbers_at (with_numbers k ns pending) l ≡ changed same_key (numbers_at pending) k ns l
    at_key k [] pending l =
        ap or_none (find-where_key key_cmp (λ q. not (same_key k q)) l (λ q e. ap (λ (z : Key). not (same_key k z)) (sym (exact_key_cmp l q e))) pending)
        ∙ gone (same_key k l) (find key_cmp l pending)
    at_key k (n ∷ ns) pending l =
        ap or_none (find-put key_cmp key_total l k (n ∷ ns) pending)
        ∙ pushed (eq_by_cmp key_cmp l k) (find key_cmp l pending) (n ∷ ns)
        ∙ ap (λ b. cond b (n ∷ ns) (numbers_at pending l)) (key_ties k l)
