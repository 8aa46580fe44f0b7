-- A store's entries and its finite map.
use Rattle.std.proofs.Common.{◌≡◌, ℕ, List, [], ◌∷◌, cond, Option, Some, refl, sym, ap, ◌∙◌}
use Rattle.std.specs.Ordering.{nat_cmp, eq_by_cmp}
use Rattle.std.specs.Cmp.{IsTotalOrder, eq_by_cmp_equiv}
use Rattle.std.specs.Cmp.Lexicographic.{slice_cmp}
use Rattle.std.proofs.lemmas.Cmp.{nat_cmp_total, nat_list_cmp_total, on_total, then_total}
use Rattle.std.proofs.lemmas.Map.Lookups.{CmpEqualImpliesEq, exact_unsigned, exact_bytes, exact_pairs}
use Rattle.std.specs.Map.{lookup}
use Rattle.std.specs.BTreeMap.{is_at}
use Rattle.std.specs.FinMap.{find, get, insert, from_entries, get-from_entries, get-insert, same_map}
use Rattle.brisk_values.specs.declared.value.Pid.{Pid}
use Rattle.brisk_values.specs.declared.value.Value.{Value}
use Rattle.brisk_values.specs.Names.{Name}
use Rattle.brisk_values.specs.Places.{process_cmp, place_cmp}

pub process_total : IsTotalOrder process_cmp
process_total = then_total (on_total (λ (p : Pid). p.role) nat_list_cmp_total) (on_total (λ (p : Pid). p.member) nat_cmp_total)

pub place_total : IsTotalOrder place_cmp
place_total = then_total (on_total (λ (k : Pid × Name). k.0) process_total) (on_total (λ (k : Pid × Name). k.1) nat_list_cmp_total)

-- keys that compare alike are one
pub exact_processes : CmpEqualImpliesEq process_cmp
exact_processes p q h = ap (λ (k : Name × ℕ). record { role = k.0; member = k.1 }) (exact_pairs (slice_cmp nat_cmp) nat_cmp exact_bytes exact_unsigned (p.role, p.member) (q.role, q.member) h)

pub exact_places : CmpEqualImpliesEq place_cmp
exact_places = exact_pairs process_cmp (slice_cmp nat_cmp) exact_processes exact_bytes

abbrev pub Listed : Type 0
Listed = List ((Pid × Name) × Value)

abbrev pub value_at : Listed → Pid × Name → Option Value
value_at es q = lookup (is_at (place_cmp q)) es

find_place : (es : Listed) (q : Pid × Name) → find place_cmp q es ≡ value_at es q
find_place [] q = refl
find_place (e ∷ es) q = ap (cond (is_at (place_cmp q) e.0) (Some e.1)) (find_place es q)

pub get_place : (es : Listed) (q : Pid × Name) → get (from_entries {R = place_cmp} es) q ≡ value_at es q
get_place es q = get-from_entries place_total es q ∙ find_place es q

-- entries that differ at one place make maps that differ there
pub one_set : (es fs : Listed) (k : Pid × Name) (v : Value) → ((q : Pid × Name) → value_at fs q ≡ cond (is_at (place_cmp k) q) (Some v) (value_at es q)) → from_entries {R = place_cmp} fs ≡ insert (from_entries es) k v
one_set es fs k v h = same_map place_total exact_places _ _ (λ q.
    get_place fs q ∙ h q ∙ ap (λ b. cond b (Some v) (value_at es q)) ((eq_by_cmp_equiv place_total).symm k q)
    ∙ sym (get-insert place_total (from_entries es) k v q ∙ ap (cond (eq_by_cmp place_cmp q k) (Some v)) (get_place es q)))
