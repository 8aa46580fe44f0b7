-- A store as a function from a process and a variable to a value.
use Rattle.std.proofs.Common.{◌≡◌, Bool, true, false, cond, Some, refl, sym, ap, ◌∙◌}
use Rattle.std.specs.Prelude.{◌&&◌, if◌then◌else◌}
use Rattle.std.specs.Ordering.{eq_by_cmp}
use Rattle.std.specs.Cmp.{both_ways, eq_by_cmp_equiv}
use Rattle.std.specs.FinMap.{get, insert, get-insert}
use Rattle.std.proofs.lemmas.Map.Views.{tells_apart}
use Rattle.brisk_values.specs.declared.value.Pid.{Pid}
use Rattle.brisk_values.specs.declared.value.Value.{Value}
use Rattle.brisk_values.specs.Functions.{changed}
use Rattle.brisk_values.specs.Names.{Name, same_name, same_process}
use Rattle.brisk_values.specs.Places.{Entries, place_cmp, value_in}
use Rattle.brisk_values.proofs.Changes.{both_true, exact_process, exact_name, process_laws, name_laws}
use Rattle.brisk_values.proofs.Entries.{place_total, exact_places}

-- the two tests agree
pub same_place : (p q : Pid) (x y : Name) → eq_by_cmp place_cmp (q, y) (p, x) ≡ (same_process p q && same_name x y)
same_place p q x y = both_ways _ _
    (λ e. let k = tells_apart exact_places (q, y) (p, x) e in
    ap (λ (z : Pid × Name). same_process p z.0 && same_name x z.1) k ∙ (λ i. process_laws.refl p i && name_laws.refl x i))
    (λ e. let h = both_true (same_process p q) (same_name x y) e in
    let same_p = sym (exact_process p q h.0) in let same_x = sym (exact_name x y h.1) in
    (λ i. eq_by_cmp place_cmp (same_p i, same_x i) (p, x)) ∙ (eq_by_cmp_equiv place_total).refl (p, x))

at_place : (m : Entries) (p q : Pid) (x y : Name) (v : Value) (a : Bool) → same_process p q ≡ a →
    cond (a && same_name x y) (Some v) (get m (q, y)) ≡ (if a then changed same_name (value_in m p) x (Some v) else value_in m q) y
at_place m p q x y v true e = ap (λ z. cond (same_name x y) (Some v) (get m (z, y))) (sym (exact_process p q e))
at_place m p q x y v false e = refl

-- storing a value changes one variable of one process
pub one_variable : (m : Entries) (p : Pid) (x : Name) (v : Value) → value_in (insert m (p, x) v) ≡ changed same_process (value_in m) p (changed same_name (value_in m p) x (Some v))
one_variable m p x v = λ i q y.
    (get-insert place_total m (p, x) v (q, y)
    ∙ ap (λ b. cond b (Some v) (get m (q, y))) (same_place p q x y)
    ∙ at_place m p q x y v (same_process p q) refl) i
