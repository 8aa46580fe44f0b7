-- Entries of ordered maps and the boxes that they are seen as.
use Rattle.std.proofs.Common.{◌≡◌, ℕ, List, [], ◌∷◌, Bool, true, false, cond, Some, None, refl, sym, ap, ◌∙◌, nat_eq}
use Rattle.std.specs.Prelude.{◌&&◌, if◌then◌else◌}
use Rattle.std.specs.declared.cmp.Ordering.{Ordering}
use Rattle.std.specs.Ordering.{nat_cmp, eq_by_cmp}
use Rattle.std.specs.Cmp.{IsTotalOrder, both_ways, eq_by_cmp_equiv}
use Rattle.std.proofs.lemmas.Bool.{eqb-true}
use Rattle.std.proofs.lemmas.Cmp.{nat_cmp_total, nat_eq_equiv, on_total, then_total}
use Rattle.std.proofs.lemmas.Map.Lookups.{CmpEqualImpliesEq, exact_pairs}
use Rattle.std.proofs.lemmas.Map.Views.{tells_apart}
use Rattle.std.specs.Map.{lookup}
use Rattle.std.specs.BTreeMap.{is_at}
use Rattle.std.specs.FinMap.{find, get, insert, remove, from_entries, get-from_entries, get-insert, get-remove, same_map, nat_cmp-IsAntisymmetric}
use Rattle.brisk_values.specs.declared.value.Pid.{Pid}
use Rattle.brisk_values.specs.declared.value.Value.{Value}
use Rattle.brisk_values.specs.Names.{same_process}
use Rattle.brisk_values.specs.Places.{process_cmp}
use Rattle.brisk_values.proofs.Changes.{both_true, exact_process, process_laws}
use Rattle.brisk_values.proofs.Entries.{exact_processes, process_total}
use Rattle.brisk_seq.specs.declared.boxes.Cell.{Cell}
use Rattle.brisk_seq.specs.Cells.{Full, box_in, cell_cmp, with_full, without_full}
use Rattle.brisk_seq.specs.Sequential.{with_box}

module _ {K X : Type 0} {R : K → K → Ordering} (total : IsTotalOrder R) where
  find_listed : (es : List (K × X)) (q : K) → find R q es ≡ lookup (is_at (R q)) es
  find_listed [] q = refl
  find_listed (e ∷ es) q = ap (cond (is_at (R q) e.0) (Some e.1)) (find_listed es q)

  pub get_listed : (es : List (K × X)) (q : K) → get (from_entries {R = R} es) q ≡ lookup (is_at (R q)) es
  get_listed es q = get-from_entries total es q ∙ find_listed es q

  -- entries that differ at one key make maps that differ there
  pub one_insert : CmpEqualImpliesEq R → (es fs : List (K × X)) (k : K) (v : X) → ((q : K) → lookup (is_at (R q)) fs ≡ cond (is_at (R k) q) (Some v) (lookup (is_at (R q)) es)) → from_entries {R = R} fs ≡ insert (from_entries es) k v
  one_insert exact es fs k v h = same_map total exact _ _ (λ q.
      get_listed fs q ∙ h q ∙ ap (λ b. cond b (Some v) (lookup (is_at (R q)) es)) ((eq_by_cmp_equiv total).symm k q)
      ∙ sym (get-insert total (from_entries es) k v q ∙ ap (cond (eq_by_cmp R q k) (Some v)) (get_listed es q)))

  pub one_remove : CmpEqualImpliesEq R → (es fs : List (K × X)) (k : K) → ((q : K) → lookup (is_at (R q)) fs ≡ cond (is_at (R k) q) None (lookup (is_at (R q)) es)) → from_entries {R = R} fs ≡ remove (from_entries es) k
  one_remove exact es fs k h = same_map total exact _ _ (λ q.
      get_listed fs q ∙ h q ∙ ap (λ b. cond b None (lookup (is_at (R q)) es)) ((eq_by_cmp_equiv total).symm k q)
      ∙ sym (get-remove total (from_entries es) k q ∙ ap (cond (eq_by_cmp R q k) None) (get_listed es q)))

pub cell_total : IsTotalOrder cell_cmp
cell_total = then_total (on_total (λ (k : Cell). k.number) nat_cmp_total) (then_total (on_total (λ (k : Cell). k.from) process_total) (on_total (λ (k : Cell). k.to) process_total))

-- cells that compare alike are one
pub exact_cells : CmpEqualImpliesEq cell_cmp
exact_cells a b h = ap (λ (k : ℕ × (Pid × Pid)). record { number = k.0; from = k.1.0; to = k.1.1 })
    (exact_pairs nat_cmp _ nat_cmp-IsAntisymmetric (exact_pairs process_cmp process_cmp exact_processes exact_processes) (a.number, (a.from, a.to)) (b.number, (b.from, b.to)) h)

abbrev same_cell : Cell → Cell → Bool
same_cell a b = nat_eq a.number b.number && same_process a.from b.from && same_process a.to b.to

same_refl : (a : Cell) → same_cell a a ≡ true
same_refl a = λ i. nat_eq_equiv.refl a.number i && process_laws.refl a.from i && process_laws.refl a.to i

same_exact : (a b : Cell) → same_cell a b ≡ true → a ≡ b
same_exact a b e =
    let h = both_true (nat_eq a.number b.number && same_process a.from b.from) (same_process a.to b.to) e in
    let g = both_true (nat_eq a.number b.number) (same_process a.from b.from) h.0 in
    λ i. record { number = eqb-true a.number b.number g.0 i; from = exact_process a.from b.from g.1 i; to = exact_process a.to b.to h.1 i }

at_cell : (k q : Cell) → eq_by_cmp cell_cmp q k ≡ same_cell k q
at_cell k q = both_ways _ _
    (λ e. ap (same_cell k) (tells_apart exact_cells q k e) ∙ same_refl k)
    (λ e. ap (λ z. eq_by_cmp cell_cmp z k) (sym (same_exact k q e)) ∙ (eq_by_cmp_equiv cell_total).refl k)

conds : {X : Type 0} (b : Bool) (x y : X) → cond b x y ≡ (if b then x else y)
conds true x y = refl
conds false x y = refl

-- to put values into a box changes this box
pub one_box : (m : Full) (k : Cell) (vs : List Value) → box_in (with_full k vs m) ≡ with_box k.number k.from k.to (Some vs) (box_in m)
one_box m k vs = λ i n p q.
    (get-insert cell_total m k vs (record { number = n; from = p; to = q }) ∙ ap (λ b. cond b (Some vs) (box_in m n p q)) (at_cell k (record { number = n; from = p; to = q }))
    ∙ conds _ (Some vs) (box_in m n p q)) i

-- to take them out changes this box
pub no_box : (m : Full) (k : Cell) → box_in (without_full k m) ≡ with_box k.number k.from k.to None (box_in m)
no_box m k = λ i n p q.
    (get-remove cell_total m k (record { number = n; from = p; to = q }) ∙ ap (λ b. cond b None (box_in m n p q)) (at_cell k (record { number = n; from = p; to = q }))
    ∙ conds _ None (box_in m n p q)) i
