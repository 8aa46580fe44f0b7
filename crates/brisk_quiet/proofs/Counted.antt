-- Counts by channel, and what is left of what pended.
use Rattle.std.proofs.Common.{◌≡◌, ℕ, zero, suc, ◌+◌, ◌-◌, ◌<◌, min, max, Bool, true, false, cond, List, [], ◌∷◌, map, Option, Some, refl, sym, ap, subst, ◌∙◌, arith}
use Rattle.std.specs.Prelude.{if◌then◌else◌, unwrap_or}
use Rattle.std.specs.Ordering.{nat_cmp, eq_by_cmp}
use Rattle.std.specs.Cmp.{both_ways, eq_by_cmp_equiv}
use Rattle.std.specs.Cmp.Lexicographic.{slice_cmp}
use Rattle.std.specs.BTreeMap.{BTreeMap, get, is_at}
use Rattle.std.specs.Map.{lookup}
use Rattle.std.specs.Map.Calls.{RetainsPairs}
use Rattle.std.proofs.lemmas.Cmp.{nat_list_cmp_total}
use Rattle.std.proofs.lemmas.Map.Lookups.{exact_bytes}
use Rattle.std.proofs.lemmas.Map.Views.{tells_apart}
use Rattle.brisk_values.specs.Functions.{changed}
use Rattle.brisk_values.specs.Names.{Name, same_name}
use Rattle.brisk_values.proofs.Changes.{exact_name, name_laws}
use Rattle.brisk_quiet.specs.Quiet.{Walked, Ends, if_any, one_less}

-- the two tests on names agree
same_cmp : (k q : Name) → eq_by_cmp (slice_cmp nat_cmp) k q ≡ same_name k q
same_cmp k q = both_ways _ _
    (λ e. ap (λ z. same_name z q) (tells_apart exact_bytes k q e) ∙ name_laws.refl q)
    (λ e. ap (λ z. eq_by_cmp (slice_cmp nat_cmp) z q) (exact_name k q e) ∙ (eq_by_cmp_equiv nat_list_cmp_total).refl q)

-- a number that is put at a name
pub inserted : (m n : BTreeMap Name ℕ) (k : Name) (v : ℕ) → ((q : Name) → get (slice_cmp nat_cmp) n q ≡ cond (is_at (slice_cmp nat_cmp k) q) (Some v) (get (slice_cmp nat_cmp) m q)) →
    (λ q. unwrap_or (get (slice_cmp nat_cmp) n q) 0) ≡ changed same_name (λ q. unwrap_or (get (slice_cmp nat_cmp) m q) 0) k v
inserted m n k v h = λ i q.
    (ap (λ o. unwrap_or o 0) (h q) ∙ ap (λ b. unwrap_or (cond b (Some v) (get (slice_cmp nat_cmp) m q)) 0) (same_cmp k q)
    ∙ inside (same_name k q) (get (slice_cmp nat_cmp) m q)) i
  where
    inside : (b : Bool) (o : Option ℕ) → unwrap_or (cond b (Some v) o) 0 ≡ (if b then v else unwrap_or o 0)
    inside true o = refl
    inside false o = refl

-- a closure that keeps each pair, and writes g of its key and its value
pub retained : {F : Type 0} (T : F → Name → ℕ → Bool → ℕ → F → Type 0) (g : Name → ℕ → ℕ) (f : F) →
    ((k : Name) (v : ℕ) (b : Bool) (w : ℕ) (f' : F) → T f k v b w f' → (b ≡ true) × (w ≡ g k v) × (f' ≡ f)) →
    (es kept : List (Name × ℕ)) → RetainsPairs T f es kept → kept ≡ map (λ e. (e.0, g e.0 e.1)) es
retained T g f h [] kept r = r
retained T g f h (e ∷ es) kept (b, w, f', rest, t, r, k) =
    let a = h e.0 e.1 b w f' t in
    let more = retained T g f h es rest (subst (λ z. RetainsPairs T z es rest) a.2 r) in
    k ∙ ap (λ c. cond c ((e.0, w) ∷ rest) rest) a.0 ∙ (λ i. (e.0, a.1 i) ∷ more i)

-- the lesser of each count and another
pub least_at : (f : Name → ℕ) (q : Name) (es : List (Name × ℕ)) →
    unwrap_or (lookup (is_at (slice_cmp nat_cmp q)) (map (λ e. (e.0, min e.1 (f e.0))) es)) 0 ≡ min (unwrap_or (lookup (is_at (slice_cmp nat_cmp q)) es) 0) (f q)
least_at f q [] = omega arith
least_at f q (e ∷ es) =
    elim (eq_by_cmp (slice_cmp nat_cmp) q e.0) as (λ b. eq_by_cmp (slice_cmp nat_cmp) q e.0 ≡ b →
    unwrap_or (cond b (Some (min e.1 (f e.0))) (lookup (is_at (slice_cmp nat_cmp q)) (map (λ e. (e.0, min e.1 (f e.0))) es))) 0
    ≡ min (unwrap_or (cond b (Some e.1) (lookup (is_at (slice_cmp nat_cmp q)) es)) 0) (f q)) [
      | true ↦ λ t. ap (λ z. min e.1 (f z)) (sym (tells_apart exact_bytes q e.0 t))
      | false ↦ λ t. least_at f q es
    ] refl

-- the more was taken, the less is left
pub less_taken : (n a b : ℕ) → n - min a b ≡ max (n - a) (n - b)
less_taken n a b = omega arith

any_left : (n : ℕ) (w : Walked) → 0 < n → if_any n w ≡ w
any_left zero w h = absurd (omega arith)
any_left (suc n) w h = refl

-- a message that is left is taken
pub one_taken : (number taken more : Name → ℕ) (c : Name) → taken c < number c → more ≡ changed same_name taken c (taken c + 1) →
    Ends (λ q. number q - more q) ≡ if_any (number c - taken c) (Ends (one_less (λ q. number q - taken q) c))
one_taken number taken more c some e =
    (λ i. Ends (λ q. (ap (λ (f : Name → ℕ). number q - f q) e ∙ less q (same_name c q) refl) i)) ∙ sym (any_left (number c - taken c) _ (omega arith))
  where
    less : (q : Name) (b : Bool) → same_name c q ≡ b → number q - (if b then taken c + 1 else taken q) ≡ (if b then (number c - taken c) - 1 else number q - taken q)
    less q true t = ap (λ z. number z - (taken c + 1)) (sym (exact_name c q t)) ∙ omega arith
    less q false t = refl

-- a receive that finds no message waits
pub none_left : (n : ℕ) (w v : Walked) → n ≡ 0 → v ≡ if_any 0 w → v ≡ if_any n w
none_left n w v h e = e ∙ ap (λ k. if_any k w) (sym h)
