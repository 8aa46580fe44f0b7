-- Stores after the changes that events make.
use Rattle.std.proofs.Common.{◌≡◌, ℕ, zero, suc, ◌+◌, ◌<◌, ◌≤◌, min, List, [], ◌∷◌, length, drop, get_or, Bool, true, false, Some, refl, sym, ap, ◌∙◌, arith}
use Rattle.std.specs.Prelude.{Option, IsSome, is_some, cond, if◌then◌else◌}
use Rattle.std.specs.Ordering.{eq_by_cmp}
use Rattle.std.specs.FinMap.{get, get-insert, insert}
use Rattle.std.proofs.lemmas.List.{drop_more, get_or_default}
use Rattle.brisk_values.specs.declared.value.Pid.{Pid}
use Rattle.brisk_values.specs.declared.value.Value.{Value}
use Rattle.brisk_values.specs.Functions.{changed}
use Rattle.brisk_values.specs.Names.{Name, same_name, same_process}
use Rattle.brisk_values.specs.Places.{Entries, place_cmp, value_in}
use Rattle.brisk_values.proofs.Changes.{changed-same, changed_again, exact_process, process_laws}
use Rattle.brisk_values.proofs.Entries.{place_total}
use Rattle.brisk_values.proofs.Stores.{one_variable}
use Rattle.brisk_syntax.specs.There.{AreThere}
use Rattle.brisk_syntax.specs.Stores.{Store, stored, with_variables}

-- nothing is stored
pub stored_none : (s : Store) (p : Pid) → s ≡ stored s p [] []
stored_none s p = λ i q. at q (same_process p q) refl i
  where
    at : (q : Pid) (b : Bool) → same_process p q ≡ b → s q ≡ (if b then s p else s q)
    at q true e = ap s (sym (exact_process p q e))
    at q false e = refl

-- one value first, and then the others
pub stored_more : (m : Entries) (p : Pid) (x : Name) (v : Value) (xs : List Name) (vs : List Value) → stored (value_in (insert m (p, x) v)) p xs vs ≡ stored (value_in m) p (x ∷ xs) (v ∷ vs)
stored_more m p x v xs vs =
    let own = changed same_name (value_in m p) x (Some v) in
    ap (λ s. stored s p xs vs) (one_variable m p x v)
    ∙ ap (λ o. changed same_process (changed same_process (value_in m) p own) p (with_variables o xs vs)) (changed-same process_laws (value_in m) p own)
    ∙ changed_again same_process (value_in m) p own (with_variables own xs vs)

pub stored_step : (m : Entries) (p : Pid) (xs : List Name) (vs : List Value) (i : ℕ) (x : Name) (v : Value) → i < length xs → i < length vs → x ≡ get_or xs i x → v ≡ get_or vs i v →
    stored (value_in (insert m (p, x) v)) p (drop (i + 1) xs) (drop (i + 1) vs) ≡ stored (value_in m) p (drop i xs) (drop i vs)
stored_step m p xs vs i x v h k ex ev =
    stored_more m p x v (drop (i + 1) xs) (drop (i + 1) vs)
    ∙ ap (λ ys. stored (value_in m) p ys (v ∷ drop (i + 1) vs)) (ap (λ y. y ∷ drop (i + 1) xs) ex ∙ sym (drop_more xs i x h))
    ∙ ap (stored (value_in m) p (drop i xs)) (ap (λ y. y ∷ drop (i + 1) vs) ev ∙ sym (drop_more vs i v k))

no_values : (own : Name → Option Value) (xs : List Name) → with_variables own xs [] ≡ own
no_values own [] = refl
no_values own (x ∷ xs) = refl

no_more : (own : Name → Option Value) (xs : List Name) (vs : List Value) (n : ℕ) → min (length xs) (length vs) ≤ n → with_variables own (drop n xs) (drop n vs) ≡ own
no_more own [] vs zero h = refl
no_more own [] vs (suc n) h = refl
no_more own (x ∷ xs) [] zero h = refl
no_more own (x ∷ xs) [] (suc n) h = no_values own (drop n xs)
no_more own (x ∷ xs) (v ∷ vs) zero h = absurd (omega arith)
no_more own (x ∷ xs) (v ∷ vs) (suc n) h = no_more own xs vs n (omega arith)

-- past the end of either list nothing is stored
pub stored_past : (s : Store) (p : Pid) (xs : List Name) (vs : List Value) (n : ℕ) → min (length xs) (length vs) ≤ n → stored s p (drop n xs) (drop n vs) ≡ s
stored_past s p xs vs n h = ap (changed same_process s p) (no_more (s p) xs vs n h) ∙ sym (stored_none s p)

-- a value that is there stays there when another is stored
pub still_there : (m : Entries) (p : Pid) (x : Name) (v : Value) (xs : List Name) → AreThere m p xs → AreThere (insert m (p, x) v) p xs
still_there m p x v xs there = λ k h. ap is_some (get-insert place_total m (p, x) v (p, get_or xs k [])) ∙ at (eq_by_cmp place_cmp (p, get_or xs k []) (p, x)) (get m (p, get_or xs k [])) (there k h)
  where
    at : (b : Bool) (o : Option Value) → IsSome o → is_some (cond b (Some v) o) ≡ true
    at true o e = refl
    at false o e = e

-- the variable that is read is there
pub this_there : (m : Entries) (p : Pid) (xs : List Name) (i : ℕ) (x : Name) → AreThere m p xs → i < length xs → x ≡ get_or xs i x → IsSome (get m (p, x))
this_there m p xs i x there h e = ap (λ y. is_some (get m (p, y))) (e ∙ get_or_default xs i x [] h) ∙ there i h
