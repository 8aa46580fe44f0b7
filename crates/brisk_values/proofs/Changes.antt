-- Functions changed at a key, and keys that are told to be the same.
use Rattle.std.proofs.Common.{◌≡◌, Bool, true, false, [], ◌∷◌, nat_eq, refl, sym, ap, ◌∙◌, subst}
use Rattle.std.specs.Prelude.{if◌then◌else◌, ◌&&◌, ◌||◌}
use Rattle.std.proofs.lemmas.Bool.{eqb-true}
use Rattle.std.specs.Cmp.{IsEquivalence}
use Rattle.std.proofs.lemmas.Cmp.{nat_eq_equiv, nat_list_eq_equiv, on_equiv, and_equiv}
use Rattle.brisk_values.specs.declared.value.Pid.{Pid}
use Rattle.brisk_values.specs.Functions.{changed}
use Rattle.brisk_values.specs.Names.{Name, same_name, same_process}

pub name_laws : IsEquivalence same_name
name_laws = nat_list_eq_equiv

pub process_laws : IsEquivalence same_process
process_laws = and_equiv (on_equiv (λ (p : Pid). p.role) nat_list_eq_equiv) (on_equiv (λ (p : Pid). p.member) nat_eq_equiv)

two_tests : {X : Type 0} (b c : Bool) (x y z : X) → (b ≡ true → c ≡ true → ⊥) → (if c then y else (if b then x else z)) ≡ (if b then x else (if c then y else z))
two_tests true true x y z h = absurd (h refl refl)
two_tests true false x y z h = refl
two_tests false true x y z h = refl
two_tests false false x y z h = refl

-- what holds of the new value and of the old one holds of the value at any key
pub changed_cases : {K X : Type 0} (same : K → K → Bool) (f : K → X) (k : K) (x : X) (q : K) (P : X → Type 0) → (same k q ≡ true → P x) → (same k q ≡ false → P (f q)) → P (changed same f k x q)
changed_cases same f k x q P here elsewhere =
    elim (same k q) as (λ b. same k q ≡ b → P (if b then x else f q)) [ true ↦ here | false ↦ elsewhere ] refl

module _ {K : Type 0} {same : K → K → Bool} (laws : IsEquivalence same) where
  pub apart_symm : (k l : K) → same k l ≡ false → same l k ≡ false
  apart_symm k l h = laws.symm l k ∙ h

  disjoint : (k l : K) → same k l ≡ false → (q : K) → same k q ≡ true → same l q ≡ true → ⊥
  disjoint k l h q a b = let e = laws.congr k q l a in let d = laws.symm q l in cc

  pub changed-other : {X : Type 0} (f : K → X) (k : K) (x : X) (l : K) → same k l ≡ false → changed same f k x l ≡ f l
  changed-other f k x l h = ap (λ b. if b then x else f l) h

  -- changes at two keys, each by what stands there, in either order
  pub changes_apart : {X : Type 0} (f : K → X) (k l : K) (g h : X → X) → same k l ≡ false →
      changed same (changed same f k (g (f k))) l (h (changed same f k (g (f k)) l)) ≡ changed same (changed same f l (h (f l))) k (g (changed same f l (h (f l)) k))
  changes_apart f k l g h e =
      ap (λ z. changed same (changed same f k (g (f k))) l (h z)) (changed-other f k (g (f k)) l e)
      ∙ (λ i q. two_tests (same k q) (same l q) (g (f k)) (h (f l)) (f q) (disjoint k l e q) i)
      ∙ sym (ap (λ z. changed same (changed same f l (h (f l))) k (g z)) (changed-other f l (h (f l)) k (apart_symm k l e)))

pub both_true : (a b : Bool) → (a && b) ≡ true → (a ≡ true) × (b ≡ true)
both_true true true e = (refl, refl)
both_true true false e = cc
both_true false b e = cc

pub both_hold : (a b : Bool) → a ≡ true → b ≡ true → (a && b) ≡ true
both_hold a b h k = ap (λ x. x && b) h ∙ k

pub neither : (a b : Bool) → (a || b) ≡ false → (a ≡ false) × (b ≡ false)
neither true b e = cc
neither false b e = (refl, e)

-- keys that are told to be the same are equal
pub exact_name : (a b : Name) → same_name a b ≡ true → a ≡ b
exact_name [] [] e = refl
exact_name [] (y ∷ b) e = cc
exact_name (x ∷ a) [] e = cc
exact_name (x ∷ a) (y ∷ b) e = let h = both_true (nat_eq x y) (same_name a b) e in λ i. eqb-true x y h.0 i ∷ exact_name a b h.1 i

pub exact_process : (p q : Pid) → same_process p q ≡ true → p ≡ q
exact_process p q e =
    let h = both_true (same_name p.role q.role) (nat_eq p.member q.member) e in
    λ i. record { role = exact_name p.role q.role h.0 i; member = eqb-true p.member q.member h.1 i }

-- a later change at a key hides an earlier one
pub changed_again : {K X : Type 0} (same : K → K → Bool) (f : K → X) (k : K) (x y : X) → changed same (changed same f k x) k y ≡ changed same f k y
changed_again same f k x y = λ i q. hidden (same k q) (f q) x y i
  where
    hidden : {X : Type 0} (b : Bool) (z x y : X) → (if b then y else (if b then x else z)) ≡ (if b then y else z)
    hidden true z x y = refl
    hidden false z x y = refl

pub changed-same : {K X : Type 0} {same : K → K → Bool} → IsEquivalence same → (f : K → X) (k : K) (x : X) → changed same f k x k ≡ x
changed-same laws f k x = ap (λ b. if b then x else f k) (laws.refl k)

module _ {K : Type 0} {same : K → K → Bool} (laws : IsEquivalence same) {X : Type 0} (f : K → X) where
  -- two changes at one key, where they commute
  changes_here : (k : K) (g h : X → X) → h (g (f k)) ≡ g (h (f k)) →
      changed same (changed same f k (g (f k))) k (h (changed same f k (g (f k)) k)) ≡ changed same (changed same f k (h (f k))) k (g (changed same f k (h (f k)) k))
  changes_here k g h e =
      ap (λ z. changed same (changed same f k (g (f k))) k (h z)) (changed-same laws f k (g (f k)))
      ∙ changed_again same f k (g (f k)) (h (g (f k)))
      ∙ ap (changed same f k) e
      ∙ sym (changed_again same f k (h (f k)) (g (h (f k))))
      ∙ sym (ap (λ z. changed same (changed same f k (h (f k))) k (g z)) (changed-same laws f k (h (f k))))

  pub changes_commute : ((j k : K) → same j k ≡ true → j ≡ k) → (j k : K) (g h : X → X) → (j ≡ k → h (g (f j)) ≡ g (h (f j))) →
      changed same (changed same f j (g (f j))) k (h (changed same f j (g (f j)) k)) ≡ changed same (changed same f k (h (f k))) j (g (changed same f k (h (f k)) j))
  changes_commute exact j k g h e =
      elim (same j k) as (λ b. same j k ≡ b → changed same (changed same f j (g (f j))) k (h (changed same f j (g (f j)) k)) ≡ changed same (changed same f k (h (f k))) j (g (changed same f k (h (f k)) j))) [
        | true ↦ λ t. subst (λ (l : K). changed same (changed same f j (g (f j))) l (h (changed same f j (g (f j)) l)) ≡ changed same (changed same f l (h (f l))) j (g (changed same f l (h (f l)) j))) (exact j k t) (changes_here j g h (e (exact j k t)))
        | false ↦ λ t. changes_apart laws f j k g h t
      ] refl
