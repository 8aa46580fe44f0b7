-- Lists of sizes and inputs, walked through in order.
use Rattle.std.proofs.Common.{◌≡◌, ℕ, zero, suc, ◌+◌, ◌-◌, ◌<◌, Bool, true, false, List, [], ◌∷◌, ◌++◌, Option, None, refl, sym, ap, ◌∙◌, arith, subst, nat_eq}
use Rattle.std.proofs.lemmas.Bool.{eqb-false, eqb-true}
use Rattle.std.specs.Prelude.{◌&&◌, ◌↔◌, IsTrue, option_and_then, if◌then◌else◌}
use Rattle.std.specs.List.{AllByRecursion}
use Rattle.brisk_values.specs.declared.value.Pid.{Pid}
use Rattle.brisk_values.specs.declared.value.Value.{Value}
use Rattle.brisk_values.specs.Names.{Name, member, same_name, same_process}
use Rattle.brisk_values.proofs.Changes.{both_true, exact_name, exact_process, name_laws, process_laws}
use Rattle.brisk_syntax.specs.declared.program.Decl.{Decl}
use Rattle.brisk_syntax.specs.declared.program.Decl.TheVariants as decl
use Rattle.brisk_syntax.specs.declared.program.EnumDecl.{EnumDecl}
use Rattle.brisk_syntax.specs.Instance.{InputFits, Instance, IsOfKind}
use Rattle.brisk_syntax.specs.Roles.{RoleText}
use Rattle.brisk_instance.specs.Given.{all_inputs, inputs_at}
use Rattle.brisk_instance.specs.Walks.{Place, same_input, rest_after, is_whole, inputs_of, has_input, role_inputs}

-- behind two lists of items, the one behind the other
pub rest_after_both : {X : Type 0} (same : X → X → Bool) (xs ys zs : List X) → rest_after same (xs ++ ys) zs ≡ option_and_then (rest_after same ys) (rest_after same xs zs)
rest_after_both same [] ys zs = refl
rest_after_both same (x ∷ xs) ys [] = refl
rest_after_both same (x ∷ xs) ys (z ∷ zs) =
    elim (same x z) as (λ b. (if b then rest_after same (xs ++ ys) zs else None) ≡ option_and_then (rest_after same ys) (if b then rest_after same xs zs else None)) [
      | true ↦ rest_after_both same xs ys zs
      | false ↦ refl
    ]

-- the inputs of one member and then those of the later ones
pub one_member : (name : Name) (ds : List Decl) (k n : ℕ) (ys : List Place) → k < n →
    rest_after same_input (inputs_of name ds k (n - k)) ys
    ≡ option_and_then (rest_after same_input (inputs_of name ds (k + 1) (n - (k + 1)))) (rest_after same_input (inputs_at (member name k) ds) ys)
one_member name ds k n ys less =
    let next : n - k ≡ suc (n - (k + 1)) = omega arith in
    ap (λ m. rest_after same_input (inputs_of name ds k m) ys) next
    ∙ rest_after_both same_input (inputs_at (member name k) ds) (inputs_of name ds (k + 1) (n - (k + 1))) ys

without_inputs : (p : Pid) (ds : List Decl) → has_input ds ≡ false → inputs_at p ds ≡ []
without_inputs p [] h = refl
without_inputs p (decl.Var x k c ∷ ds) h = without_inputs p ds h
without_inputs p (decl.Input x k ∷ ds) h = cc

-- a role without inputs has none for any member
pub no_inputs : (name : Name) (ds : List Decl) (k n : ℕ) → has_input ds ≡ false → inputs_of name ds k n ≡ []
no_inputs name ds k zero h = refl
no_inputs name ds k (suc n) h = ap (λ xs. xs ++ inputs_of name ds (k + 1) n) (without_inputs (member name k) ds h) ∙ no_inputs name ds (k + 1) n h

-- the inputs of one role and then those of the later ones
pub one_role : (i : Instance) (r : RoleText) (rs : List RoleText) (ys : List Place) →
    rest_after same_input (all_inputs i (r ∷ rs)) ys ≡ option_and_then (rest_after same_input (all_inputs i rs)) (rest_after same_input (role_inputs i r) ys)
one_role i r rs ys = rest_after_both same_input (role_inputs i r) (all_inputs i rs) ys

-- nothing stands behind these items exactly where they are the whole list
pub whole : {X : Type 0} (same : X → X → Bool) → ((x y : X) → same x y ≡ true → x ≡ y) → ((x : X) → same x x ≡ true) → (xs ys : List X) → IsTrue (is_whole (rest_after same xs ys)) ↔ (ys ≡ xs)
whole same exact refl_of [] [] = (λ h. refl, λ e. refl)
whole same exact refl_of [] (y ∷ ys) = (λ h. cc, λ e. cc)
whole same exact refl_of (x ∷ xs) [] = (λ h. cc, λ e. cc)
whole same exact refl_of (x ∷ xs) (y ∷ ys) =
    elim (same x y) as (λ b. same x y ≡ b → IsTrue (is_whole (if b then rest_after same xs ys else None)) ↔ (y ∷ ys ≡ x ∷ xs)) [
      | true ↦ λ e. (λ h. (λ i. sym (exact x y e) i ∷ (whole same exact refl_of xs ys).0 h i), λ q. (whole same exact refl_of xs ys).1 (ap tail q))
      | false ↦ λ e. (λ h. cc, λ q. absurd (apart (sym (refl_of x) ∙ ap (same x) (sym (ap (first x) q)) ∙ e)))
    ] refl
  where
    apart : true ≡ false → ⊥
    apart h = cc

    first : {X : Type 0} → X → List X → X
    first d [] = d
    first d (z ∷ zs) = z

    tail : {X : Type 0} → List X → List X
    tail [] = []
    tail (z ∷ zs) = zs

-- a process without inputs fits
pub fits_without : (enums : List EnumDecl) (i : Instance) (p : Pid) (ds : List Decl) → has_input ds ≡ false → AllByRecursion (InputFits enums i p) ds
fits_without enums i p [] h = tt
fits_without enums i p (decl.Var x k c ∷ ds) h = (tt, fits_without enums i p ds h)
fits_without enums i p (decl.Input x k ∷ ds) h = cc

-- whether a process fits lies in the inputs alone
pub fits_by_inputs : (enums : List EnumDecl) (i j : Instance) (p : Pid) (ds : List Decl) → i.input ≡ j.input → AllByRecursion (InputFits enums i p) ds → AllByRecursion (InputFits enums j p) ds
fits_by_inputs enums i j p [] e h = tt
fits_by_inputs enums i j p (decl.Var x k c ∷ ds) e h = (tt, fits_by_inputs enums i j p ds e h.1)
fits_by_inputs enums i j p (decl.Input x k ∷ ds) e h = (subst (λ (f : Pid → Name → Value). IsOfKind enums k (f p x)) e h.0, fits_by_inputs enums i j p ds e h.1)

-- what holds of all numbers below k and of k holds of all below k + 1
pub below_or_last : (P : ℕ → Type 0) (k : ℕ) → ((j : ℕ) → j < k → P j) → P k → (j : ℕ) → j < k + 1 → P j
below_or_last P k before last j less =
    elim (nat_eq k j) as (λ b. nat_eq k j ≡ b → P j) [
      | true ↦ λ e. subst P (eqb-true k j e) last
      | false ↦ λ e. let apart = eqb-false k j e in before j (omega arith)
    ] refl

-- behind the inputs of one role, where that is known
pub behind_one : (i : Instance) (r : RoleText) (rs : List RoleText) (ys : List Place) (o : Option (List Place)) → o ≡ rest_after same_input (role_inputs i r) ys →
    rest_after same_input (all_inputs i (r ∷ rs)) ys ≡ option_and_then (rest_after same_input (all_inputs i rs)) o
behind_one i r rs ys o e = one_role i r rs ys ∙ ap (option_and_then (rest_after same_input (all_inputs i rs))) (sym e)

-- the names of the sizes are these exactly where nothing stands behind
pub whole_sizes : (xs ys : List Name) → IsTrue (is_whole (rest_after same_name xs ys)) ↔ (ys ≡ xs)
whole_sizes = whole same_name exact_name name_laws.refl

-- the places of the inputs are these exactly where nothing stands behind
pub whole_inputs : (xs ys : List Place) → IsTrue (is_whole (rest_after same_input xs ys)) ↔ (ys ≡ xs)
whole_inputs = whole same_input exact same
  where
    exact : (a b : Place) → same_input a b ≡ true → a ≡ b
    exact a b h = let e = both_true (same_process a.0 b.0) (same_name a.1 b.1) h in λ i. (exact_process a.0 b.0 e.0 i, exact_name a.1 b.1 e.1 i)

    same : (a : Place) → same_input a a ≡ true
    same a = (λ i. process_laws.refl a.0 i && same_name a.1 a.1) ∙ name_laws.refl a.1
