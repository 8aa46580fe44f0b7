-- The test of two steps decides whether they are the same.
use Rattle.std.proofs.Common.{◌≡◌, ℕ, suc, Bool, true, false, List, [], ◌∷◌, refl, sym, ap, ◌∙◌, ◌↔◌}
use Rattle.std.specs.Prelude.{◌&&◌, IsTrue, length, nat_eq}
use Rattle.std.proofs.lemmas.Bool.{eqb-true, eq-eqb}
use lib.Pointwise.{pointwise}
use Rattle.brisk_values.proofs.Changes.{both_true}
use Rattle.brisk_values.specs.Names.{Name, same_name}
use Rattle.brisk_derivation.specs.declared.steps.BasicStep.{BasicStep}
use Rattle.brisk_derivation.specs.declared.steps.BasicStep.TheVariants as basic
use Rattle.brisk_derivation.specs.declared.steps.Fact.{Fact}
use Rattle.brisk_derivation.specs.declared.steps.Step as kept
use Rattle.brisk_derivation.specs.Seen.{steps_of}
use Rattle.brisk_derivation.specs.Steps.{Step, Basic, Branch, While, For, Repeat, Gather, Pick, Steps, no_steps, ◌▷◌}
use Rattle.brisk_derivtext.specs.Alike.{same_basic, same_fact, same_step, same_steps}

list_is : {A : Type 0} (same : A → A → Bool) → ((a b : A) → same a b ≡ true → a ≡ b) → (xs ys : List A) → pointwise same xs ys ≡ true → xs ≡ ys
list_is same h [] [] e = refl
list_is same h [] (y ∷ ys) e = cc
list_is same h (x ∷ xs) [] e = cc
list_is same h (x ∷ xs) (y ∷ ys) e = let g = both_true (same x y) (pointwise same xs ys) e in λ i. h x y g.0 i ∷ list_is same h xs ys g.1 i

list_itself : {A : Type 0} (same : A → A → Bool) → ((a : A) → same a a ≡ true) → (xs : List A) → pointwise same xs xs ≡ true
list_itself same h [] = refl
list_itself same h (x ∷ xs) = ap (λ z. z && pointwise same xs xs) (h x) ∙ list_itself same h xs

pub name_is : (x y : Name) → same_name x y ≡ true → x ≡ y
name_is = list_is nat_eq eqb-true

pub name_itself : (x : Name) → same_name x x ≡ true
name_itself = list_itself nat_eq (λ n. eq-eqb n n refl)

fact_is : (f g : Fact) → same_fact f g ≡ true → f ≡ g
fact_is f g e = let h = both_true (same_name f.at g.at) _ e in λ i. record { at = name_is f.at g.at h.0 i; variable = name_is f.variable g.variable h.1 i }

fact_itself : (f : Fact) → same_fact f f ≡ true
fact_itself f = ap (λ z. z && same_name f.variable f.variable) (name_itself f.at) ∙ name_itself f.variable

three_are : (t u c v w d : Name) → (same_name t v && (same_name u w && same_name c d)) ≡ true → (t ≡ v) × (u ≡ w) × (c ≡ d)
three_are t u c v w d e =
    let h = both_true (same_name t v) _ e in
    let k = both_true (same_name u w) _ h.1 in
    (name_is t v h.0, name_is u w k.0, name_is c d k.1)

basic_is : (x y : BasicStep) → same_basic x y ≡ true → x ≡ y
basic_is (basic.Assign t) (basic.Assign u) e = ap basic.Assign (name_is t u e)
basic_is (basic.Fill t u c n) (basic.Fill v w d m) e =
    let h = both_true (same_name t v) _ e in
    let k = both_true (same_name u w) _ h.1 in
    let l = both_true (same_name c d) _ k.1 in
    λ i. basic.Fill (name_is t v h.0 i) (name_is u w k.0 i) (name_is c d l.0 i) (eqb-true n m l.1 i)
basic_is (basic.Pass t u c) (basic.Pass v w d) e = let h = three_are t u c v w d e in λ i. basic.Pass (h.0 i) (h.1 i) (h.2 i)
basic_is (basic.Take t u c) (basic.Take v w d) e = let h = three_are t u c v w d e in λ i. basic.Take (h.0 i) (h.1 i) (h.2 i)
basic_is (basic.Known t) (basic.Known u) e = ap basic.Known (name_is t u e)
basic_is x y e = cc

and_true : (x y : Bool) → x ≡ true → y ≡ true → (x && y) ≡ true
and_true x y e f = ap (λ z. z && y) e ∙ f

basic_itself : (x : BasicStep) → same_basic x x ≡ true
basic_itself (basic.Assign t) = name_itself t
basic_itself (basic.Fill t u c n) = and_true _ _ (name_itself t) (and_true _ _ (name_itself u) (and_true _ _ (name_itself c) (eq-eqb n n refl)))
basic_itself (basic.Pass t u c) = and_true _ _ (name_itself t) (and_true _ _ (name_itself u) (name_itself c))
basic_itself (basic.Take t u c) = and_true _ _ (name_itself t) (and_true _ _ (name_itself u) (name_itself c))
basic_itself (basic.Known t) = name_itself t

drops_is : (f g : List Fact) → pointwise same_fact f g ≡ true → f ≡ g
drops_is = list_is same_fact fact_is

mutual
  pub step_is : (x y : Step) → same_step x y ≡ true → x ≡ y
  step_is (Basic b) (Basic c) e = ap Basic (basic_is b c e)
  step_is (Branch t a b) (Branch u c d) e =
      let h = both_true (same_name t u) _ e in
      let k = both_true (same_steps a c) _ h.1 in
      λ i. Branch (name_is t u h.0 i) (steps_is a c k.0 i) (steps_is b d k.1 i)
  step_is (While t f a) (While u g b) e =
      let h = both_true (same_name t u) _ e in
      let k = both_true (pointwise same_fact f g) _ h.1 in
      λ i. While (name_is t u h.0 i) (drops_is f g k.0 i) (steps_is a b k.1 i)
  step_is (For s ts f a) (For r us g b) e =
      let h = both_true (same_name s r) _ e in
      let l = both_true (pointwise same_name ts us) _ h.1 in
      let k = both_true (pointwise same_fact f g) _ l.1 in
      λ i. For (name_is s r h.0 i) (list_is same_name name_is ts us l.0 i) (drops_is f g k.0 i) (steps_is a b k.1 i)
  step_is (Repeat t f a) (Repeat u g b) e =
      let h = both_true (same_name t u) _ e in
      let k = both_true (pointwise same_fact f g) _ h.1 in
      λ i. Repeat (name_is t u h.0 i) (drops_is f g k.0 i) (steps_is a b k.1 i)
  step_is (Gather t f a) (Gather u g b) e =
      let h = both_true (same_name t u) _ e in
      let k = both_true (pointwise same_fact f g) _ h.1 in
      λ i. Gather (name_is t u h.0 i) (drops_is f g k.0 i) (steps_is a b k.1 i)
  step_is (Pick t f a) (Pick u g b) e =
      let h = both_true (same_name t u) _ e in
      let k = both_true (pointwise same_fact f g) _ h.1 in
      λ i. Pick (name_is t u h.0 i) (drops_is f g k.0 i) (steps_is a b k.1 i)
  step_is x y e = cc

  steps_is : (x y : Steps) → same_steps x y ≡ true → x ≡ y
  steps_is no_steps no_steps e = refl
  steps_is (s ▷ a) (r ▷ b) e = let h = both_true (same_step s r) _ e in λ i. step_is s r h.0 i ▷ steps_is a b h.1 i
  steps_is x y e = cc

mutual
  pub step_itself : (x : Step) → same_step x x ≡ true
  step_itself (Basic b) = basic_itself b
  step_itself (Branch t a b) = and_true _ _ (name_itself t) (and_true _ _ (steps_itself a) (steps_itself b))
  step_itself (While t f a) = and_true _ _ (name_itself t) (and_true _ _ (list_itself same_fact fact_itself f) (steps_itself a))
  step_itself (For s ts f a) = and_true _ _ (name_itself s) (and_true _ _ (list_itself same_name name_itself ts) (and_true _ _ (list_itself same_fact fact_itself f) (steps_itself a)))
  step_itself (Repeat t f a) = and_true _ _ (name_itself t) (and_true _ _ (list_itself same_fact fact_itself f) (steps_itself a))
  step_itself (Gather t f a) = and_true _ _ (name_itself t) (and_true _ _ (list_itself same_fact fact_itself f) (steps_itself a))
  step_itself (Pick t f a) = and_true _ _ (name_itself t) (and_true _ _ (list_itself same_fact fact_itself f) (steps_itself a))

  steps_itself : (x : Steps) → same_steps x x ≡ true
  steps_itself no_steps = refl
  steps_itself (s ▷ a) = and_true _ _ (step_itself s) (steps_itself a)

no_truth : IsTrue false → ⊥
no_truth e = let w = e in cc

-- a test that is true exactly where the steps are the same is the test
pub decided : (r : Bool) (x y : Step) → IsTrue r ↔ (x ≡ y) → r ≡ same_step x y
decided true x y h = sym (ap (λ z. same_step x z) (sym (h.0 refl)) ∙ step_itself x)
decided false x y h = untrue (same_step x y) refl
  where
    untrue : (b : Bool) → same_step x y ≡ b → false ≡ b
    untrue true e = absurd (no_truth (h.1 (step_is x y e)))
    untrue false e = refl

-- as many steps are seen as there are
pub same_count : (xs ys : List kept.Step) → steps_of xs ≡ steps_of ys → length xs ≡ length ys
same_count [] [] e = refl
same_count [] (t ∷ ys) e = cc
same_count (s ∷ xs) [] e = cc
same_count (s ∷ xs) (t ∷ ys) e = let f : steps_of xs ≡ steps_of ys = cc in ap suc (same_count xs ys f)
