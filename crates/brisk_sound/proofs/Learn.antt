-- What a guard tells is so.
use Rattle.std.proofs.Common.{◌≡◌, ℕ, Bool, true, false, Option, Some, None, refl, sym, ap, ◌∙◌}
use Rattle.std.specs.Prelude.{if◌then◌else◌, ◌&&◌, ◌||◌, not}
use Rattle.std.proofs.lemmas.Option.{same_Some}
use Rattle.std.specs.Bool.{beq}
use Rattle.std.proofs.lemmas.Bool.Decides.{Decides-int_eq}
use Rattle.brisk_values.specs.declared.operation.Op1.TheVariants.{Not}
use Rattle.brisk_values.specs.declared.operation.Op2.TheVariants.{Eq, Ne, And, Or}
use Rattle.brisk_values.specs.declared.value.Value.{Value}
use Rattle.brisk_values.specs.declared.value.Value.TheVariants as value
use Rattle.brisk_values.specs.Functions.{changed}
use Rattle.brisk_values.specs.Names.{Name, same_name}
use Rattle.brisk_values.specs.Operations.{applied1, applied2}
use Rattle.brisk_values.specs.Values.{kind_of, same_kind, same_value}
use Rattle.brisk_values.proofs.Changes.{exact_name, both_true, neither}
use Rattle.brisk_syntax.specs.Syntax.{Expression, Var, Paren, Un, Bin}
use Rattle.brisk_syntax.specs.Value.{or_false, value_of}
use Rattle.brisk_facts.specs.Laws.{Agrees}
use Rattle.brisk_facts.specs.Learning.{fold, variable_in}
use Rattle.brisk_facts.proofs.Folding.{fold_value}
use Rattle.brisk_rules.proofs.Readings.{Known, learnt, learnt_equal}

abbrev pub IsBool : Value → Type 0
IsBool v = (b : Bool) × (v ≡ value.Bool b)

-- operands have the kinds that typing asks for
abbrev pub Sane : (Name → ℕ) → Known → Expression → Type 0
Sane sizes own (Paren e) = Sane sizes own e
Sane sizes own (Un Not e) = Sane sizes own e × IsBool (value_of sizes own e)
Sane sizes own (Bin And e f) = Sane sizes own e × Sane sizes own f × IsBool (value_of sizes own e) × IsBool (value_of sizes own f)
Sane sizes own (Bin Or e f) = Sane sizes own e × Sane sizes own f × IsBool (value_of sizes own e) × IsBool (value_of sizes own f)
Sane sizes own (Bin Ne e f) = same_kind (kind_of (value_of sizes own e)) (kind_of (value_of sizes own f)) ≡ true
Sane sizes own e = Unit {0}

agrees_known : (own : Known) (f : Known) (x : Name) (v : Value) → Agrees own f → or_false (own x) ≡ v → Agrees own (changed same_name f x (Some v))
agrees_known own f x v h e y w =
    elim (same_name x y) as (λ b. same_name x y ≡ b → (if b then Some v else f y) ≡ Some w → or_false (own y) ≡ w) [
      | true ↦ λ s g. ap (λ z. or_false (own z)) (sym (exact_name x y s)) ∙ e ∙ same_Some v w g
      | false ↦ λ s g. h y w g
    ] refl

pub equal_values : (a b : Value) → same_value a b ≡ true → a ≡ b
equal_values (value.Int m) (value.Int n) e = ap value.Int ((Decides-int_eq m n).0 e)
equal_values (value.Bool p) (value.Bool q) e = ap value.Bool (same_bool p q e)
  where
    same_bool : (p q : Bool) → beq p q ≡ true → p ≡ q
    same_bool true true e = refl
    same_bool true false e = cc
    same_bool false true e = cc
    same_bool false false e = refl
equal_values (value.Tag e t) (value.Tag f u) h =
    let b = both e f t u h in λ i. value.Tag (exact_name e f b.0 i) (exact_name t u b.1 i)
  where
    both : (e f t u : Name) → (same_name e f && same_name t u) ≡ true → (same_name e f ≡ true) × (same_name t u ≡ true)
    both e f t u h = both_true (same_name e f) (same_name t u) h
equal_values a b e = cc

variable_value : (sizes : Name → ℕ) (own : Known) (e : Expression) (x : Name) → variable_in e ≡ Some x → value_of sizes own e ≡ or_false (own x)
variable_value sizes own (Var y) x h = ap (λ z. or_false (own z)) (same_Some y x h)
variable_value sizes own (Paren e) x h = variable_value sizes own e x h
variable_value sizes own e x h = cc

equal_agrees : (own : Known) (f : Known) (a b : Value) (x : Option Name) (v : Option Value) (y : Option Name) (w : Option Value) → Agrees own f → a ≡ b →
    ((n : Name) → x ≡ Some n → a ≡ or_false (own n)) → ((u : Value) → v ≡ Some u → b ≡ u) → ((n : Name) → y ≡ Some n → b ≡ or_false (own n)) → ((u : Value) → w ≡ Some u → a ≡ u) → Agrees own (learnt_equal f x v y w)
equal_agrees own f a b (Some n) (Some u) y w h e i j k l = agrees_known own f n u h (sym (i n refl) ∙ e ∙ j u refl)
equal_agrees own f a b (Some n) None (Some m) (Some u) h e i j k l = agrees_known own f m u h (sym (k m refl) ∙ sym e ∙ l u refl)
equal_agrees own f a b (Some n) None (Some m) None h e i j k l = h
equal_agrees own f a b (Some n) None None w h e i j k l = h
equal_agrees own f a b None v (Some m) (Some u) h e i j k l = agrees_known own f m u h (sym (k m refl) ∙ sym e ∙ l u refl)
equal_agrees own f a b None v (Some m) None h e i j k l = h
equal_agrees own f a b None v None w h e i j k l = h

unbool : (a b : Bool) → value.Bool a ≡ value.Bool b → a ≡ b
unbool a b e = cc

not_not : (c b : Bool) → not c ≡ b → c ≡ not b
not_not true b e = ap not e
not_not false b e = ap not e

module _ (sizes : Name → ℕ) (own : Known) where
  learn_equal_agrees : (f : Known) (e g : Expression) → Agrees own f → value_of sizes own e ≡ value_of sizes own g → Agrees own (learnt_equal f (variable_in e) (fold f g) (variable_in g) (fold f e))
  learn_equal_agrees f e g h same =
      equal_agrees own f (value_of sizes own e) (value_of sizes own g) (variable_in e) (fold f g) (variable_in g) (fold f e) h same
      (λ n q. variable_value sizes own e n q) (λ u q. fold_value sizes own f h g u q) (λ n q. variable_value sizes own g n q) (λ u q. fold_value sizes own f h e u q)

  pub learn_agrees : (f : Known) (e : Expression) (b : Bool) → Agrees own f → Sane sizes own e → value_of sizes own e ≡ value.Bool b → Agrees own (learnt f e b)
  learn_agrees f (Var x) b h s v = agrees_known own f x (value.Bool b) h v
  learn_agrees f (Paren e) b h s v = learn_agrees f e b h s v
  learn_agrees f (Un Not e) b h s v =
      learn_agrees f e (not b) h s.0 (s.1.1 ∙ ap value.Bool (not_not s.1.0 b (unbool (not s.1.0) b (ap (applied1 Not) (sym s.1.1) ∙ v))))
  learn_agrees f (Bin And e g) true h s v =
      let t = both_true s.2.0 s.3.0 (unbool _ true ((λ i. applied2 And (sym s.2.1 i) (sym s.3.1 i)) ∙ v)) in
      learn_agrees (learnt f e true) g true (learn_agrees f e true h s.0 (s.2.1 ∙ ap value.Bool t.0)) s.1 (s.3.1 ∙ ap value.Bool t.1)
  learn_agrees f (Bin Or e g) false h s v =
      let t = neither s.2.0 s.3.0 (unbool _ false ((λ i. applied2 Or (sym s.2.1 i) (sym s.3.1 i)) ∙ v)) in
      learn_agrees (learnt f e false) g false (learn_agrees f e false h s.0 (s.2.1 ∙ ap value.Bool t.0)) s.1 (s.3.1 ∙ ap value.Bool t.1)
  learn_agrees f (Bin Eq e g) true h s v = learn_equal_agrees f e g h (equal_values _ _ (unbool (same_value (value_of sizes own e) (value_of sizes own g)) true v))
  learn_agrees f (Bin Ne e g) false h s v =
      learn_equal_agrees f e g h (equal_values _ _ (not_not (same_value (value_of sizes own e) (value_of sizes own g)) false
      (ap (λ t. t && not (same_value (value_of sizes own e) (value_of sizes own g))) (sym s) ∙ unbool (same_kind (kind_of (value_of sizes own e)) (kind_of (value_of sizes own g)) && not (same_value (value_of sizes own e) (value_of sizes own g))) false v)))
  learn_agrees f e b h s v = h
