-- Folding gives the value.
use Rattle.std.proofs.Common.{◌≡◌, ℕ, Option, Some, None, refl, ap, ◌∙◌}
use Rattle.std.specs.Prelude.{option_map, option_and_then}
use Rattle.std.proofs.lemmas.Option.{same_Some}
use Rattle.brisk_values.specs.declared.value.Value.{Value}
use Rattle.brisk_values.specs.declared.operation.Op2.{Op2}
use Rattle.brisk_values.specs.Names.{Name}
use Rattle.brisk_values.specs.Operations.{applied1, applied2}
use Rattle.brisk_syntax.specs.Syntax.{Expression, Num, Truth, Var, Tag, Size, Paren, Un, Bin}
use Rattle.brisk_syntax.specs.Value.{value_of}
use Rattle.brisk_facts.specs.Learning.{fold}
use Rattle.brisk_facts.specs.Laws.{Agrees}

-- a value that was made from another
made : {A B : Type 0} (f : A → B) (o : Option A) (b : B) → option_map f o ≡ Some b → (a : A) × (o ≡ Some a) × (f a ≡ b)
made f None b e = cc
made f (Some a) b e = (a, refl, same_Some (f a) b e)

-- a value that was made from two others
made_of_two : (op : Op2) (o p : Option Value) (v : Value) → option_and_then (λ a. option_map (applied2 op a) p) o ≡ Some v →
    (a b : Value) × (o ≡ Some a) × (p ≡ Some b) × (applied2 op a b ≡ v)
made_of_two op None p v e = cc
made_of_two op (Some a) p v e = let m = made (applied2 op a) p v e in (a, m.0, refl, m.1, m.2)

module _ (sizes : Name → ℕ) (own known : Name → Option Value) (agrees : Agrees own known) where
  pub fold_value : (e : Expression) (v : Value) → fold known e ≡ Some v → value_of sizes own e ≡ v
  fold_value (Num n) v h = same_Some _ v h
  fold_value (Truth b) v h = same_Some _ v h
  fold_value (Var x) v h = agrees x v h
  fold_value (Tag e t) v h = same_Some _ v h
  fold_value (Size s) v h = cc
  fold_value (Paren e) v h = fold_value e v h
  fold_value (Un op e) v h = let m = made (applied1 op) (fold known e) v h in ap (applied1 op) (fold_value e m.0 m.1) ∙ m.2
  fold_value (Bin op e f) v h =
      let m = made_of_two op (fold known e) (fold known f) v h in
      (λ i. applied2 op (fold_value e m.0 m.2 i) (fold_value f m.1 m.3 i)) ∙ m.4
