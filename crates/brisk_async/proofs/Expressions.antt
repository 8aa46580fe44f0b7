-- Well-typed expressions have values of their kind.
use Rattle.std.proofs.Common.{◌≡◌, ℕ, Bool, List, [], ◌∷◌, map, Option, refl, sym, ap, ◌∙◌}
use Rattle.std.specs.Prelude.{ℤ, option_map}
use Rattle.brisk_values.specs.declared.operation.Op1.TheVariants.{Neg, Not}
use Rattle.brisk_values.specs.declared.operation.Op2.{Op2}
use Rattle.brisk_values.specs.declared.operation.Op2.TheVariants.{Add, Sub, Mul, Eq, Ne, Lt, Le, Gt, Ge, And, Or}
use Rattle.brisk_values.specs.declared.value.Kind.{Kind}
use Rattle.brisk_values.specs.declared.value.Kind.TheVariants as kind
use Rattle.brisk_values.specs.declared.value.Value.{Value}
use Rattle.brisk_values.specs.declared.value.Value.TheVariants as value
use Rattle.brisk_values.specs.Names.{Name}
use Rattle.brisk_values.specs.Operations.{applied1, applied2}
use Rattle.brisk_values.specs.Values.{kind_of}
use Rattle.brisk_syntax.specs.Declarations.{kind_in}
use Rattle.brisk_syntax.specs.Syntax.{Expression, Num, Truth, Var, Tag, Size, Paren, Un, Bin}
use Rattle.brisk_syntax.specs.Typing.{Scope, HasKind, HaveKinds}
use Rattle.brisk_syntax.specs.Value.{or_false, value_of}
use Rattle.brisk_async.proofs.Runs.{mapped}

-- the values of a process's variables have the declared kinds
abbrev pub AreKinded : Scope → (Name → Option Value) → Type 0
AreKinded names own = (x : Name) → option_map kind_of (own x) ≡ kind_in names.decls x

int_is : (v : Value) → kind_of v ≡ kind.Int → (n : ℤ) × (v ≡ value.Int n)
int_is (value.Int n) e = (n, refl)
int_is (value.Bool b) e = cc
int_is (value.Tag f t) e = cc

pub bool_is : (v : Value) → kind_of v ≡ kind.Bool → (b : Bool) × (v ≡ value.Bool b)
bool_is (value.Int n) e = cc
bool_is (value.Bool b) e = (b, refl)
bool_is (value.Tag f t) e = cc

ints : (op : Op2) (r : Kind) → ((m n : ℤ) → kind_of (applied2 op (value.Int m) (value.Int n)) ≡ r) → (a b : Value) (k : Kind) → k ≡ r →
    kind_of a ≡ kind.Int → kind_of b ≡ kind.Int → kind_of (applied2 op a b) ≡ k
ints op r h a b k e i j = let x = int_is a i in let y = int_is b j in (λ t. kind_of (applied2 op (x.1 t) (y.1 t))) ∙ h x.0 y.0 ∙ sym e

bools : (op : Op2) → ((c d : Bool) → kind_of (applied2 op (value.Bool c) (value.Bool d)) ≡ kind.Bool) → (a b : Value) (k : Kind) → k ≡ kind.Bool →
    kind_of a ≡ kind.Bool → kind_of b ≡ kind.Bool → kind_of (applied2 op a b) ≡ k
bools op h a b k e i j = let x = bool_is a i in let y = bool_is b j in (λ t. kind_of (applied2 op (x.1 t) (y.1 t))) ∙ h x.0 y.0 ∙ sym e

module _ (sizes : Name → ℕ) (names : Scope) (own : Name → Option Value) (kinded : AreKinded names own) where
  pub value_kind : (e : Expression) (k : Kind) → HasKind names e k → kind_of (value_of sizes own e) ≡ k
  value_kind (Num n) k h = sym h
  value_kind (Truth b) k h = sym h
  value_kind (Var x) k h = let v = mapped kind_of (own x) k (kinded x ∙ h) in ap (λ o. kind_of (or_false o)) v.1 ∙ v.2
  value_kind (Tag e t) k h = sym h.0
  value_kind (Size s) k h = sym h.0
  value_kind (Paren e) k h = value_kind e k h
  value_kind (Un Neg e) k h = let x = int_is (value_of sizes own e) (value_kind e kind.Int h.1) in ap (λ v. kind_of (applied1 Neg v)) x.1 ∙ sym h.0
  value_kind (Un Not e) k h = let x = bool_is (value_of sizes own e) (value_kind e kind.Bool h.1) in ap (λ v. kind_of (applied1 Not v)) x.1 ∙ sym h.0
  value_kind (Bin Add e f) k h = ints Add kind.Int (λ m n. refl) _ _ k h.0 (value_kind e kind.Int h.1) (value_kind f kind.Int h.2)
  value_kind (Bin Sub e f) k h = ints Sub kind.Int (λ m n. refl) _ _ k h.0 (value_kind e kind.Int h.1) (value_kind f kind.Int h.2)
  value_kind (Bin Mul e f) k h = ints Mul kind.Int (λ m n. refl) _ _ k h.0 (value_kind e kind.Int h.1) (value_kind f kind.Int h.2)
  value_kind (Bin Lt e f) k h = ints Lt kind.Bool (λ m n. refl) _ _ k h.0 (value_kind e kind.Int h.1) (value_kind f kind.Int h.2)
  value_kind (Bin Le e f) k h = ints Le kind.Bool (λ m n. refl) _ _ k h.0 (value_kind e kind.Int h.1) (value_kind f kind.Int h.2)
  value_kind (Bin Gt e f) k h = ints Gt kind.Bool (λ m n. refl) _ _ k h.0 (value_kind e kind.Int h.1) (value_kind f kind.Int h.2)
  value_kind (Bin Ge e f) k h = ints Ge kind.Bool (λ m n. refl) _ _ k h.0 (value_kind e kind.Int h.1) (value_kind f kind.Int h.2)
  value_kind (Bin And e f) k h = bools And (λ c d. refl) _ _ k h.0 (value_kind e kind.Bool h.1) (value_kind f kind.Bool h.2)
  value_kind (Bin Or e f) k h = bools Or (λ c d. refl) _ _ k h.0 (value_kind e kind.Bool h.1) (value_kind f kind.Bool h.2)
  value_kind (Bin Eq e f) k h = sym h.0
  value_kind (Bin Ne e f) k h = sym h.0

  pub value_kinds : (es : List Expression) (ks : List Kind) → HaveKinds names es ks → map kind_of (map (value_of sizes own) es) ≡ ks
  value_kinds [] [] h = refl
  value_kinds [] (k ∷ ks) h = absurd h
  value_kinds (e ∷ es) [] h = absurd h
  value_kinds (e ∷ es) (k ∷ ks) h = λ i. value_kind e k h.0 i ∷ value_kinds es ks h.1 i
