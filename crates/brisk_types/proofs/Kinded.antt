-- Expressions, and the lists of messages: no rule fails exactly where they are well typed.
use Rattle.std.proofs.Common.{◌≡◌, ℕ, ◌+◌, Bool, true, false, ◌||◌, ◌&&◌, not, List, [], ◌∷◌, ◌++◌, length, Option, Some, None, refl, sym, ap, subst, ◌∙◌, arith}
use Rattle.std.specs.Prelude.{if◌then◌else◌}
use Rattle.std.specs.List.{list_any}
use Rattle.std.specs.Option.{is_none}
use Rattle.brisk_values.specs.declared.operation.Op1.TheVariants.{Neg, Not}
use Rattle.brisk_values.specs.declared.operation.Op2.TheVariants.{Add, Sub, Mul, Eq, Ne, Lt, Le, Gt, Ge, And, Or}
use Rattle.brisk_values.specs.declared.value.Kind.{Kind}
use Rattle.brisk_values.specs.declared.value.Kind.TheVariants as kind
use Rattle.brisk_values.specs.Names.{Name, same_name}
use Rattle.brisk_values.specs.Values.{same_kind}
use Rattle.brisk_values.proofs.Changes.{name_laws, exact_name}
use Rattle.brisk_syntax.specs.declared.program.Decl.{Decl}
use Rattle.brisk_syntax.specs.declared.program.EnumDecl.{EnumDecl}
use Rattle.brisk_syntax.specs.declared.program.Program.{Program}
use Rattle.brisk_syntax.specs.Declarations.{kind_in, is_tag}
use Rattle.brisk_syntax.specs.Syntax.{Expression, Num, Truth, Var, Tag, Size, Paren, Un, Bin}
use Rattle.brisk_syntax.specs.Tokens.{expression_tokens}
use Rattle.brisk_syntax.specs.Typing.{is_among, is_set, is_single, Scope, scope, HasKind, HaveKinds, AreDeclared}
use Rattle.brisk_types.specs.declared.fault.Rule.{Rule}
use Rattle.brisk_types.specs.declared.fault.Rule.TheVariants.{Unknown, Twice, NotASet, SelfPartner, WrongKind}
use Rattle.brisk_types.specs.Declarations.{is_enum_of, meaning}
use Rattle.brisk_types.specs.Expressions.{Meaning, differ, wrong, kind_of, size_rule, expression, wanted}
use Rattle.brisk_types.specs.Failures.{NoneFails, broken}
use Rattle.brisk_types.specs.Statements.{values, variables}
use Rattle.brisk_types.proofs.Fresh.{not_when, when_not, Fresh}
use Rattle.std.proofs.lemmas.Bool.{not-false}

-- ---- kinds

exact_kind : (j k : Kind) → same_kind j k ≡ true → j ≡ k
exact_kind kind.Int kind.Int h = refl
exact_kind kind.Bool kind.Bool h = refl
exact_kind (kind.Enum e) (kind.Enum f) h = λ i. kind.Enum (exact_name e f h i)
exact_kind j k h = cc

kind_refl : (k : Kind) → same_kind k k ≡ true
kind_refl kind.Int = refl
kind_refl kind.Bool = refl
kind_refl (kind.Enum e) = name_laws.refl e

-- kinds that aren't told to differ are one
pub agree : (j l : Kind) (o p : Option Kind) (i : ℕ) → o ≡ Some j → p ≡ Some l → NoneFails (wrong o p i) → j ≡ l
agree j l o p i eo ep h =
    let both : differ o p ≡ not (same_kind j l) = λ z. differ (eo z) (ep z) in
    exact_kind j l (not-false (same_kind j l) (sym both ∙ not_when (differ o p) WrongKind i h))

pub fine : (j : Kind) (o p : Option Kind) (i : ℕ) → o ≡ Some j → p ≡ Some j → NoneFails (wrong o p i)
fine j o p i eo ep =
    let both : differ o p ≡ not (same_kind j j) = λ z. differ (eo z) (ep z) in
    when_not (differ o p) WrongKind i (both ∙ ap not (kind_refl j))

no_want : (o : Option Kind) (i : ℕ) → NoneFails (wrong None o i)
no_want None i = tt
no_want (Some k) i = tt

-- ---- tests

pub not_broken : (r : Option Rule) (i : ℕ) → NoneFails (broken r i) → r ≡ None
not_broken None i h = refl
not_broken (Some r) i h = absurd h

pub unbroken : (r : Option Rule) (i : ℕ) → r ≡ None → NoneFails (broken r i)
unbroken None i h = tt
unbroken (Some r) i h = cc

pub there : {X : Type 0} (o : Option X) → is_none o ≡ false → (x : X) × (o ≡ Some x)
there None h = cc
there (Some x) h = (x, refl)

is_sized : (a b c : Bool) → (if a then None else if b then Some SelfPartner else if c then Some NotASet else Some Unknown) ≡ None → a ≡ true
is_sized true b c h = refl
is_sized false true c h = cc
is_sized false false true h = cc
is_sized false false false h = cc

pub tag_enum : (enums : List EnumDecl) (e t : Name) → is_tag enums e t ≡ true → is_enum_of enums e ≡ true
tag_enum [] e t h = h
tag_enum (n ∷ ns) e t h = first (same_name e n.name) (list_any (same_name t) n.tags) (is_tag ns e t) (is_enum_of ns e) (tag_enum ns e t) h
  where
    first : (a b c d : Bool) → (c ≡ true → d ≡ true) → ((a && b) || c) ≡ true → (a || d) ≡ true
    first true b c d f h = refl
    first false b c d f h = f h

-- ---- expressions

-- what names mean where these kinds are the variables'
abbrev pub within : Program → Name → (Name → Option Kind) → Meaning
within P own kinds = record (meaning P own) { kind_of_variable = kinds }

module _ (P : Program) (own : Name) (ds : List Decl) where
  abbrev M : Meaning
  M = within P own (kind_in ds)

  abbrev S : Scope
  S = scope P.enums P.roles ds

  -- the expression is well typed, and the kind is its own
  abbrev Typed : Expression → Option Kind → Type 0
  Typed e o = (k : Kind) × (o ≡ Some k) × HasKind S e k

  fits : (j : Kind) (o : Option Kind) (i : ℕ) (e : Expression) → NoneFails (wrong (Some j) o i) → Typed e o → HasKind S e j
  fits j o i e h t = subst (λ (k : Kind). HasKind S e k) (sym (agree j t.0 (Some j) o i refl t.1 h)) t.2

  pub typed : (i : ℕ) (e : Expression) → NoneFails (expression M i e) → Typed e (kind_of M e)
  typed i (Num n) h = (kind.Int, refl, refl)
  typed i (Truth b) h = (kind.Bool, refl, refl)
  typed i (Var x) h = let k = there (kind_in ds x) (not_when (is_none (kind_in ds x)) Unknown i h) in (k.0, k.1, k.1)
  typed i (Tag e t) h =
      let known : is_tag P.enums e t ≡ true = not-false (is_tag P.enums e t) (not_when (not (is_tag P.enums e t)) Unknown (i + 2) h.1) in
      (kind.Enum e, ap (λ b. if b then Some (kind.Enum e) else None) known, (refl, known))
  typed i (Size s) h = (kind.Int, refl, (refl, is_sized (is_set P.roles s) (same_name s own) (is_single P.roles s) (not_broken (size_rule M s) (i + 1) h)))
  typed i (Paren e) h = typed (i + 1) e h
  typed i (Un Neg e) h = (kind.Int, refl, (refl, fits kind.Int (kind_of M e) (i + 1) e h.0 (typed (i + 1) e h.1)))
  typed i (Un Not e) h = (kind.Bool, refl, (refl, fits kind.Bool (kind_of M e) (i + 1) e h.0 (typed (i + 1) e h.1)))
  typed i (Bin Add e f) h = (kind.Int, refl, (refl, fits kind.Int (kind_of M e) i e h.0.0 (typed i e h.0.1), fits kind.Int (kind_of M f) (i + expression_tokens e + 1) f h.1.0 (typed (i + expression_tokens e + 1) f h.1.1)))
  typed i (Bin Sub e f) h = (kind.Int, refl, (refl, fits kind.Int (kind_of M e) i e h.0.0 (typed i e h.0.1), fits kind.Int (kind_of M f) (i + expression_tokens e + 1) f h.1.0 (typed (i + expression_tokens e + 1) f h.1.1)))
  typed i (Bin Mul e f) h = (kind.Int, refl, (refl, fits kind.Int (kind_of M e) i e h.0.0 (typed i e h.0.1), fits kind.Int (kind_of M f) (i + expression_tokens e + 1) f h.1.0 (typed (i + expression_tokens e + 1) f h.1.1)))
  typed i (Bin Lt e f) h = (kind.Bool, refl, (refl, fits kind.Int (kind_of M e) i e h.0.0 (typed i e h.0.1), fits kind.Int (kind_of M f) (i + expression_tokens e + 1) f h.1.0 (typed (i + expression_tokens e + 1) f h.1.1)))
  typed i (Bin Le e f) h = (kind.Bool, refl, (refl, fits kind.Int (kind_of M e) i e h.0.0 (typed i e h.0.1), fits kind.Int (kind_of M f) (i + expression_tokens e + 1) f h.1.0 (typed (i + expression_tokens e + 1) f h.1.1)))
  typed i (Bin Gt e f) h = (kind.Bool, refl, (refl, fits kind.Int (kind_of M e) i e h.0.0 (typed i e h.0.1), fits kind.Int (kind_of M f) (i + expression_tokens e + 1) f h.1.0 (typed (i + expression_tokens e + 1) f h.1.1)))
  typed i (Bin Ge e f) h = (kind.Bool, refl, (refl, fits kind.Int (kind_of M e) i e h.0.0 (typed i e h.0.1), fits kind.Int (kind_of M f) (i + expression_tokens e + 1) f h.1.0 (typed (i + expression_tokens e + 1) f h.1.1)))
  typed i (Bin And e f) h = (kind.Bool, refl, (refl, fits kind.Bool (kind_of M e) i e h.0.0 (typed i e h.0.1), fits kind.Bool (kind_of M f) (i + expression_tokens e + 1) f h.1.0 (typed (i + expression_tokens e + 1) f h.1.1)))
  typed i (Bin Or e f) h = (kind.Bool, refl, (refl, fits kind.Bool (kind_of M e) i e h.0.0 (typed i e h.0.1), fits kind.Bool (kind_of M f) (i + expression_tokens e + 1) f h.1.0 (typed (i + expression_tokens e + 1) f h.1.1)))
  typed i (Bin Eq e f) h =
      let a = typed i e h.0.1 in
      let b = typed (i + expression_tokens e + 1) f h.1.1 in
      (kind.Bool, refl, (refl, a.0, a.2, subst (λ (k : Kind). HasKind S f k) (sym (agree a.0 b.0 (kind_of M e) (kind_of M f) (i + expression_tokens e + 1) a.1 b.1 h.1.0)) b.2))
  typed i (Bin Ne e f) h =
      let a = typed i e h.0.1 in
      let b = typed (i + expression_tokens e + 1) f h.1.1 in
      (kind.Bool, refl, (refl, a.0, a.2, subst (λ (k : Kind). HasKind S f k) (sym (agree a.0 b.0 (kind_of M e) (kind_of M f) (i + expression_tokens e + 1) a.1 b.1 h.1.0)) b.2))

  pub kinded : (i : ℕ) (e : Expression) (k : Kind) → HasKind S e k → NoneFails (expression M i e) × (kind_of M e ≡ Some k)
  kinded i (Num n) k h = (tt, ap Some (sym h))
  kinded i (Truth b) k h = (tt, ap Some (sym h))
  kinded i (Var x) k h = (when_not (is_none (kind_in ds x)) Unknown i (ap is_none h), h)
  kinded i (Tag e t) k h = (
    (when_not (not (is_enum_of P.enums e)) Unknown i (ap not (tag_enum P.enums e t h.1)), when_not (not (is_tag P.enums e t)) Unknown (i + 2) (ap not h.1)),
    ap (λ b. if b then Some (kind.Enum e) else None) h.1 ∙ ap Some (sym h.0),
  )
  kinded i (Size s) k h = (
    unbroken (size_rule M s) (i + 1) (ap (λ b. if b then None else if same_name s own then Some SelfPartner else if is_single P.roles s then Some NotASet else Some Unknown) h.1),
    ap Some (sym h.0),
  )
  kinded i (Paren e) k h = kinded (i + 1) e k h
  kinded i (Un Neg e) k h = let a = kinded (i + 1) e kind.Int h.1 in ((fine kind.Int (Some kind.Int) (kind_of M e) (i + 1) refl a.1, a.0), ap Some (sym h.0))
  kinded i (Un Not e) k h = let a = kinded (i + 1) e kind.Bool h.1 in ((fine kind.Bool (Some kind.Bool) (kind_of M e) (i + 1) refl a.1, a.0), ap Some (sym h.0))
  kinded i (Bin Add e f) k h =
      let a = kinded i e kind.Int h.1 in
      let b = kinded (i + expression_tokens e + 1) f kind.Int h.2 in
      (((fine kind.Int (Some kind.Int) (kind_of M e) i refl a.1, a.0), (fine kind.Int (Some kind.Int) (kind_of M f) (i + expression_tokens e + 1) refl b.1, b.0)), ap Some (sym h.0))
  kinded i (Bin Sub e f) k h =
      let a = kinded i e kind.Int h.1 in
      let b = kinded (i + expression_tokens e + 1) f kind.Int h.2 in
      (((fine kind.Int (Some kind.Int) (kind_of M e) i refl a.1, a.0), (fine kind.Int (Some kind.Int) (kind_of M f) (i + expression_tokens e + 1) refl b.1, b.0)), ap Some (sym h.0))
  kinded i (Bin Mul e f) k h =
      let a = kinded i e kind.Int h.1 in
      let b = kinded (i + expression_tokens e + 1) f kind.Int h.2 in
      (((fine kind.Int (Some kind.Int) (kind_of M e) i refl a.1, a.0), (fine kind.Int (Some kind.Int) (kind_of M f) (i + expression_tokens e + 1) refl b.1, b.0)), ap Some (sym h.0))
  kinded i (Bin Lt e f) k h =
      let a = kinded i e kind.Int h.1 in
      let b = kinded (i + expression_tokens e + 1) f kind.Int h.2 in
      (((fine kind.Int (Some kind.Int) (kind_of M e) i refl a.1, a.0), (fine kind.Int (Some kind.Int) (kind_of M f) (i + expression_tokens e + 1) refl b.1, b.0)), ap Some (sym h.0))
  kinded i (Bin Le e f) k h =
      let a = kinded i e kind.Int h.1 in
      let b = kinded (i + expression_tokens e + 1) f kind.Int h.2 in
      (((fine kind.Int (Some kind.Int) (kind_of M e) i refl a.1, a.0), (fine kind.Int (Some kind.Int) (kind_of M f) (i + expression_tokens e + 1) refl b.1, b.0)), ap Some (sym h.0))
  kinded i (Bin Gt e f) k h =
      let a = kinded i e kind.Int h.1 in
      let b = kinded (i + expression_tokens e + 1) f kind.Int h.2 in
      (((fine kind.Int (Some kind.Int) (kind_of M e) i refl a.1, a.0), (fine kind.Int (Some kind.Int) (kind_of M f) (i + expression_tokens e + 1) refl b.1, b.0)), ap Some (sym h.0))
  kinded i (Bin Ge e f) k h =
      let a = kinded i e kind.Int h.1 in
      let b = kinded (i + expression_tokens e + 1) f kind.Int h.2 in
      (((fine kind.Int (Some kind.Int) (kind_of M e) i refl a.1, a.0), (fine kind.Int (Some kind.Int) (kind_of M f) (i + expression_tokens e + 1) refl b.1, b.0)), ap Some (sym h.0))
  kinded i (Bin And e f) k h =
      let a = kinded i e kind.Bool h.1 in
      let b = kinded (i + expression_tokens e + 1) f kind.Bool h.2 in
      (((fine kind.Bool (Some kind.Bool) (kind_of M e) i refl a.1, a.0), (fine kind.Bool (Some kind.Bool) (kind_of M f) (i + expression_tokens e + 1) refl b.1, b.0)), ap Some (sym h.0))
  kinded i (Bin Or e f) k h =
      let a = kinded i e kind.Bool h.1 in
      let b = kinded (i + expression_tokens e + 1) f kind.Bool h.2 in
      (((fine kind.Bool (Some kind.Bool) (kind_of M e) i refl a.1, a.0), (fine kind.Bool (Some kind.Bool) (kind_of M f) (i + expression_tokens e + 1) refl b.1, b.0)), ap Some (sym h.0))
  kinded i (Bin Eq e f) k h =
      let a = kinded i e h.1 h.2 in
      let b = kinded (i + expression_tokens e + 1) f h.1 h.3 in
      (((no_want (kind_of M e) i, a.0), (fine h.1 (kind_of M e) (kind_of M f) (i + expression_tokens e + 1) a.1 b.1, b.0)), ap Some (sym h.0))
  kinded i (Bin Ne e f) k h =
      let a = kinded i e h.1 h.2 in
      let b = kinded (i + expression_tokens e + 1) f h.1 h.3 in
      (((no_want (kind_of M e) i, a.0), (fine h.1 (kind_of M e) (kind_of M f) (i + expression_tokens e + 1) a.1 b.1, b.0)), ap Some (sym h.0))

  pub of_kind : (j : Kind) (i : ℕ) (e : Expression) → NoneFails (wanted M (Some j) i e) → HasKind S e j
  of_kind j i e h = fits j (kind_of M e) i e h.0 (typed i e h.1)

  pub is_of_kind : (j : Kind) (o : Option Kind) (i : ℕ) (e : Expression) → o ≡ Some j → HasKind S e j → NoneFails (wanted M o i e)
  is_of_kind j o i e w h = let a = kinded i e j h in (fine j o (kind_of M e) i w a.1, a.0)

  -- ---- messages

  pub values_have : (i : ℕ) (es : List Expression) (ks : List Kind) → length es ≡ length ks → NoneFails (values M i es ks) → HaveKinds S es ks
  values_have i [] [] l h = tt
  values_have i [] (k ∷ ks) l h = omega arith
  values_have i (e ∷ es) [] l h = omega arith
  values_have i (e ∷ es) (k ∷ ks) l h = (of_kind k i e h.0, values_have (i + expression_tokens e + 1) es ks (omega arith) h.1)

  pub have_values : (i : ℕ) (es : List Expression) (ks : List Kind) → HaveKinds S es ks → NoneFails (values M i es ks) × (length es ≡ length ks)
  have_values i [] [] h = (tt, refl)
  have_values i [] (k ∷ ks) h = absurd h
  have_values i (e ∷ es) [] h = absurd h
  have_values i (e ∷ es) (k ∷ ks) h = let rest = have_values (i + expression_tokens e + 1) es ks h.1 in ((is_of_kind k (Some k) i e refl h.0, rest.0), omega arith)

  -- the expressions are of some kinds, where no kinds are wanted
  pub values_typed : (i : ℕ) (es : List Expression) → NoneFails (values M i es []) → (ks : List Kind) × HaveKinds S es ks
  values_typed i [] h = ([], tt)
  values_typed i (e ∷ es) h =
      let a = typed i e h.0.1 in
      let rest = values_typed (i + expression_tokens e + 1) es h.1 in
      (a.0 ∷ rest.0, (a.2, rest.1))

  pub typed_values : (i : ℕ) (es : List Expression) (ks : List Kind) → HaveKinds S es ks → NoneFails (values M i es [])
  typed_values i [] [] h = tt
  typed_values i [] (k ∷ ks) h = absurd h
  typed_values i (e ∷ es) [] h = absurd h
  typed_values i (e ∷ es) (k ∷ ks) h = ((no_want (kind_of M e) i, (kinded i e k h.0).0), typed_values (i + expression_tokens e + 1) es ks h.1)

  pub variables_are : (before : List Name) (i : ℕ) (xs : List Name) (ks : List Kind) → length xs ≡ length ks → NoneFails (variables M before i xs ks) → AreDeclared ds xs ks × Fresh before xs
  variables_are before i [] [] l h = (tt, tt)
  variables_are before i [] (k ∷ ks) l h = absurd (omega arith)
  variables_are before i (x ∷ xs) [] l h = absurd (omega arith)
  variables_are before i (x ∷ xs) (k ∷ ks) l h =
      let known = there (kind_in ds x) (not_when (is_none (kind_in ds x)) Unknown i h.0.0) in
      let same : k ≡ known.0 = agree k known.0 (Some k) (kind_in ds x) i refl known.1 h.0.1.1 in
      let rest = variables_are (before ++ x ∷ []) (i + 2) xs ks (omega arith) h.1 in
      ((known.1 ∙ ap Some (sym same), rest.0), (not_when (is_among before x) Twice i h.0.1.0, rest.1))

  pub are_variables : (before : List Name) (i : ℕ) (xs : List Name) (ks : List Kind) → AreDeclared ds xs ks → Fresh before xs → NoneFails (variables M before i xs ks) × (length xs ≡ length ks)
  are_variables before i [] [] h k = (tt, refl)
  are_variables before i [] (k ∷ ks) h f = absurd h
  are_variables before i (x ∷ xs) [] h f = absurd h
  are_variables before i (x ∷ xs) (k ∷ ks) h f =
      let rest = are_variables (before ++ x ∷ []) (i + 2) xs ks h.1 f.1 in
      (((when_not (is_none (kind_in ds x)) Unknown i (ap is_none h.0), (when_not (is_among before x) Twice i f.0, fine k (Some k) (kind_in ds x) i refl h.0)), rest.0), omega arith)

  -- the variables are of some kinds, where no kinds are wanted
  pub variables_known : (before : List Name) (i : ℕ) (xs : List Name) → NoneFails (variables M before i xs []) → ((ks : List Kind) × AreDeclared ds xs ks) × Fresh before xs
  variables_known before i [] h = (([], tt), tt)
  variables_known before i (x ∷ xs) h =
      let known = there (kind_in ds x) (not_when (is_none (kind_in ds x)) Unknown i h.0.0) in
      let rest = variables_known (before ++ x ∷ []) (i + 2) xs h.1 in
      ((known.0 ∷ rest.0.0, (known.1, rest.0.1)), (not_when (is_among before x) Twice i h.0.1.0, rest.1))

  pub known_variables : (before : List Name) (i : ℕ) (xs : List Name) (ks : List Kind) → AreDeclared ds xs ks → Fresh before xs → NoneFails (variables M before i xs [])
  known_variables before i [] [] h f = tt
  known_variables before i [] (k ∷ ks) h f = absurd h
  known_variables before i (x ∷ xs) [] h f = absurd h
  known_variables before i (x ∷ xs) (k ∷ ks) h f =
      ((when_not (is_none (kind_in ds x)) Unknown i (ap is_none h.0), (when_not (is_among before x) Twice i f.0, no_want (kind_in ds x) i)), known_variables (before ++ x ∷ []) (i + 2) xs ks h.1 f.1)
