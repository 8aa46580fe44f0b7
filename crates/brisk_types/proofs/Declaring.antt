-- Declarations: no rule fails exactly where they are well typed.
use Rattle.std.proofs.Common.{◌≡◌, ℕ, ◌+◌, true, false, cond, ◌||◌, not, List, [], ◌∷◌, ◌++◌, map, Option, Some, None, refl, sym, ap, ◌∙◌}
use Rattle.std.specs.Prelude.{if◌then◌else◌}
use Rattle.std.specs.List.{AllByRecursion}
use Rattle.std.specs.Option.{is_some, option_or}
use Rattle.std.proofs.lemmas.List.{map-append}
use Rattle.brisk_values.specs.declared.value.Kind.{Kind}
use Rattle.brisk_values.specs.declared.value.Kind.TheVariants as kind
use Rattle.brisk_values.specs.Names.{Name, same_name}
use Rattle.brisk_syntax.specs.declared.program.Channel.{Channel}
use Rattle.brisk_syntax.specs.declared.program.Const.{Const}
use Rattle.brisk_syntax.specs.declared.program.Const.TheVariants as constant
use Rattle.brisk_syntax.specs.declared.program.Decl.{Decl}
use Rattle.brisk_syntax.specs.declared.program.Decl.TheVariants as decl
use Rattle.brisk_syntax.specs.declared.program.EnumDecl.{EnumDecl}
use Rattle.brisk_syntax.specs.declared.program.Program.{Program}
use Rattle.brisk_syntax.specs.Declarations.{kind_in, is_tag, variable_of}
use Rattle.brisk_syntax.specs.Roles.{RoleText}
use Rattle.brisk_syntax.specs.Tokens.{decl_tokens, enum_tokens, channel_tokens, role_tokens}
use Rattle.brisk_syntax.specs.Typing.{is_among, is_kind, ConstantHasKind, IsDeclWellTyped, AreDeclsWellTyped}
use Rattle.brisk_syntax.specs.WellTyped.{globals}
use Rattle.brisk_types.specs.declared.fault.Rule.TheVariants.{Unknown, Twice}
use Rattle.brisk_types.specs.Declarations.{placed, placed_enums, placed_channels, placed_roles, channels_at, roles_at, is_enum_of, meaning, kind_at, constant_kind, constant_at, declaration, declarations, declared_kind, behind_all}
use Rattle.brisk_types.specs.Expressions.{wrong, tag_kind}
use Rattle.brisk_types.specs.Failures.{NoneFails}
use Rattle.brisk_types.specs.Statements.{clash, binder}
use Rattle.brisk_types.proofs.Fresh.{Fresh, names_of, not_when, when_not, both_false, is_placed, fresh_distinct, all_fresh}
use Rattle.brisk_types.proofs.Indexes.{any_last, some_or}
use Rattle.brisk_types.proofs.Kinded.{within, agree, fine, tag_enum}
use Rattle.std.proofs.lemmas.Bool.{not-false}
use Rattle.brisk_values.proofs.Changes.{neither}

-- ---- the names that are known everywhere

enum_names : (i : ℕ) (es : List EnumDecl) → names_of (placed_enums i es) ≡ map (λ e. e.name) es
enum_names i [] = refl
enum_names i (e ∷ es) = ap (λ ns. e.name ∷ ns) (enum_names (i + enum_tokens e) es)

channel_names : (i : ℕ) (cs : List Channel) → names_of (placed_channels i cs) ≡ map (λ c. c.name) cs
channel_names i [] = refl
channel_names i (c ∷ cs) = ap (λ ns. c.name ∷ ns) (channel_names (i + channel_tokens c) cs)

role_names : (i : ℕ) (rs : List RoleText) → names_of (placed_roles i rs) ≡ map (λ r. r.name) rs
role_names i [] = refl
role_names i (r ∷ rs) = ap (λ ns. r.name ∷ ns) (role_names (i + role_tokens r) rs)

pub placed_names : (P : Program) → names_of (placed P) ≡ globals P
placed_names P =
    map-append (λ p. p.name) (placed_enums 0 P.enums ++ placed_channels (channels_at P) P.channels) (placed_roles (roles_at P) P.roles)
    ∙ ap (λ ns. ns ++ names_of (placed_roles (roles_at P) P.roles)) (map-append (λ p. p.name) (placed_enums 0 P.enums) (placed_channels (channels_at P) P.channels))
    ∙ (λ i. enum_names 0 P.enums i ++ channel_names (channels_at P) P.channels i ++ role_names (roles_at P) P.roles i)

-- ---- new names

no_clash : (i : ℕ) (o : Option ℕ) → NoneFails (clash i o) → is_some o ≡ false
no_clash i None h = refl
no_clash i (Some j) h = absurd h

clash_not : (i : ℕ) (o : Option ℕ) → is_some o ≡ false → NoneFails (clash i o)
clash_not i None h = tt
clash_not i (Some j) h = cc

module _ (P : Program) (own : Name) (f : Name → Option Kind) where
  known : (v : Name) → is_some ((meaning P own).place v) ≡ is_among (globals P) v
  known v = is_placed (placed P) v ∙ ap (λ ns. is_among ns v) (placed_names P)

  pub new_binder : (binders : List Name) (i : ℕ) (v : Name) → NoneFails (binder (within P own f) binders i v) → (is_among binders v ≡ false) × (is_some (f v) ≡ false) × (is_among (globals P) v ≡ false)
  new_binder binders i v h =
      let parts = neither (is_among binders v) (is_some (f v)) (not_when (is_among binders v || is_some (f v)) Twice i h.0) in
      (parts.0, parts.1, sym (known v) ∙ no_clash i ((meaning P own).place v) h.1)

  pub binder_new : (binders : List Name) (i : ℕ) (v : Name) → is_among binders v ≡ false → is_some (f v) ≡ false → is_among (globals P) v ≡ false → NoneFails (binder (within P own f) binders i v)
  binder_new binders i v a b c = (when_not (is_among binders v || is_some (f v)) Twice i (both_false (is_among binders v) (is_some (f v)) a b), clash_not i ((meaning P own).place v) (known v ∙ c))

  -- ---- constants

  constant_has : (i : ℕ) (k : Kind) (c : Const) → NoneFails (wrong (Some k) (constant_kind (within P own f) c) i) → NoneFails (constant_at (within P own f) i c) → ConstantHasKind P.enums c k
  constant_has i k (constant.Num negative n) h g = agree k kind.Int (Some k) (Some kind.Int) i refl refl h
  constant_has i k (constant.Bool b) h g = agree k kind.Bool (Some k) (Some kind.Bool) i refl refl h
  constant_has i k (constant.Tag e t) h g =
      let is : is_tag P.enums e t ≡ true = not-false (is_tag P.enums e t) (not_when (not (is_tag P.enums e t)) Unknown (i + 2) g.1) in
      (agree k (kind.Enum e) (Some k) (tag_kind (within P own f) e t) i refl (ap (λ b. if b then Some (kind.Enum e) else None) is) h, is)

  has_constant : (i : ℕ) (k : Kind) (c : Const) → ConstantHasKind P.enums c k → NoneFails (wrong (Some k) (constant_kind (within P own f) c) i) × NoneFails (constant_at (within P own f) i c)
  has_constant i k (constant.Num negative n) h = (fine k (Some k) (Some kind.Int) i refl (ap Some (sym h)), tt)
  has_constant i k (constant.Bool b) h = (fine k (Some k) (Some kind.Bool) i refl (ap Some (sym h)), tt)
  has_constant i k (constant.Tag e t) h = (
    fine k (Some k) (tag_kind (within P own f) e t) i refl (ap (λ b. if b then Some (kind.Enum e) else None) h.1 ∙ ap Some (sym h.0)),
    (when_not (not (is_enum_of P.enums e)) Unknown i (ap not (tag_enum P.enums e t h.1)), when_not (not (is_tag P.enums e t)) Unknown (i + 2) (ap not h.1)),
  )

pub kind_known : (enums : List EnumDecl) (i : ℕ) (k : Kind) → NoneFails (kind_at (is_enum_of enums) i k) → is_kind enums k ≡ true
kind_known enums i kind.Int h = refl
kind_known enums i kind.Bool h = refl
kind_known enums i (kind.Enum e) h = not-false (is_enum_of enums e) (not_when (not (is_enum_of enums e)) Unknown i h)

pub known_kind : (enums : List EnumDecl) (i : ℕ) (k : Kind) → is_kind enums k ≡ true → NoneFails (kind_at (is_enum_of enums) i k)
known_kind enums i kind.Int h = tt
known_kind enums i kind.Bool h = tt
known_kind enums i (kind.Enum e) h = when_not (not (is_enum_of enums e)) Unknown i (ap not h)

-- ---- declarations

-- the kinds of the variables before a declaration, and of its own
abbrev one_more : (Name → Option Kind) → Decl → Name → Option Kind
one_more f d x = option_or (f x) (cond (same_name x (variable_of d)) (Some (declared_kind d)) None)

more : (f : Name → Option Kind) (before : List Name) (d : Decl) → ((x : Name) → is_some (f x) ≡ is_among before x) → (x : Name) → is_some (one_more f d x) ≡ is_among (before ++ variable_of d ∷ []) x
more f before d h x = some_or (f x) (same_name x (variable_of d)) (declared_kind d) ∙ ap (λ b. b || same_name x (variable_of d)) (h x) ∙ sym (any_last (same_name x) before (variable_of d))

-- the declaration is well typed, and its name is new
abbrev IsNew : Program → (Name → Option Kind) → Decl → Type 0
IsNew P f d = IsDeclWellTyped P.enums d × (is_some (f (variable_of d)) ≡ false) × (is_among (globals P) (variable_of d) ≡ false)

module _ (P : Program) (own : Name) where
  decl_typed : (f : Name → Option Kind) (i : ℕ) (d : Decl) → NoneFails (declaration (within P own f) i d) → IsNew P f d
  decl_typed f i (decl.Var x k c) h =
      let new = new_binder P own f [] (i + 1) x h.0 in
      ((kind_known P.enums (i + 3) k h.1.0, constant_has P own f (i + 5) k c h.1.1.0 h.1.1.1), new.1, new.2)
  decl_typed f i (decl.Input x k) h =
      let new = new_binder P own f [] (i + 1) x h.0 in
      (kind_known P.enums (i + 3) k h.1, new.1, new.2)

  typed_decl : (f : Name → Option Kind) (i : ℕ) (d : Decl) → IsNew P f d → NoneFails (declaration (within P own f) i d)
  typed_decl f i (decl.Var x k c) h = (binder_new P own f [] (i + 1) x refl h.1 h.2, (known_kind P.enums (i + 3) k h.0.0, has_constant P own f (i + 5) k c h.0.1))
  typed_decl f i (decl.Input x k) h = (binder_new P own f [] (i + 1) x refl h.1 h.2, known_kind P.enums (i + 3) k h.0)

  decls_typed : (f : Name → Option Kind) (before : List Name) → ((x : Name) → is_some (f x) ≡ is_among before x) → (i : ℕ) (ds : List Decl) → NoneFails (declarations (within P own f) i ds)
      → AllByRecursion (IsDeclWellTyped P.enums) ds × Fresh before (map variable_of ds) × AllByRecursion (λ d. is_among (globals P) (variable_of d) ≡ false) ds
  decls_typed f before e i [] h = (tt, tt, tt)
  decls_typed f before e i (d ∷ ds) h =
      let one = decl_typed f i d h.0 in
      let rest = decls_typed (one_more f d) (before ++ variable_of d ∷ []) (more f before d e) (i + decl_tokens d) ds h.1 in
      ((one.0, rest.0), (sym (e (variable_of d)) ∙ one.1, rest.1), (one.2, rest.2))

  typed_decls : (f : Name → Option Kind) (before : List Name) → ((x : Name) → is_some (f x) ≡ is_among before x) → (i : ℕ) (ds : List Decl)
      → AllByRecursion (IsDeclWellTyped P.enums) ds → Fresh before (map variable_of ds) → AllByRecursion (λ d. is_among (globals P) (variable_of d) ≡ false) ds
      → NoneFails (declarations (within P own f) i ds)
  typed_decls f before e i [] a b c = tt
  typed_decls f before e i (d ∷ ds) a b c =
      (typed_decl f i d (a.0, e (variable_of d) ∙ b.0, c.0), typed_decls (one_more f d) (before ++ variable_of d ∷ []) (more f before d e) (i + decl_tokens d) ds a.1 b.1 c.1)

  pub are_decls : (i : ℕ) (ds : List Decl) → NoneFails (declarations (meaning P own) i ds) → AreDeclsWellTyped P.enums (globals P) ds
  are_decls i ds h =
      let parts = decls_typed (λ x. None) [] (λ x. refl) i ds h in
      record { each = parts.0; apart = (fresh_distinct [] (map variable_of ds) parts.1).0; no_global = parts.2 }

  pub decls_are : (i : ℕ) (ds : List Decl) → AreDeclsWellTyped P.enums (globals P) ds → NoneFails (declarations (meaning P own) i ds)
  decls_are i ds h = typed_decls (λ x. None) [] (λ x. refl) i ds h.each (all_fresh (map variable_of ds) h.apart) h.no_global

  -- ---- what names mean behind declarations

  or_none : (o : Option Kind) → o ≡ option_or o None
  or_none (Some k) = refl
  or_none None = refl

  one_kind : (o : Option Kind) (d : Decl) (ds : List Decl) (x : Name) → option_or (option_or o (cond (same_name x (variable_of d)) (Some (declared_kind d)) None)) (kind_in ds x) ≡ option_or o (kind_in (d ∷ ds) x)
  one_kind (Some k) d ds x = refl
  one_kind None (decl.Var y k c) ds x = elim (same_name x y) as (λ b. option_or (cond b (Some k) None) (kind_in ds x) ≡ (if b then Some k else kind_in ds x)) [ true ↦ refl | false ↦ refl ]
  one_kind None (decl.Input y k) ds x = elim (same_name x y) as (λ b. option_or (cond b (Some k) None) (kind_in ds x) ≡ (if b then Some k else kind_in ds x)) [ true ↦ refl | false ↦ refl ]

  behind_kinds : (f : Name → Option Kind) (ds : List Decl) → behind_all (within P own f) ds ≡ within P own (λ x. option_or (f x) (kind_in ds x))
  behind_kinds f [] = λ i. within P own (λ x. or_none (f x) i)
  behind_kinds f (d ∷ ds) = behind_kinds (one_more f d) ds ∙ (λ i. within P own (λ x. one_kind (f x) d ds x i))

  -- the variables are those that are declared
  pub behind_is : (ds : List Decl) → behind_all (meaning P own) ds ≡ within P own (kind_in ds)
  behind_is ds = behind_kinds (λ x. None) ds

-- a variable has a kind exactly where it is declared
pub is_declared : (ds : List Decl) (x : Name) → is_some (kind_in ds x) ≡ is_among (map variable_of ds) x
is_declared [] x = refl
is_declared (decl.Var y k c ∷ ds) x = elim (same_name x y) as (λ b. is_some (if b then Some k else kind_in ds x) ≡ (b || is_among (map variable_of ds) x)) [ true ↦ refl | false ↦ is_declared ds x ]
is_declared (decl.Input y k ∷ ds) x = elim (same_name x y) as (λ b. is_some (if b then Some k else kind_in ds x) ≡ (b || is_among (map variable_of ds) x)) [ true ↦ refl | false ↦ is_declared ds x ]
