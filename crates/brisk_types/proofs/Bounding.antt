-- Each failure is at a token of the program.
use Rattle.std.proofs.Common.{◌≡◌, ℕ, ◌+◌, ◌*◌, ◌<◌, ◌≤◌, inl, inr, Bool, true, false, ◌||◌, not, List, [], ◌∷◌, ◌++◌, length, sum_by, Option, Some, None, refl, arith}
use Rattle.std.specs.Prelude.{if◌then◌else◌}
use Rattle.std.specs.Option.{is_none, is_some}
use Rattle.std.proofs.lemmas.List.Sums.{sum_by-cons}
use Rattle.brisk_values.specs.declared.value.Kind.{Kind}
use Rattle.brisk_values.specs.declared.value.Kind.TheVariants as kind
use Rattle.brisk_values.specs.Names.{Name, same_name}
use Rattle.brisk_syntax.specs.declared.program.Channel.{Channel}
use Rattle.brisk_syntax.specs.declared.program.Const.{Const}
use Rattle.brisk_syntax.specs.declared.program.Const.TheVariants as constant
use Rattle.brisk_syntax.specs.declared.program.Decl.{Decl}
use Rattle.brisk_syntax.specs.declared.program.Decl.TheVariants as decl
use Rattle.brisk_syntax.specs.declared.program.EnumDecl.{EnumDecl}
use Rattle.brisk_syntax.specs.declared.program.Program.{Program}
use Rattle.brisk_syntax.specs.Roles.{RoleText}
use Rattle.brisk_syntax.specs.Syntax.{Expression, Num, Truth, Var, Tag, Size, Paren, Un, Bin, Statement, Assign, Send, Recv, RecvAny, If, IfElse, While, For, Repeat, Code, done, ◌⨾◌}
use Rattle.brisk_syntax.specs.Tokens.{expression_tokens, list_tokens, name_tokens, statement_tokens, code_tokens, constant_tokens, decl_tokens, role_tokens, enum_tokens, channel_tokens, program_tokens}
use Rattle.brisk_syntax.specs.Typing.{is_among}
use Rattle.brisk_types.specs.declared.fault.Rule.{Rule}
use Rattle.brisk_types.specs.declared.fault.Rule.TheVariants.{Unknown, Twice, WrongKind}
use Rattle.brisk_types.specs.declared.places.Placed.{Placed}
use Rattle.brisk_types.specs.Declarations.{place_of, placed, placed_enums, placed_channels, placed_roles, channels_at, roles_at, apart, is_enum_of, meaning, tags, enumerations, kind_at, kinds, channels, constant_kind, constant_at, declaration, declarations, behind, behind_all, heading_tokens, role, roles, failures}
use Rattle.brisk_types.specs.Expressions.{Meaning, differ, kind_of, unary_kind, operand_kind, right_kind, size_rule, expression, wanted}
use Rattle.brisk_types.specs.Failures.{Failures, none, fails, ◌also◌, when, broken, Fails}
use Rattle.brisk_types.specs.Statements.{clash, binder, partner_rule, set_rule, bound, channel_rule, first_kind, other_kinds, wanted_kinds, values, variables, received, statement, code}
use Rattle.brisk_types.proofs.Lists.{spaced_tokens, spaced_is, names_is}

-- each of the failures is at a token below n
abbrev pub Bounded : ℕ → Failures → Type 0
Bounded n none = Unit {0}
Bounded n (fails r i) = i < n
Bounded n (a also b) = Bounded n a × Bounded n b

pub bounded_fails : (n : ℕ) (fs : Failures) (r : Rule) (i : ℕ) → Bounded n fs → Fails fs r i → i < n
bounded_fails n none r i h f = absurd f
bounded_fails n (fails q j) r i h f = omega (arith, h, f.1)
bounded_fails n (a also b) r i h (inl f) = bounded_fails n a r i h.0 f
bounded_fails n (a also b) r i h (inr f) = bounded_fails n b r i h.1 f

pub when_below : (n : ℕ) (b : Bool) (r : Rule) (i : ℕ) → i < n → Bounded n (when b r i)
when_below n true r i h = h
when_below n false r i h = tt

pub broken_below : (n : ℕ) (r : Option Rule) (i : ℕ) → i < n → Bounded n (broken r i)
broken_below n None i h = tt
broken_below n (Some r) i h = h

-- ---- expressions

pub positive : (e : Expression) → 0 < expression_tokens e
positive (Num n) = omega arith
positive (Truth b) = omega arith
positive (Var x) = omega arith
positive (Tag e t) = omega arith
positive (Size s) = omega arith
positive (Paren e) = omega arith
positive (Un op e) = omega arith
positive (Bin op e f) = omega arith

expression_below : (n : ℕ) (m : Meaning) (i : ℕ) (e : Expression) → i + expression_tokens e ≤ n → Bounded n (expression m i e)
expression_below n m i (Num k) h = tt
expression_below n m i (Truth b) h = tt
expression_below n m i (Var x) h = when_below n (is_none (m.kind_of_variable x)) Unknown i (omega arith)
expression_below n m i (Tag e t) h = (when_below n (not (m.is_enum e)) Unknown i (omega arith), when_below n (not (m.is_tag e t)) Unknown (i + 2) (omega arith))
expression_below n m i (Size s) h = broken_below n (size_rule m s) (i + 1) (omega arith)
expression_below n m i (Paren e) h = expression_below n m (i + 1) e (omega arith)
expression_below n m i (Un op e) h = (when_below n (differ (Some (unary_kind op)) (kind_of m e)) WrongKind (i + 1) (omega (arith, positive e)), expression_below n m (i + 1) e (omega arith))
expression_below n m i (Bin op e f) h = (
  (when_below n (differ (operand_kind op) (kind_of m e)) WrongKind i (omega arith), expression_below n m i e (omega arith)),
  (when_below n (differ (right_kind op (kind_of m e)) (kind_of m f)) WrongKind (i + expression_tokens e + 1) (omega (arith, positive f)), expression_below n m (i + expression_tokens e + 1) f (omega arith)),
)

pub wanted_below : (n : ℕ) (m : Meaning) (k : Option Kind) (i : ℕ) (e : Expression) → i + expression_tokens e ≤ n → Bounded n (wanted m k i e)
wanted_below n m k i e h = (when_below n (differ k (kind_of m e)) WrongKind i (omega (arith, positive e)), expression_below n m i e h)

-- ---- messages

values_spaced : (n : ℕ) (m : Meaning) (i : ℕ) (es : List Expression) (ks : List Kind) → i + spaced_tokens es ≤ n + 1 → Bounded n (values m i es ks)
values_spaced n m i [] ks h = tt
values_spaced n m i (e ∷ es) ks h = (wanted_below n m (first_kind ks) i e (omega arith), values_spaced n m (i + expression_tokens e + 1) es (other_kinds ks) (omega arith))

pub values_below : (n : ℕ) (m : Meaning) (i : ℕ) (es : List Expression) (ks : List Kind) → i + list_tokens es ≤ n → Bounded n (values m i es ks)
values_below n m i es ks h = values_spaced n m i es ks (omega (arith, spaced_is es))

variables_spaced : (n : ℕ) (m : Meaning) (before : List Name) (i : ℕ) (xs : List Name) (ks : List Kind) → i + 2 * length xs ≤ n + 1 → Bounded n (variables m before i xs ks)
variables_spaced n m before i [] ks h = tt
variables_spaced n m before i (x ∷ xs) ks h = (
  (
    when_below n (is_none (m.kind_of_variable x)) Unknown i (omega arith),
    (when_below n (is_among before x) Twice i (omega arith), when_below n (differ (first_kind ks) (m.kind_of_variable x)) WrongKind i (omega arith)),
  ),
  variables_spaced n m (before ++ x ∷ []) (i + 2) xs (other_kinds ks) (omega arith),
)

pub variables_below : (n : ℕ) (m : Meaning) (i : ℕ) (xs : List Name) (ks : List Kind) → i + name_tokens xs ≤ n → Bounded n (variables m [] i xs ks)
variables_below n m i xs ks h = variables_spaced n m [] i xs ks (omega (arith, names_is xs))

-- ---- names that are known everywhere

-- each global name is declared below n
abbrev pub PlacesBelow : ℕ → Meaning → Type 0
PlacesBelow n m = (v : Name) (j : ℕ) → m.place v ≡ Some j → j < n

abbrev AllBelow : ℕ → List Placed → Type 0
AllBelow n [] = Unit {0}
AllBelow n (p ∷ ps) = (p.at < n) × AllBelow n ps

append_below : (n : ℕ) (ps qs : List Placed) → AllBelow n ps → AllBelow n qs → AllBelow n (ps ++ qs)
append_below n [] qs h k = k
append_below n (p ∷ ps) qs h k = (h.0, append_below n ps qs h.1 k)

enums_below : (n i : ℕ) (es : List EnumDecl) → i + sum_by enum_tokens es ≤ n → AllBelow n (placed_enums i es)
enums_below n i [] h = tt
enums_below n i (e ∷ es) h = let sum = sum_by-cons enum_tokens e es in (omega (arith, sum), enums_below n (i + enum_tokens e) es (omega (arith, sum)))

channels_below : (n i : ℕ) (cs : List Channel) → i + sum_by channel_tokens cs ≤ n → AllBelow n (placed_channels i cs)
channels_below n i [] h = tt
channels_below n i (c ∷ cs) h = let sum = sum_by-cons channel_tokens c cs in (omega (arith, sum), channels_below n (i + channel_tokens c) cs (omega (arith, sum)))

roles_below : (n i : ℕ) (rs : List RoleText) → i + sum_by role_tokens rs ≤ n → AllBelow n (placed_roles i rs)
roles_below n i [] h = tt
roles_below n i (r ∷ rs) h = let sum = sum_by-cons role_tokens r rs in (omega (arith, sum), roles_below n (i + role_tokens r) rs (omega (arith, sum)))

placed_below : (n : ℕ) (P : Program) → program_tokens P ≤ n → AllBelow n (placed P)
placed_below n P h =
    append_below n (placed_enums 0 P.enums ++ placed_channels (channels_at P) P.channels) (placed_roles (roles_at P) P.roles)
    (append_below n (placed_enums 0 P.enums) (placed_channels (channels_at P) P.channels) (enums_below n 0 P.enums (omega arith)) (channels_below n (channels_at P) P.channels (omega arith)))
    (roles_below n (roles_at P) P.roles (omega arith))

place_below : (n : ℕ) (ps : List Placed) → AllBelow n ps → (v : Name) (j : ℕ) → place_of ps v ≡ Some j → j < n
place_below n [] h v j e = cc
place_below n (p ∷ ps) h v j e = by (same_name v p.name) h.0 (place_below n ps h.1 v j) e
  where
    by : (b : Bool) → p.at < n → (place_of ps v ≡ Some j → j < n) → (if b then Some p.at else place_of ps v) ≡ Some j → j < n
    by true lt rest e = let same : p.at ≡ j = cc in omega arith
    by false lt rest e = rest e

apart_listed : (n : ℕ) (before ps : List Placed) → AllBelow n ps → Bounded n (apart before ps)
apart_listed n before [] h = tt
apart_listed n before (p ∷ ps) h = (when_below n (is_some (place_of before p.name)) Twice p.at h.0, apart_listed n (before ++ p ∷ []) ps h.1)

pub apart_below : (n : ℕ) (P : Program) → program_tokens P ≤ n → Bounded n (apart [] (placed P))
apart_below n P h = apart_listed n [] (placed P) (placed_below n P h)

pub meaning_below : (n : ℕ) (P : Program) (own : Name) → program_tokens P ≤ n → PlacesBelow n (meaning P own)
meaning_below n P own h = place_below n (placed P) (placed_below n P h)

clash_below : (n i : ℕ) (o : Option ℕ) → i < n → ((j : ℕ) → o ≡ Some j → j < n) → Bounded n (clash i o)
clash_below n i None lt h = tt
clash_below n i (Some j) lt h = let k = h j refl in omega (arith, k)

binder_below : (n : ℕ) (m : Meaning) (binders : List Name) (i : ℕ) (v : Name) → PlacesBelow n m → i < n → Bounded n (binder m binders i v)
binder_below n m binders i v p lt = (when_below n (is_among binders v || is_some (m.kind_of_variable v)) Twice i lt, clash_below n i (m.place v) lt (p v))

-- ---- statements

module _ (n : ℕ) (m : Meaning) (p : PlacesBelow n m) where
  bound_below : (binders : List Name) (i : ℕ) (v s : Name) → i + 2 < n → Bounded n (bound m binders i v s)
  bound_below binders i v s h = (binder_below n m binders i v p (omega arith), broken_below n (set_rule m s) (i + 2) h)

  received_below : (i : ℕ) (c : Name) (xs : List Name) → i + 3 + name_tokens xs ≤ n → Bounded n (received m i c xs)
  received_below i c xs h = (broken_below n (channel_rule (m.kinds_on c) (length xs)) (i + 1) (omega arith), variables_below n m (i + 3) xs (wanted_kinds (m.kinds_on c)) h)

  mutual
    statement_below : (binders : List Name) (i : ℕ) (s : Statement) → i + statement_tokens s ≤ n → Bounded n (statement m binders i s)
    statement_below binders i (Assign x e) h = (when_below n (is_none (m.kind_of_variable x)) Unknown i (omega arith), wanted_below n m (m.kind_of_variable x) (i + 2) e (omega arith))
    statement_below binders i (Send c es u) h = (
      broken_below n (channel_rule (m.kinds_on c) (length es)) (i + 1) (omega arith),
      (values_below n m (i + 3) es (wanted_kinds (m.kinds_on c)) (omega arith), broken_below n (partner_rule m binders u) (i + 3 + list_tokens es + 2) (omega arith)),
    )
    statement_below binders i (Recv c xs u) h = (received_below i c xs (omega arith), broken_below n (partner_rule m binders u) (i + 3 + name_tokens xs + 2) (omega arith))
    statement_below binders i (RecvAny c xs v s b) h = (
      received_below i c xs (omega arith),
      (bound_below binders (i + 3 + name_tokens xs + 3) v s (omega arith), code_below (binders ++ v ∷ []) (i + 3 + name_tokens xs + 3 + 4) b (omega arith)),
    )
    statement_below binders i (If e a) h = (wanted_below n m (Some kind.Bool) (i + 1) e (omega arith), code_below binders (i + 1 + expression_tokens e + 1) a (omega arith))
    statement_below binders i (IfElse e a b) h = (
      wanted_below n m (Some kind.Bool) (i + 1) e (omega arith),
      (code_below binders (i + 1 + expression_tokens e + 1) a (omega arith), code_below binders (i + 1 + expression_tokens e + 1 + code_tokens a + 3) b (omega arith)),
    )
    statement_below binders i (While e b) h = (wanted_below n m (Some kind.Bool) (i + 1) e (omega arith), code_below binders (i + 1 + expression_tokens e + 1) b (omega arith))
    statement_below binders i (For v s k b) h = (bound_below binders (i + 1) v s (omega arith), code_below (binders ++ v ∷ []) (i + 1 + 4) b (omega arith))
    statement_below binders i (Repeat s k b) h = (broken_below n (set_rule m s) (i + 1) (omega arith), code_below binders (i + 3) b (omega arith))

    code_below : (binders : List Name) (i : ℕ) (b : Code) → i + code_tokens b ≤ n → Bounded n (code m binders i b)
    code_below binders i done h = tt
    code_below binders i (s ⨾ b) h = (statement_below binders i s (omega arith), code_below binders (i + statement_tokens s) b (omega arith))

-- ---- declarations

tags_spaced : (n : ℕ) (before : List Name) (i : ℕ) (ts : List Name) → i + 2 * length ts ≤ n + 1 → Bounded n (tags before i ts)
tags_spaced n before i [] h = tt
tags_spaced n before i (t ∷ ts) h = (when_below n (is_among before t) Twice i (omega arith), tags_spaced n (before ++ t ∷ []) (i + 2) ts (omega arith))

pub enumerations_below : (n i : ℕ) (es : List EnumDecl) → i + sum_by enum_tokens es ≤ n → Bounded n (enumerations i es)
enumerations_below n i [] h = tt
enumerations_below n i (e ∷ es) h =
    let sum = sum_by-cons enum_tokens e es in
    (tags_spaced n [] (i + 3) e.tags (omega (arith, sum, names_is e.tags)), enumerations_below n (i + enum_tokens e) es (omega (arith, sum)))

kind_below : (n : ℕ) (is_enum : Name → Bool) (i : ℕ) (k : Kind) → i < n → Bounded n (kind_at is_enum i k)
kind_below n is_enum i kind.Int h = tt
kind_below n is_enum i kind.Bool h = tt
kind_below n is_enum i (kind.Enum e) h = when_below n (not (is_enum e)) Unknown i h

kinds_spaced : (n : ℕ) (is_enum : Name → Bool) (i : ℕ) (ks : List Kind) → i + 2 * length ks ≤ n + 1 → Bounded n (kinds is_enum i ks)
kinds_spaced n is_enum i [] h = tt
kinds_spaced n is_enum i (k ∷ ks) h = (kind_below n is_enum i k (omega arith), kinds_spaced n is_enum (i + 2) ks (omega arith))

kinds_below : (n : ℕ) (is_enum : Name → Bool) (i : ℕ) (cs : List Channel) → i + sum_by channel_tokens cs ≤ n → Bounded n (channels is_enum i cs)
kinds_below n is_enum i [] h = tt
kinds_below n is_enum i (c ∷ cs) h =
    let sum = sum_by-cons channel_tokens c cs in
    (kinds_spaced n is_enum (i + 3) c.kinds (omega (arith, sum, names_is c.kinds)), kinds_below n is_enum (i + channel_tokens c) cs (omega (arith, sum)))

constant_below : (n : ℕ) (m : Meaning) (i : ℕ) (c : Const) → i + constant_tokens c ≤ n → Bounded n (constant_at m i c)
constant_below n m i (constant.Num negative k) h = tt
constant_below n m i (constant.Bool b) h = tt
constant_below n m i (constant.Tag e t) h = (when_below n (not (m.is_enum e)) Unknown i (omega arith), when_below n (not (m.is_tag e t)) Unknown (i + 2) (omega arith))

declaration_below : (n : ℕ) (m : Meaning) (i : ℕ) (d : Decl) → PlacesBelow n m → i + decl_tokens d ≤ n → Bounded n (declaration m i d)
declaration_below n m i (decl.Var x k c) p h = (
  binder_below n m [] (i + 1) x p (omega arith),
  (kind_below n m.is_enum (i + 3) k (omega arith), (when_below n (differ (Some k) (constant_kind m c)) WrongKind (i + 5) (omega arith), constant_below n m (i + 5) c (omega arith))),
)
declaration_below n m i (decl.Input x k) p h = (binder_below n m [] (i + 1) x p (omega arith), kind_below n m.is_enum (i + 3) k (omega arith))

pub declarations_below : (n : ℕ) (m : Meaning) (i : ℕ) (ds : List Decl) → PlacesBelow n m → i + sum_by decl_tokens ds ≤ n → Bounded n (declarations m i ds)
declarations_below n m i [] p h = tt
declarations_below n m i (d ∷ ds) p h =
    let sum = sum_by-cons decl_tokens d ds in
    (declaration_below n m i d p (omega (arith, sum)), declarations_below n (behind m d) (i + decl_tokens d) ds p (omega (arith, sum)))

behind_below : (n : ℕ) (m : Meaning) (ds : List Decl) → PlacesBelow n m → PlacesBelow n (behind_all m ds)
behind_below n m [] p = p
behind_below n m (d ∷ ds) p = behind_below n (behind m d) ds p

-- ---- programs

role_below : (n : ℕ) (P : Program) (i : ℕ) (r : RoleText) → program_tokens P ≤ n → i + role_tokens r ≤ n → Bounded n (role (meaning P r.name) i r)
role_below n P i r short h =
    let p = meaning_below n P r.name short in (
      declarations_below n (meaning P r.name) (i + heading_tokens r) r.decls p (omega arith),
      code_below n (behind_all (meaning P r.name) r.decls) (behind_below n (meaning P r.name) r.decls p) [] (i + heading_tokens r + sum_by decl_tokens r.decls) r.code (omega arith),
    )

all_roles_below : (n : ℕ) (P : Program) (i : ℕ) (rs : List RoleText) → program_tokens P ≤ n → i + sum_by role_tokens rs ≤ n → Bounded n (roles (meaning P) i rs)
all_roles_below n P i [] short h = tt
all_roles_below n P i (r ∷ rs) short h =
    let sum = sum_by-cons role_tokens r rs in
    (role_below n P i r short (omega (arith, sum)), all_roles_below n P (i + role_tokens r) rs short (omega (arith, sum)))

-- each failure is at a token of the program
pub program_below : (P : Program) (r : Rule) (i : ℕ) → Fails (failures P) r i → i < program_tokens P
program_below P r i f = bounded_fails (program_tokens P) (failures P) r i all f
  where
    all : Bounded (program_tokens P) (failures P)
    all = (
      apart_below (program_tokens P) P (omega arith),
      (
        enumerations_below (program_tokens P) 0 P.enums (omega arith),
        (
          kinds_below (program_tokens P) (is_enum_of P.enums) (channels_at P) P.channels (omega arith),
          all_roles_below (program_tokens P) P (roles_at P) P.roles (omega arith) (omega arith),
        ),
      ),
    )
