-- The typing rules of what roles and sequential programs share: names, declarations and expressions.
use Rattle.std.specs.Prelude.{◌≡◌, Bool, false, true, ◌&&◌, not, List, [], ◌∷◌, ◌++◌, length, map, Some, nat_lt}
use Rattle.std.specs.List.{AllByRecursion, list_all, list_any}
use Rattle.brisk_values.specs.declared.operation.Op1.TheVariants.{Neg, Not}
use Rattle.brisk_values.specs.declared.operation.Op2.TheVariants.{Add, Sub, Mul, Eq, Ne, And, Or}
use Rattle.brisk_values.specs.declared.value.Kind.{Kind}
use Rattle.brisk_values.specs.declared.value.Kind.TheVariants as kind
use Rattle.brisk_values.specs.Names.{Name, same_name}
use Rattle.brisk_syntax.specs.declared.program.Channel.{Channel}
use Rattle.brisk_syntax.specs.declared.program.Const.{Const}
use Rattle.brisk_syntax.specs.declared.program.Const.TheVariants as constant
use Rattle.brisk_syntax.specs.declared.program.Decl.{Decl}
use Rattle.brisk_syntax.specs.declared.program.Decl.TheVariants as decl
use Rattle.brisk_syntax.specs.declared.program.EnumDecl.{EnumDecl}
use Rattle.brisk_syntax.specs.Declarations.{kind_in, is_tag, variable_of}
use Rattle.brisk_syntax.specs.Roles.{RoleText}
use Rattle.brisk_syntax.specs.Syntax.{Expression, Num, Truth, Var, Tag, Size, Paren, Un, Bin}

-- the name is one of these
abbrev pub is_among : List Name → Name → Bool
is_among ns n = list_any (same_name n) ns

-- the names differ
abbrev pub are_distinct : List Name → Bool
are_distinct [] = true
are_distinct (n ∷ ns) = not (is_among ns n) && are_distinct ns

-- the name is that of a set
abbrev pub is_set : List RoleText → Name → Bool
is_set roles n = list_any (λ r. same_name n r.name && r.many) roles

-- the name is that of a single role
abbrev pub is_single : List RoleText → Name → Bool
is_single roles n = list_any (λ r. same_name n r.name && not r.many) roles

-- what an expression may name: the tags of enumerations, the sizes of sets, and the variables of its process
pub record Scope : Type 0 where
  pub enums : List EnumDecl
  pub roles : List RoleText
  pub decls : List Decl

-- the scope of these
abbrev pub scope : List EnumDecl → List RoleText → List Decl → Scope
scope enums roles decls = record { enums = enums; roles = roles; decls = decls }

-- the expression is well typed and has this kind
abbrev pub HasKind : Scope → Expression → Kind → Type 0
HasKind names (Num n) k = k ≡ kind.Int
HasKind names (Truth b) k = k ≡ kind.Bool
HasKind names (Var x) k = kind_in names.decls x ≡ Some k
HasKind names (Tag e t) k = (k ≡ kind.Enum e) × (is_tag names.enums e t ≡ true)
HasKind names (Size s) k = (k ≡ kind.Int) × (is_set names.roles s ≡ true)
HasKind names (Paren e) k = HasKind names e k
HasKind names (Un Neg e) k = (k ≡ kind.Int) × HasKind names e kind.Int
HasKind names (Un Not e) k = (k ≡ kind.Bool) × HasKind names e kind.Bool
HasKind names (Bin Add e f) k = (k ≡ kind.Int) × HasKind names e kind.Int × HasKind names f kind.Int
HasKind names (Bin Sub e f) k = (k ≡ kind.Int) × HasKind names e kind.Int × HasKind names f kind.Int
HasKind names (Bin Mul e f) k = (k ≡ kind.Int) × HasKind names e kind.Int × HasKind names f kind.Int
HasKind names (Bin And e f) k = (k ≡ kind.Bool) × HasKind names e kind.Bool × HasKind names f kind.Bool
HasKind names (Bin Or e f) k = (k ≡ kind.Bool) × HasKind names e kind.Bool × HasKind names f kind.Bool
HasKind names (Bin Eq e f) k = (k ≡ kind.Bool) × (j : Kind) × HasKind names e j × HasKind names f j
HasKind names (Bin Ne e f) k = (k ≡ kind.Bool) × (j : Kind) × HasKind names e j × HasKind names f j
HasKind names (Bin op e f) k = (k ≡ kind.Bool) × HasKind names e kind.Int × HasKind names f kind.Int

-- the expressions have these kinds, each its own
abbrev pub HaveKinds : Scope → List Expression → List Kind → Type 0
HaveKinds names [] [] = Unit {0}
HaveKinds names (e ∷ es) (k ∷ ks) = HasKind names e k × HaveKinds names es ks
HaveKinds names es ks = ⊥

-- the variables are declared with these kinds, each with its own
abbrev pub AreDeclared : List Decl → List Name → List Kind → Type 0
AreDeclared decls [] [] = Unit {0}
AreDeclared decls (x ∷ xs) (k ∷ ks) = (kind_in decls x ≡ Some k) × AreDeclared decls xs ks
AreDeclared decls xs ks = ⊥

-- an enumeration that the kind names is declared
abbrev pub is_kind : List EnumDecl → Kind → Bool
is_kind enums kind.Int = true
is_kind enums kind.Bool = true
is_kind enums (kind.Enum e) = list_any (λ n. same_name e n.name) enums

-- the constant has this kind
abbrev pub ConstantHasKind : List EnumDecl → Const → Kind → Type 0
ConstantHasKind enums (constant.Num negative n) k = k ≡ kind.Int
ConstantHasKind enums (constant.Bool b) k = k ≡ kind.Bool
ConstantHasKind enums (constant.Tag e t) k = (k ≡ kind.Enum e) × (is_tag enums e t ≡ true)

-- the declaration's kind is declared, and its constant has it
abbrev pub IsDeclWellTyped : List EnumDecl → Decl → Type 0
IsDeclWellTyped enums (decl.Var x k c) = (is_kind enums k ≡ true) × ConstantHasKind enums c k
IsDeclWellTyped enums (decl.Input x k) = is_kind enums k ≡ true

-- the names of enumerations, channels and roles, which all differ
abbrev pub global_names : List EnumDecl → List Channel → List RoleText → List Name
global_names enums channels roles = map (λ e. e.name) enums ++ map (λ c. c.name) channels ++ map (λ r. r.name) roles

-- the tags of each enumeration differ
abbrev pub HasDistinctTags : EnumDecl → Type 0
HasDistinctTags e = are_distinct e.tags ≡ true

-- each enumeration has a tag, as in every program that is read
abbrev pub each_has_tag : List EnumDecl → Bool
each_has_tag enums = list_all (λ e. nat_lt 0 (length e.tags)) enums

-- a role's declarations: each is well typed, and the variables differ from each other and from the global names
pub record AreDeclsWellTyped (enums : List EnumDecl) (globals : List Name) (decls : List Decl) : Type 0 where
  pub each : AllByRecursion (IsDeclWellTyped enums) decls
  pub apart : are_distinct (map variable_of decls) ≡ true
  pub no_global : AllByRecursion (λ d. is_among globals (variable_of d) ≡ false) decls
