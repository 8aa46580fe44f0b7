-- The typing rules of sequential programs.
use Rattle.std.specs.Prelude.{◌≡◌, Bool, false, true, ◌||◌, List, [], ◌∷◌}
use Rattle.std.specs.List.{AllByRecursion}
use Rattle.brisk_values.specs.declared.value.Kind.{Kind}
use Rattle.brisk_values.specs.declared.value.Kind.TheVariants as kind
use Rattle.brisk_values.specs.Names.{Name}
use Rattle.brisk_syntax.specs.declared.program.Decl.{Decl}
use Rattle.brisk_syntax.specs.Declarations.{role_named, decls_of}
use Rattle.brisk_syntax.specs.Syntax.{Expression}
use Rattle.brisk_syntax.specs.Typing.{is_among, are_distinct, is_set, is_single, Scope, scope, HasKind, HaveKinds, AreDeclared, global_names, HasDistinctTags, AreDeclsWellTyped}
use Rattle.brisk_seq.specs.declared.tree.SeqProgram.{SeqProgram}
use Rattle.brisk_seq.specs.Items.{Item, Pass, Fill, Take, If, While, For, ForAny, Pick, Repeat, Items, nothing, ◌⨟◌}

-- the name stands for a process: it is a single role, or a set in focus
abbrev pub is_process : SeqProgram → List Name → Name → Bool
is_process Q focus p = is_single Q.roles p || is_among focus p

-- the variables of a process
abbrev pub decls_at : SeqProgram → Name → List Decl
decls_at Q p = decls_of (role_named Q.roles p)

-- what the expressions of a process may name
abbrev pub scope_at : SeqProgram → Name → Scope
scope_at Q p = scope Q.enums Q.roles (decls_at Q p)

-- the expressions of a process are well typed, each of some kind
abbrev pub AreWellTyped : SeqProgram → Name → List Expression → Type 0
AreWellTyped Q p es = (ks : List Kind) × HaveKinds (scope_at Q p) es ks

-- the variables of a process are declared and differ
abbrev pub AreVariables : SeqProgram → Name → List Name → Type 0
AreVariables Q p xs = ((ks : List Kind) × AreDeclared (decls_at Q p) xs ks) × (are_distinct xs ≡ true)

-- the set may come into focus: it isn't in focus yet
abbrev pub CanFocus : SeqProgram → List Name → Name → Type 0
CanFocus Q focus s = (is_set Q.roles s ≡ true) × (is_among focus s ≡ false)

-- the item, or the items, are well typed where these sets are in focus
abbrev mutual
  pub IsItemWellTyped : SeqProgram → List Name → Item → Type 0
  IsItemWellTyped Q focus (Pass to xs from es) =
      (is_process Q focus to ≡ true) × (is_process Q focus from ≡ true) × (are_distinct xs ≡ true)
      × (ks : List Kind) × AreDeclared (decls_at Q to) xs ks × HaveKinds (scope_at Q from) es ks
  IsItemWellTyped Q focus (Fill n from to es) =
      (is_process Q focus from ≡ true) × (is_process Q focus to ≡ true) × AreWellTyped Q from es
  IsItemWellTyped Q focus (Take to xs n from) =
      (is_process Q focus to ≡ true) × (is_process Q focus from ≡ true) × AreVariables Q to xs
  IsItemWellTyped Q focus (If p e a b) =
      (is_process Q focus p ≡ true) × HasKind (scope_at Q p) e kind.Bool × AreItemsWellTyped Q focus a × AreItemsWellTyped Q focus b
  IsItemWellTyped Q focus (While p e b) = (is_process Q focus p ≡ true) × HasKind (scope_at Q p) e kind.Bool × AreItemsWellTyped Q focus b
  IsItemWellTyped Q focus (For s b) = CanFocus Q focus s × AreItemsWellTyped Q (s ∷ focus) b
  IsItemWellTyped Q focus (ForAny s b) = CanFocus Q focus s × AreItemsWellTyped Q (s ∷ focus) b
  IsItemWellTyped Q focus (Pick s b) = CanFocus Q focus s × AreItemsWellTyped Q (s ∷ focus) b
  IsItemWellTyped Q focus (Repeat s b) = (is_set Q.roles s ≡ true) × AreItemsWellTyped Q focus b

  pub AreItemsWellTyped : SeqProgram → List Name → Items → Type 0
  AreItemsWellTyped Q focus nothing = Unit {0}
  AreItemsWellTyped Q focus (q ⨟ b) = IsItemWellTyped Q focus q × AreItemsWellTyped Q focus b

-- the names of a sequential program that are known everywhere
abbrev pub globals : SeqProgram → List Name
globals Q = global_names Q.enums [] Q.roles

-- the sequential program is well typed: its names differ, its declarations are well typed, and so are its items
pub record IsSeqWellTyped (Q : SeqProgram) : Type 0 where
  pub names : are_distinct (globals Q) ≡ true
  pub tags : AllByRecursion HasDistinctTags Q.enums
  pub roles : AllByRecursion (λ r. AreDeclsWellTyped Q.enums (globals Q) r.decls) Q.roles
  pub body : AreItemsWellTyped Q [] Q.body
