-- The typing rules of programs.
use Rattle.std.specs.Prelude.{◌≡◌, Bool, false, true, ◌&&◌, ◌||◌, not, List, [], ◌∷◌, ◌++◌, map, Some, nat_eq}
use Rattle.std.specs.List.{AllByRecursion, list_all}
use Rattle.brisk_values.specs.declared.value.Kind.{Kind}
use Rattle.brisk_values.specs.declared.value.Kind.TheVariants as kind
use Rattle.brisk_values.specs.Names.{Name, same_name}
use Rattle.brisk_syntax.specs.declared.program.Program.{Program}
use Rattle.brisk_syntax.specs.declared.tree.Who.{Who}
use Rattle.brisk_syntax.specs.declared.tree.Who.TheVariants as who
use Rattle.brisk_syntax.specs.Declarations.{kind_in, kinds_on, variable_of}
use Rattle.brisk_syntax.specs.Roles.{RoleText}
use Rattle.brisk_syntax.specs.Syntax.{Expression, Statement, Assign, Send, Recv, RecvAny, If, IfElse, While, For, Repeat, Code, done, ◌⨾◌}
use Rattle.brisk_syntax.specs.Typing.{is_among, are_distinct, is_set, is_single, Scope, scope, HasKind, HaveKinds, AreDeclared, is_kind, global_names, HasDistinctTags, AreDeclsWellTyped}

-- the names of a program that are known everywhere
abbrev pub globals : Program → List Name
globals P = global_names P.enums P.channels P.roles

-- what the expressions of a role may name
abbrev pub scope_in : Program → RoleText → Scope
scope_in P r = scope P.enums P.roles r.decls

-- the partner is a binder in scope, or a single role that isn't the sender's or receiver's own
abbrev pub is_partner : Program → RoleText → List Name → Who → Bool
is_partner P r binders (who.Name n) = is_among binders n || (is_single P.roles n && not (same_name n r.name))
is_partner P r binders u = false

-- the name is that of a set, and not of the own one
abbrev pub is_other_set : Program → RoleText → Name → Bool
is_other_set P r s = is_set P.roles s && not (same_name s r.name)

-- the name may be a new binder: it differs from the binders in scope, from the variables and from the global names
abbrev pub is_fresh : Program → RoleText → List Name → Name → Bool
is_fresh P r binders v = not (is_among (binders ++ map variable_of r.decls ++ globals P) v)

-- the expressions are of the channel's kinds
abbrev pub CanSend : Program → RoleText → Name → List Expression → Type 0
CanSend P r c es = (ks : List Kind) × (kinds_on P.channels c ≡ Some ks) × HaveKinds (scope_in P r) es ks

-- the variables differ and are of the channel's kinds
abbrev pub CanReceive : Program → RoleText → Name → List Name → Type 0
CanReceive P r c xs = (ks : List Kind) × (kinds_on P.channels c ≡ Some ks) × AreDeclared r.decls xs ks × (are_distinct xs ≡ true)

-- the statement, or the code, of a role is well typed where these binders are in scope
abbrev mutual
  pub IsWellTyped : Program → RoleText → List Name → Statement → Type 0
  IsWellTyped P r binders (Assign x e) = (k : Kind) × (kind_in r.decls x ≡ Some k) × HasKind (scope_in P r) e k
  IsWellTyped P r binders (Send c es u) = CanSend P r c es × (is_partner P r binders u ≡ true)
  IsWellTyped P r binders (Recv c xs u) = CanReceive P r c xs × (is_partner P r binders u ≡ true)
  IsWellTyped P r binders (RecvAny c xs v s b) =
      CanReceive P r c xs × (is_other_set P r s ≡ true) × (is_fresh P r binders v ≡ true) × IsCodeWellTyped P r (v ∷ binders) b
  IsWellTyped P r binders (If e a) = HasKind (scope_in P r) e kind.Bool × IsCodeWellTyped P r binders a
  IsWellTyped P r binders (IfElse e a b) =
      HasKind (scope_in P r) e kind.Bool × IsCodeWellTyped P r binders a × IsCodeWellTyped P r binders b
  IsWellTyped P r binders (While e b) = HasKind (scope_in P r) e kind.Bool × IsCodeWellTyped P r binders b
  IsWellTyped P r binders (For v s k b) = (is_other_set P r s ≡ true) × (is_fresh P r binders v ≡ true) × IsCodeWellTyped P r (v ∷ binders) b
  IsWellTyped P r binders (Repeat s k b) = (is_other_set P r s ≡ true) × IsCodeWellTyped P r binders b

  pub IsCodeWellTyped : Program → RoleText → List Name → Code → Type 0
  IsCodeWellTyped P r binders done = Unit {0}
  IsCodeWellTyped P r binders (s ⨾ c) = IsWellTyped P r binders s × IsCodeWellTyped P r binders c

-- the role's declarations are well typed, and so is its code with no binder in scope
pub record IsRoleWellTyped (P : Program) (r : RoleText) : Type 0 where
  pub decls : AreDeclsWellTyped P.enums (globals P) r.decls
  pub code : IsCodeWellTyped P r [] r.code

-- the program is well typed: its names differ, the kinds of its channels are declared, and its roles are well typed
pub record IsProgramWellTyped (P : Program) : Type 0 where
  pub names : are_distinct (globals P) ≡ true
  pub tags : AllByRecursion HasDistinctTags P.enums
  pub channels : AllByRecursion (λ c. AllByRecursion (λ k. is_kind P.enums k ≡ true) c.kinds) P.channels
  pub roles : AllByRecursion (IsRoleWellTyped P) P.roles

-- each loop of the code is at turn 0, as in every program that is read
abbrev mutual
  pub is_unbegun : Statement → Bool
  is_unbegun (Assign x e) = true
  is_unbegun (Send c es u) = true
  is_unbegun (Recv c xs u) = true
  is_unbegun (RecvAny c xs v s b) = all_unbegun b
  is_unbegun (If e a) = all_unbegun a
  is_unbegun (IfElse e a b) = all_unbegun a && all_unbegun b
  is_unbegun (While e b) = all_unbegun b
  is_unbegun (For v s k b) = nat_eq k 0 && all_unbegun b
  is_unbegun (Repeat s k b) = nat_eq k 0 && all_unbegun b

  pub all_unbegun : Code → Bool
  all_unbegun done = true
  all_unbegun (s ⨾ c) = is_unbegun s && all_unbegun c

-- each loop of the program is at turn 0
abbrev pub is_program_unbegun : Program → Bool
is_program_unbegun P = list_all (λ r. all_unbegun r.code) P.roles
