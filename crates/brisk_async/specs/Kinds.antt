-- The kinds of what is stored and sent.
use Rattle.std.specs.Prelude.{◌≡◌, List, map, Option, Some, None, option_map}
use Rattle.std.specs.List.{AllByRecursion}
use Rattle.brisk_values.specs.declared.value.Kind.{Kind}
use Rattle.brisk_values.specs.declared.value.Kind.TheVariants as kind
use Rattle.brisk_values.specs.declared.value.Pid.{Pid}
use Rattle.brisk_values.specs.Names.{Name}
use Rattle.brisk_values.specs.Values.{kind_of}
use Rattle.brisk_syntax.specs.declared.program.Channel.{Channel}
use Rattle.brisk_syntax.specs.declared.program.Decl.{Decl}
use Rattle.brisk_syntax.specs.declared.program.Program.{Program}
use Rattle.brisk_syntax.specs.Declarations.{kind_in, kinds_on, decls_of}
use Rattle.brisk_syntax.specs.Instance.{Instance, Fits, role_of}
use Rattle.brisk_syntax.specs.Syntax.{Statement, Assign, Send, Recv, RecvAny, If, IfElse, While, For, Repeat, Code, done, ◌⨾◌}
use Rattle.brisk_syntax.specs.Typing.{Scope, scope, HasKind, HaveKinds, AreDeclared}
use Rattle.brisk_syntax.specs.WellTyped.{IsProgramWellTyped}
use Rattle.brisk_async.specs.declared.event.Event.{Event}
use Rattle.brisk_async.specs.Laws.{AnyReceive, any_code, named}
use Rattle.brisk_async.specs.Machine.{State, Queue, start, step, Reaches}

-- the declarations of a process, and none where it isn't in the instance
abbrev pub decls_at : Program → Instance → Pid → List Decl
decls_at P i p = decls_of (role_of P.roles i p)

-- what the expressions of a process may name
abbrev pub scope_at : Program → Instance → Pid → Scope
scope_at P i p = scope P.enums P.roles (decls_at P i p)

-- the statement, or the code, stores and sends values of the declared kinds, whatever its partners
abbrev mutual
  pub KeepsKinds : List Channel → Scope → Statement → Type 0
  KeepsKinds channels names (Assign x e) = (k : Kind) × (kind_in names.decls x ≡ Some k) × HasKind names e k
  KeepsKinds channels names (Send c es u) = (ks : List Kind) × (kinds_on channels c ≡ Some ks) × HaveKinds names es ks
  KeepsKinds channels names (Recv c xs u) = (ks : List Kind) × (kinds_on channels c ≡ Some ks) × AreDeclared names.decls xs ks
  KeepsKinds channels names (RecvAny c xs v s b) =
      ((ks : List Kind) × (kinds_on channels c ≡ Some ks) × AreDeclared names.decls xs ks) × CodeKeepsKinds channels names b
  KeepsKinds channels names (If e a) = HasKind names e kind.Bool × CodeKeepsKinds channels names a
  KeepsKinds channels names (IfElse e a b) = HasKind names e kind.Bool × CodeKeepsKinds channels names a × CodeKeepsKinds channels names b
  KeepsKinds channels names (While e b) = HasKind names e kind.Bool × CodeKeepsKinds channels names b
  KeepsKinds channels names (For v s k b) = CodeKeepsKinds channels names b
  KeepsKinds channels names (Repeat s k b) = CodeKeepsKinds channels names b

  pub CodeKeepsKinds : List Channel → Scope → Code → Type 0
  CodeKeepsKinds channels names done = Unit {0}
  CodeKeepsKinds channels names (s ⨾ c) = KeepsKinds channels names s × CodeKeepsKinds channels names c

-- In a state of an instance each variable of each process has a value of its kind, and nothing else has a value; each
-- payload has its channel's kinds; and the code that is left keeps to this.
pub record HasItsKinds (P : Program) (i : Instance) (s : State) : Type 0 where
  pub stored : (p : Pid) (x : Name) → option_map kind_of (s.store p x) ≡ kind_in (decls_at P i p) x
  pub sent : (q : Queue) → AllByRecursion (λ m. kinds_on P.channels q.channel ≡ Some (map kind_of m)) (s.mail q)
  pub left : (p : Pid) → CodeKeepsKinds P.channels (scope_at P i p) (s.code p)

-- the channel and the variables of the receive at which code stands
abbrev pub receive_of : Code → Option (Name × List Name)
receive_of (Recv c xs u ⨾ rest) = Some (c, xs)
receive_of (RecvAny c xs v s b ⨾ rest) = Some (c, xs)
receive_of code = None

-- a process at a receive finds in each queue of the channel payloads of its variables' kinds alone
abbrev pub FindsItsKinds : Program → Instance → State → Type 0
FindsItsKinds P i s =
    (p : Pid) (c : Name) (xs : List Name) → receive_of (s.code p) ≡ Some (c, xs) → (q : Queue) → q.channel ≡ c →
    AllByRecursion (λ m. map (kind_in (decls_at P i p)) xs ≡ map (λ v. Some (kind_of v)) m) (s.mail q)

-- Values and payloads have their kinds in each reachable state of an instance that fits a well-typed program: at the
-- start, after each event, and where a receive from any names its sender.
pub record KindsHold : Type 0 where
  pub at_start : (P : Program) (i : Instance) → IsProgramWellTyped P → Fits P i → HasItsKinds P i (start P i)
  pub kept : (P : Program) (i : Instance) (s t : State) (e : Event) → HasItsKinds P i s → step s e ≡ Some t → HasItsKinds P i t
  pub where_named : (P : Program) (i : Instance) (s : State) (a : AnyReceive) (p w : Pid) → s.code p ≡ any_code a → HasItsKinds P i s →
      HasItsKinds P i (named a p w s)
  pub found : (P : Program) (i : Instance) (s : State) → HasItsKinds P i s → FindsItsKinds P i s
  pub reachable : (P : Program) (i : Instance) (s : State) → IsProgramWellTyped P → Fits P i → Reaches (start P i) s → HasItsKinds P i s
