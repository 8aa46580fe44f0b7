-- The start of an instance that fits a well-typed program has its kinds.
use Rattle.std.proofs.Common.{◌≡◌, true, false, List, [], ◌∷◌, Some, refl, sym, ap, subst}
use Rattle.std.specs.List.{AllByRecursion}
use Rattle.std.specs.Prelude.{if◌then◌else◌, option_map}
use Rattle.std.proofs.lemmas.Bool.{ltb-true}
use Rattle.brisk_values.specs.declared.value.Kind.{Kind}
use Rattle.brisk_values.specs.declared.value.Kind.TheVariants as kind
use Rattle.brisk_values.specs.declared.value.Pid.{Pid}
use Rattle.brisk_values.specs.declared.value.Value.{Value}
use Rattle.brisk_values.specs.declared.value.Value.TheVariants as value
use Rattle.brisk_values.specs.Names.{Name, same_name, member}
use Rattle.brisk_values.specs.Values.{kind_of}
use Rattle.brisk_values.proofs.Changes.{exact_name}
use Rattle.brisk_syntax.specs.declared.program.Const.{Const}
use Rattle.brisk_syntax.specs.declared.program.Const.TheVariants as constant
use Rattle.brisk_syntax.specs.declared.program.Decl.{Decl}
use Rattle.brisk_syntax.specs.declared.program.Decl.TheVariants.{Var, Input}
use Rattle.brisk_syntax.specs.declared.program.EnumDecl.{EnumDecl}
use Rattle.brisk_syntax.specs.declared.program.Program.{Program}
use Rattle.brisk_syntax.specs.Declarations.{constant_value, kind_in, decls_of, code_in}
use Rattle.brisk_syntax.specs.Instance.{Instance, IsOfKind, InputFits, RoleFits, Fits, first_value}
use Rattle.brisk_syntax.specs.Roles.{RoleText}
use Rattle.brisk_syntax.specs.Syntax.{Statement, Assign, Send, Recv, RecvAny, If, IfElse, While, For, Repeat, Code, done, ◌⨾◌}
use Rattle.brisk_syntax.specs.Typing.{scope, ConstantHasKind, IsDeclWellTyped}
use Rattle.brisk_syntax.specs.WellTyped.{IsWellTyped, IsCodeWellTyped, IsRoleWellTyped, IsProgramWellTyped, scope_in}
use Rattle.brisk_async.specs.Kinds.{KeepsKinds, CodeKeepsKinds, HasItsKinds, KindsHold}
use Rattle.brisk_async.specs.Machine.{start}
use Rattle.brisk_async.proofs.Kinded.{step_keeps, run_keeps, named_keeps, head_finds}
use Rattle.brisk_async.proofs.Members.{role_cases}

-- well-typed code keeps to its kinds
mutual
  statement_typed : (P : Program) (r : RoleText) (binders : List Name) (s : Statement) → IsWellTyped P r binders s →
      KeepsKinds P.channels (scope_in P r) s
  statement_typed P r binders (Assign x e) t = t
  statement_typed P r binders (Send c es u) t = t.0
  statement_typed P r binders (Recv c xs u) t = (t.0.0, t.0.1, t.0.2)
  statement_typed P r binders (RecvAny c xs v s b) t = ((t.0.0, t.0.1, t.0.2), code_typed P r (v ∷ binders) b t.3)
  statement_typed P r binders (If e a) t = (t.0, code_typed P r binders a t.1)
  statement_typed P r binders (IfElse e a b) t = (t.0, code_typed P r binders a t.1, code_typed P r binders b t.2)
  statement_typed P r binders (While e b) t = (t.0, code_typed P r binders b t.1)
  statement_typed P r binders (For v s k b) t = code_typed P r (v ∷ binders) b t.2
  statement_typed P r binders (Repeat s k b) t = code_typed P r binders b t.1

  code_typed : (P : Program) (r : RoleText) (binders : List Name) (c : Code) → IsCodeWellTyped P r binders c →
      CodeKeepsKinds P.channels (scope_in P r) c
  code_typed P r binders done t = tt
  code_typed P r binders (s ⨾ c) t = (statement_typed P r binders s t.0, code_typed P r binders c t.1)

constant_kind : (enums : List EnumDecl) (c : Const) (k : Kind) → ConstantHasKind enums c k → kind_of (constant_value c) ≡ k
constant_kind enums (constant.Num true n) k h = sym h
constant_kind enums (constant.Num false n) k h = sym h
constant_kind enums (constant.Bool b) k h = sym h
constant_kind enums (constant.Tag e t) k h = sym h.0

value_kind : (enums : List EnumDecl) (k : Kind) (v : Value) → IsOfKind enums k v → kind_of v ≡ k
value_kind enums kind.Int (value.Int n) h = refl
value_kind enums kind.Bool (value.Bool b) h = refl
value_kind enums (kind.Enum e) (value.Tag f t) h = ap kind.Enum (sym h.0)
value_kind enums k v h = absurd h

-- each variable starts with a value of its kind
first_kind : (enums : List EnumDecl) (i : Instance) (p : Pid) (ds : List Decl) → AllByRecursion (IsDeclWellTyped enums) ds →
    AllByRecursion (InputFits enums i p) ds → (x : Name) → option_map kind_of (first_value i p ds x) ≡ kind_in ds x
first_kind enums i p [] t f x = refl
first_kind enums i p (Var y k c ∷ ds) t f x =
    elim (same_name x y) as (λ b. option_map kind_of (if b then Some (constant_value c) else first_value i p ds x) ≡ (if b then Some k else kind_in ds x))
    [ true ↦ ap Some (constant_kind enums c k t.0.1) | false ↦ first_kind enums i p ds t.1 f.1 x ]
first_kind enums i p (Input y k ∷ ds) t f x =
    elim (same_name x y) as (λ b. option_map kind_of (if b then Some (i.input p y) else first_value i p ds x) ≡ (if b then Some k else kind_in ds x))
    [ true ↦ ap Some (value_kind enums k (i.input p y) f.0) | false ↦ first_kind enums i p ds t.1 f.1 x ]

both_all : {X : Type 0} (P Q : X → Type 0) (xs : List X) → AllByRecursion P xs → AllByRecursion Q xs → AllByRecursion (λ x. P x × Q x) xs
both_all P Q [] a b = tt
both_all P Q (x ∷ xs) a b = ((a.0, b.0), both_all P Q xs a.1 b.1)

pub start_kinded : (P : Program) (i : Instance) → IsProgramWellTyped P → Fits P i → HasItsKinds P i (start P i)
start_kinded P i typed fits = record {
  stored = λ p.
      role_cases i p (λ r. IsRoleWellTyped P r × RoleFits P.enums i r) (λ o. (x : Name) → option_map kind_of (first_value i p (decls_of o) x) ≡ kind_in (decls_of o) x)
      P.roles (λ x. refl) (both_all (IsRoleWellTyped P) (RoleFits P.enums i) P.roles typed.roles fits)
      (λ r h e g. first_kind P.enums i p r.decls h.0.decls.each (subst (λ (z : Pid). AllByRecursion (InputFits P.enums i z) r.decls) (same p r e) (h.1.1 p.member (ltb-true p.member _ g))));
  sent = λ q. tt;
  left = λ p.
      role_cases i p (IsRoleWellTyped P) (λ o. CodeKeepsKinds P.channels (scope P.enums P.roles (decls_of o)) (code_in o)) P.roles tt typed.roles
      (λ r h e g. code_typed P r [] r.code h.code);
}
  where
    same : (p : Pid) (r : RoleText) → same_name p.role r.name ≡ true → member r.name p.member ≡ p
    same p r e = λ j. record { role = sym (exact_name p.role r.name e) j; member = p.member }

pub kinds_hold : KindsHold
kinds_hold = record {
  at_start = start_kinded;
  kept = step_keeps;
  where_named = named_keeps;
  found = head_finds;
  reachable = λ P i s typed fits reached. run_keeps P i (start P i) s reached.0 (start_kinded P i typed fits) reached.1;
}
