-- What soundness asks of types holds in every state of an instance that fits a well-typed program.
use Rattle.std.proofs.Common.{◌≡◌, ℕ, true, false, List, [], ◌∷◌, map, Option, Some, None, refl, sym, ap, ◌∙◌, subst}
use Rattle.std.specs.List.{AllByRecursion}
use Rattle.std.specs.Prelude.{Bool, ◌&&◌, if◌then◌else◌, nat_lt}
use Rattle.std.proofs.lemmas.Option.{same_Some}
use Rattle.brisk_values.specs.declared.operation.Op1.TheVariants.{Not}
use Rattle.brisk_values.specs.declared.operation.Op2.TheVariants.{And, Or, Ne}
use Rattle.brisk_values.specs.declared.value.Kind.{Kind}
use Rattle.brisk_values.specs.declared.value.Kind.TheVariants as kind
use Rattle.brisk_values.specs.declared.value.Pid.{Pid}
use Rattle.brisk_values.specs.declared.value.Value.{Value}
use Rattle.brisk_values.specs.declared.value.Value.TheVariants as value
use Rattle.brisk_values.specs.Names.{Name}
use Rattle.brisk_values.specs.Values.{kind_of, same_kind}
use Rattle.brisk_values.proofs.Changes.{name_laws}
use Rattle.brisk_syntax.specs.declared.program.Program.{Program}
use Rattle.brisk_syntax.specs.Declarations.{kind_in, role_named, decls_of}
use Rattle.brisk_syntax.specs.Instance.{Instance, with_member, processes, set_sizes}
use Rattle.brisk_syntax.specs.Roles.{RoleText}
use Rattle.brisk_syntax.specs.Stores.{is_true}
use Rattle.brisk_syntax.specs.Syntax.{Expression, Paren, Un, Bin, Statement, If, IfElse, While, done, ◌⨾◌, Code}
use Rattle.brisk_syntax.specs.Typing.{Scope, HasKind}
use Rattle.brisk_syntax.specs.Value.{value_of}
use Rattle.brisk_seq.specs.Sequential.{Focus, Given, is_of_kind, are_of_kinds}
use Rattle.brisk_async.specs.Kinds.{HasItsKinds, receive_of, CodeKeepsKinds, KeepsKinds, scope_at, decls_at}
use Rattle.brisk_async.specs.Machine.{Payload, payload_at, queue}
use Rattle.brisk_async.proofs.Expressions.{AreKinded, value_kind, bool_is}
use Rattle.brisk_async.proofs.Kinded.{run_keeps, named_keeps, head_finds}
use Rattle.brisk_sound.proofs.Fits.{World, Conf}
use Rattle.brisk_sound.proofs.Learn.{Sane, learn_agrees}
use Rattle.brisk_sound.proofs.Leads.{state}
use Rattle.brisk_sound.proofs.Sound.{Typing, guard_of}

-- what an instance gives to a run of a program with the roles of P
abbrev pub given_in : Program → Instance → Given
given_in P i = record { sizes = set_sizes P.roles i; kind = λ n. kind_in (decls_of (role_named P.roles n)) }

abbrev pub world_of : Program → Instance → World
world_of P i = record { program = P; given = given_in P i }

same_kinds : (k : Kind) → same_kind k k ≡ true
same_kinds kind.Int = refl
same_kinds kind.Bool = refl
same_kinds (kind.Enum e) = name_laws.refl e

is_its_kind : (o : Option Kind) (v : Value) → o ≡ Some (kind_of v) → is_of_kind o v ≡ true
is_its_kind None v e = cc
is_its_kind (Some k) v e = ap (λ j. same_kind j (kind_of v)) (same_Some k (kind_of v) e) ∙ same_kinds (kind_of v)

their_kinds : (kinds : Name → Option Kind) (xs : List Name) (m : Payload) → map kinds xs ≡ map (λ v. Some (kind_of v)) m → are_of_kinds kinds xs m ≡ true
their_kinds kinds [] [] e = refl
their_kinds kinds [] (v ∷ m) e = cc
their_kinds kinds (x ∷ xs) [] e = cc
their_kinds kinds (x ∷ xs) (v ∷ m) e =
    let first : kinds x ≡ Some (kind_of v) = cc in let rest : map kinds xs ≡ map (λ v. Some (kind_of v)) m = cc in
    λ i. is_its_kind (kinds x) v first i && their_kinds kinds xs m rest i

-- the kinds of a process are those of its role
role_kinds : (P : Program) (i : Instance) (p : Pid) (xs : List Name) (m : Payload) → map (kind_in (decls_at P i p)) xs ≡ map (λ v. Some (kind_of v)) m →
    are_of_kinds (kind_in (decls_of (role_named P.roles p.role))) xs m ≡ true
role_kinds P i p xs m = by (role_named P.roles p.role)
  where
    none : (kinds : Name → Option Kind) (xs : List Name) (m : Payload) → map (kind_in []) xs ≡ map (λ v. Some (kind_of v)) m → are_of_kinds kinds xs m ≡ true
    none kinds [] [] e = refl
    none kinds [] (v ∷ m) e = cc
    none kinds (x ∷ xs) [] e = cc
    none kinds (x ∷ xs) (v ∷ m) e = absurd (let first : ◌≡◌ {A = Option Kind} None (Some (kind_of v)) = cc in cc)

    by : (o : Option RoleText) → map (kind_in (decls_of (with_member i p.member o))) xs ≡ map (λ v. Some (kind_of v)) m → are_of_kinds (kind_in (decls_of o)) xs m ≡ true
    by None e = none (kind_in []) xs m e
    by (Some r) e =
        elim (nat_lt p.member (processes i r)) as (λ b. map (kind_in (decls_of (if b then Some r else None))) xs ≡ map (λ v. Some (kind_of v)) m → are_of_kinds (kind_in r.decls) xs m ≡ true) [
          | true ↦ their_kinds (kind_in r.decls) xs m
          | false ↦ none (kind_in r.decls) xs m
        ] e

-- the first payload is as all are
first_of_all : (Q : Payload → Type 0) (ms : List Payload) (m : Payload) → AllByRecursion Q ms → payload_at ms 0 ≡ Some m → Q m
first_of_all Q [] m a e = cc
first_of_all Q (n ∷ ms) m a e = subst Q (same_Some n m e) a.0

module _ (sizes : Name → ℕ) (names : Scope) (own : Name → Option Value) (kinded : AreKinded names own) where
  is_bool : (e : Expression) → HasKind names e kind.Bool → (b : Bool) × (value_of sizes own e ≡ value.Bool b)
  is_bool e h = bool_is (value_of sizes own e) (value_kind sizes names own kinded e kind.Bool h)

  -- the operands of a well typed expression have the kinds that learning asks for
  sane : (e : Expression) (k : Kind) → HasKind names e k → Sane sizes own e
  sane (Paren e) k h = sane e k h
  sane (Un Not e) k h = (sane e kind.Bool h.1, is_bool e h.1)
  sane (Bin And e f) k h = (sane e kind.Bool h.1, sane f kind.Bool h.2, is_bool e h.1, is_bool f h.2)
  sane (Bin Or e f) k h = (sane e kind.Bool h.1, sane f kind.Bool h.2, is_bool e h.1, is_bool f h.2)
  sane (Bin Ne e f) k h = (λ i. same_kind (value_kind sizes names own kinded e h.1 h.2 i) (value_kind sizes names own kinded f h.1 h.3 i)) ∙ same_kinds h.1
  sane e k h = tt

  -- the truth of a guard is its value
  true_is : (e : Expression) (b : Bool) → HasKind names e kind.Bool → is_true (value_of sizes own e) ≡ b → value_of sizes own e ≡ value.Bool b
  true_is e b h t = let v = is_bool e h in v.1 ∙ ap value.Bool (sym (ap is_true v.1) ∙ t)

guard_kind : (P : Program) (i : Instance) (p : Pid) (s : Statement) (e : Expression) → guard_of s ≡ Some e → KeepsKinds P.channels (scope_at P i p) s → HasKind (scope_at P i p) e kind.Bool
guard_kind P i p (If f a) e g t = subst (λ (z : Expression). HasKind (scope_at P i p) z kind.Bool) (same_Some f e g) t.0
guard_kind P i p (IfElse f a b) e g t = subst (λ (z : Expression). HasKind (scope_at P i p) z kind.Bool) (same_Some f e g) t.0
guard_kind P i p (While f b) e g t = subst (λ (z : Expression). HasKind (scope_at P i p) z kind.Bool) (same_Some f e g) t.0
guard_kind P i p s e g t = cc

pub typing : (P : Program) (i : Instance) → Typing (world_of P i)
typing P i = record {
  IsTyped = λ c. HasItsKinds P i (state (world_of P i) c);
  runs = λ c d es h r. run_keeps P i (state (world_of P i) c) (state (world_of P i) d) es h r;
  finds = λ c p q C xs u k m h is at.
      role_kinds P i p xs m
      (first_of_all (λ m. map (kind_in (decls_at P i p)) xs ≡ map (λ v. Some (kind_of v)) m) (c.mail (queue q p C)) m
      (head_finds P i (state (world_of P i) c) h p C xs (ap receive_of is) (queue q p C) refl) at);
  learns = λ c p s k e f b h is g agrees t.
      let keeps : CodeKeepsKinds P.channels (scope_at P i p) (s ⨾ k) = subst (CodeKeepsKinds P.channels (scope_at P i p)) is (h.left p) in
      let guard = guard_kind P i p s e g keeps.0 in
      learn_agrees (given_in P i).sizes (c.store p) f e b agrees (sane (given_in P i).sizes (scope_at P i p) (c.store p) (h.stored p) e kind.Bool guard)
      (true_is (given_in P i).sizes (scope_at P i p) (c.store p) (h.stored p) e b guard t);
  Behind = λ κ φ. (p : Pid) → κ p ≡ done;
  named = λ c p a w h is inside. named_keeps P i (state (world_of P i) c) a p w is h;
}

-- a state whose values have their kinds is as soundness asks
pub is_typed : (P : Program) (i : Instance) (c : Conf) → HasItsKinds P i (state (world_of P i) c) → (typing P i).IsTyped c
unfolding typing
is_typed P i c h = h

-- and nothing stands behind
pub still_none : (P : Program) (i : Instance) (κ : Pid → Code) (φ : Focus) → (typing P i).Behind κ φ → (p : Pid) → κ p ≡ done
unfolding typing
still_none P i κ φ h = h

pub none_still : (P : Program) (i : Instance) (κ : Pid → Code) (φ : Focus) → ((p : Pid) → κ p ≡ done) → (typing P i).Behind κ φ
unfolding typing
none_still P i κ φ h = h
