-- Where a derivation starts: the initial state reads as the roles are written, and it is tidy.
use Rattle.std.proofs.Common.{◌≡◌, Bool, true, false, List, [], ◌∷◌, ◌++◌, map, Option, Some, None, refl, sym, ap, ◌∙◌, subst, arith}
use Rattle.std.specs.List.{AllByRecursion, list_any}
use Rattle.std.specs.Prelude.{if◌then◌else◌, ◌&&◌, ◌||◌, ◌≤◌, not, nat_lt, option_map}
use Rattle.std.proofs.lemmas.Bool.{lt-ltb, not-true}
use Rattle.std.proofs.lemmas.Option.{same_Some}
use Rattle.brisk_values.specs.declared.value.Pid.{Pid}
use Rattle.brisk_values.specs.declared.value.Value.{Value}
use Rattle.brisk_values.specs.Functions.{changed}
use Rattle.brisk_values.specs.Names.{Name, same_name}
use Rattle.brisk_values.proofs.Changes.{name_laws, exact_name, both_true}
use Rattle.brisk_syntax.specs.declared.program.Decl.{Decl}
use Rattle.brisk_syntax.specs.declared.program.Decl.TheVariants as decl
use Rattle.brisk_syntax.specs.declared.program.Program.{Program}
use Rattle.brisk_syntax.specs.declared.tree.Who.{Who}
use Rattle.brisk_syntax.specs.declared.tree.Who.TheVariants as who
use Rattle.brisk_syntax.specs.Declarations.{constant_value, role_named, decls_of, variable_of}
use Rattle.brisk_syntax.specs.Declarations as declarations
use Rattle.brisk_syntax.specs.Instance.{Instance, Fits, RoleFits, processes, set_size, set_sizes, first_value}
use Rattle.brisk_syntax.specs.Roles.{RoleText}
use Rattle.brisk_syntax.specs.Syntax.{Statement, Assign, Send, Recv, RecvAny, If, IfElse, While, For, Repeat, Code, done, ◌⨾◌}
use Rattle.brisk_syntax.specs.Typing.{is_among, are_distinct}
use Rattle.brisk_syntax.specs.WellTyped.{is_partner, IsWellTyped, IsCodeWellTyped, IsRoleWellTyped, IsProgramWellTyped}
use Rattle.brisk_seq.specs.Sequential.{Focus}
use Rattle.brisk_facts.specs.Facts.{Facts, fact, with_fact}
use Rattle.brisk_state.specs.declared.thread.Mode.{Mode}
use Rattle.brisk_state.specs.declared.thread.Mode.TheVariants.{One, Each}
use Rattle.brisk_state.specs.Symbolic.{thread_named, first_thread, first_facts, all_first_facts, initial}
use Rattle.brisk_rules.specs.Rules.{mode_of, code_in, is_nonempty}
use Rattle.brisk_sound.proofs.Fine.{Fine, typed_fine}
use Rattle.brisk_sound.proofs.Free.{FreeWho, FreeStatement, Free}
use Rattle.brisk_sound.proofs.Kept.{Tidy, is_set_mode, decls_by}
use Rattle.brisk_sound.proofs.Lookups.{one_value}
use Rattle.brisk_rules.proofs.Readings.{reading, who_by, statement_by, code_by}
use Rattle.brisk_syntax.proofs.Codes.{distinct_later}

-- the first thread of a role
first_named : (roles : List RoleText) (u : Name) → thread_named (map first_thread roles) u ≡ option_map first_thread (role_named roles u)
first_named [] u = refl
first_named (r ∷ rs) u =
    elim (same_name u r.name) as (λ b. (if b then Some (first_thread r) else thread_named (map first_thread rs) u) ≡ option_map first_thread (if b then Some r else role_named rs u)) [ true ↦ refl | false ↦ first_named rs u ]

-- the mode of a role's first thread
abbrev pub role_mode : Option RoleText → Option Mode
role_mode None = None
role_mode (Some r) = Some (if r.many then Each else One)

pub first_mode : (P : Program) (u : Name) → (reading (initial P)).mode u ≡ role_mode (role_named P.roles u)
first_mode P u = ap mode_of (first_named P.roles u) ∙ by (role_named P.roles u)
  where
    by : (o : Option RoleText) → mode_of (option_map first_thread o) ≡ role_mode o
    by None = refl
    by (Some r) = refl

pub first_code : (P : Program) (u : Name) → (reading (initial P)).code u ≡ declarations.code_in (role_named P.roles u)
first_code P u = ap code_in (first_named P.roles u) ∙ by (role_named P.roles u)
  where
    by : (o : Option RoleText) → code_in (option_map first_thread o) ≡ declarations.code_in o
    by None = refl
    by (Some r) = refl

pub roles_distinct : (P : Program) → IsProgramWellTyped P → are_distinct (map (λ (r : RoleText). r.name) P.roles) ≡ true
roles_distinct P typed = distinct_later (map (λ e. e.name) P.enums ++ map (λ c. c.name) P.channels) (map (λ (r : RoleText). r.name) P.roles) typed.names

-- a name that no role has
none_named : (roles : List RoleText) (u : Name) → is_among (map (λ (r : RoleText). r.name) roles) u ≡ false → role_named roles u ≡ None
none_named [] u e = refl
none_named (r ∷ rs) u e =
    elim (same_name u r.name) as (λ b. (b || is_among (map (λ (r : RoleText). r.name) rs) u) ≡ false → (if b then Some r else role_named rs u) ≡ None) [ true ↦ λ g. cc | false ↦ none_named rs u ] e

-- what is so of some role of a name is so of the one that the name finds, since names differ
pub the_named : (roles : List RoleText) (s : Name) (test : RoleText → Bool) → are_distinct (map (λ (r : RoleText). r.name) roles) ≡ true → ((r : RoleText) → test r ≡ true → same_name s r.name ≡ true) →
    list_any test roles ≡ true → (r : RoleText) × (role_named roles s ≡ Some r) × (test r ≡ true)
the_named [] s test d its e = cc
the_named (r ∷ rs) s test d its e =
    let h = both_true (not (is_among (map (λ (r : RoleText). r.name) rs) r.name)) (are_distinct (map (λ (r : RoleText). r.name) rs)) d in
    elim (test r) as (λ b. test r ≡ b → (b || list_any test rs) ≡ true → (q : RoleText) × ((if same_name s r.name then Some r else role_named rs s) ≡ Some q) × (test q ≡ true)) [
      | true ↦ λ t g. (r, ap (λ b. if b then Some r else role_named rs s) (its r t), t)
      | false ↦ λ t g.
          let x = the_named rs s test h.1 its g in
          elim (same_name s r.name) as (λ b. same_name s r.name ≡ b → (q : RoleText) × ((if b then Some r else role_named rs s) ≡ Some q) × (test q ≡ true)) [
            | true ↦ λ k. absurd (let n = none_named rs s (ap (is_among (map (λ (r : RoleText). r.name) rs)) (exact_name s r.name k) ∙ not-true _ h.0) in let w = sym n ∙ x.1 in cc)
            | false ↦ λ k. x
          ] refl
    ] refl e

-- what is so of each role is so of the one that a name finds
pub all_named : (Q : RoleText → Type 0) (roles : List RoleText) (s : Name) (r : RoleText) → AllByRecursion Q roles → role_named roles s ≡ Some r → Q r
all_named Q [] s r a e = cc
all_named Q (q ∷ qs) s r a e =
    elim (same_name s q.name) as (λ b. (if b then Some q else role_named qs s) ≡ Some r → Q r) [ true ↦ λ g. subst Q (same_Some q r g) a.0 | false ↦ λ g. all_named Q qs s r a.1 g ] e

-- a nonempty set has a member
pub some_member : (P : Program) (i : Instance) → IsProgramWellTyped P → Fits P i → (s : Name) → is_nonempty P s ≡ true → nat_lt 0 (set_sizes P.roles i s) ≡ true
some_member P i typed fits s e =
    let x = the_named P.roles s (λ r. same_name s r.name && r.many && r.nonempty) (roles_distinct P typed) (λ r t. (both_true (same_name s r.name) r.many (both_true (same_name s r.name && r.many) r.nonempty t).0).0) e in
    let b = both_true (same_name s x.0.name && x.0.many) x.0.nonempty x.2 in
    let many = (both_true (same_name s x.0.name) x.0.many b.0).1 in
    let f = all_named (RoleFits P.enums i) P.roles s x.0 fits x.1 in
    let here : 1 ≤ i.size x.0.name = subst (λ (b : Bool). 1 ≤ (if b then i.size x.0.name else 1)) many (subst (λ (t : Bool). (if t then 1 else 0) ≤ processes i x.0) b.1 f.0) in
    ap (λ o. nat_lt 0 (set_size i o)) x.1 ∙ (λ j. nat_lt 0 (if many j then i.size x.0.name else 0)) ∙ lt-ltb 0 (i.size x.0.name) (omega (arith, here))

-- code without members in focus
abbrev PlainWho : Who → Type 0
PlainWho u = (n : Name) × (u ≡ who.Name n)

partner_plain : (P : Program) (r : RoleText) (binders : List Name) (u : Who) → is_partner P r binders u ≡ true → PlainWho u
partner_plain P r binders (who.Name n) e = (n, refl)
partner_plain P r binders (who.At s) e = cc
partner_plain P r binders (who.Pid p) e = cc

who_plain : (φ : Focus) (u : Who) → PlainWho u → who_by φ u ≡ u
who_plain φ u p = ap (who_by φ) p.1 ∙ sym p.1

free_plain : (s : Name) (u : Who) → PlainWho u → FreeWho s u
free_plain s u p = subst (FreeWho s) (sym p.1) tt

mutual
  statement_plain : (P : Program) (r : RoleText) (binders : List Name) (φ : Focus) (x : Statement) → IsWellTyped P r binders x → statement_by φ x ≡ x
  statement_plain P r binders φ (Assign x e) t = refl
  statement_plain P r binders φ (Send c es u) t = ap (Send c es) (who_plain φ u (partner_plain P r binders u t.1))
  statement_plain P r binders φ (Recv c xs u) t = ap (Recv c xs) (who_plain φ u (partner_plain P r binders u t.1))
  statement_plain P r binders φ (RecvAny c xs v s b) t = ap (RecvAny c xs v s) (code_plain P r (v ∷ binders) φ b t.3)
  statement_plain P r binders φ (If e a) t = ap (If e) (code_plain P r binders φ a t.1)
  statement_plain P r binders φ (IfElse e a b) t = λ i. IfElse e (code_plain P r binders φ a t.1 i) (code_plain P r binders φ b t.2 i)
  statement_plain P r binders φ (While e b) t = ap (While e) (code_plain P r binders φ b t.1)
  statement_plain P r binders φ (For v s k b) t = ap (For v s k) (code_plain P r (v ∷ binders) φ b t.2)
  statement_plain P r binders φ (Repeat s k b) t = ap (Repeat s k) (code_plain P r binders φ b t.1)

  -- a well typed role's code names no member in focus
  code_plain : (P : Program) (r : RoleText) (binders : List Name) (φ : Focus) (k : Code) → IsCodeWellTyped P r binders k → code_by φ k ≡ k
  code_plain P r binders φ done t = refl
  code_plain P r binders φ (x ⨾ k) t = λ i. statement_plain P r binders φ x t.0 i ⨾ code_plain P r binders φ k t.1 i

mutual
  statement_free : (P : Program) (r : RoleText) (binders : List Name) (s : Name) (x : Statement) → IsWellTyped P r binders x → FreeStatement s x
  statement_free P r binders s (Assign x e) t = tt
  statement_free P r binders s (Send c es u) t = free_plain s u (partner_plain P r binders u t.1)
  statement_free P r binders s (Recv c xs u) t = free_plain s u (partner_plain P r binders u t.1)
  statement_free P r binders s (RecvAny c xs v q b) t = code_free P r (v ∷ binders) s b t.3
  statement_free P r binders s (If e a) t = code_free P r binders s a t.1
  statement_free P r binders s (IfElse e a b) t = (code_free P r binders s a t.1, code_free P r binders s b t.2)
  statement_free P r binders s (While e b) t = code_free P r binders s b t.1
  statement_free P r binders s (For v q k b) t = code_free P r (v ∷ binders) s b t.2
  statement_free P r binders s (Repeat q k b) t = code_free P r binders s b t.1

  code_free : (P : Program) (r : RoleText) (binders : List Name) (s : Name) (k : Code) → IsCodeWellTyped P r binders k → Free s k
  code_free P r binders s done t = tt
  code_free P r binders s (x ⨾ k) t = (statement_free P r binders s x t.0, code_free P r binders s k t.1)

-- what is so of each role's code, and of no code, is so of the code that a name finds
code_named : (P : Program) → IsProgramWellTyped P → (C : List Decl → Code → Type 0) → ((ds : List Decl) → C ds done) → ((r : RoleText) → IsCodeWellTyped P r [] r.code → C r.decls r.code) →
    (u : Name) → C (decls_by P u) (declarations.code_in (role_named P.roles u))
code_named P typed C none each u = by (role_named P.roles u) refl
  where
    by : (o : Option RoleText) → role_named P.roles u ≡ o → C (decls_of o) (declarations.code_in o)
    by None e = none []
    by (Some r) e = each r (all_named (IsRoleWellTyped P) P.roles u r typed.roles e).code

pub first_plain : (P : Program) → IsProgramWellTyped P → (φ : Focus) (u : Name) → code_by φ ((reading (initial P)).code u) ≡ (reading (initial P)).code u
first_plain P typed φ u =
    subst (λ (k : Code). code_by φ k ≡ k) (sym (first_code P u)) (code_named P typed (λ ds k. code_by φ k ≡ k) (λ ds. refl) (λ r t. code_plain P r [] φ r.code t) u)

first_free : (P : Program) → IsProgramWellTyped P → (s u : Name) → Free s ((reading (initial P)).code u)
first_free P typed s u = subst (Free s) (sym (first_code P u)) (code_named P typed (λ ds k. Free s k) (λ ds. tt) (λ r t. code_free P r [] s r.code t) u)

-- a derivation starts in a tidy state
pub first_tidy : (P : Program) → IsProgramWellTyped P → Tidy P (reading (initial P))
first_tidy P typed = record {
  fine = λ u. subst (Fine P (decls_by P u)) (sym (first_code P u)) (code_named P typed (Fine P) (λ ds. tt) (λ r t. typed_fine P r [] r.code t) u);
  sets = λ s e.
      let x = the_named P.roles s (λ r. same_name s r.name && r.many) (roles_distinct P typed) (λ r t. (both_true (same_name s r.name) r.many t).0) e in
      ap is_set_mode (first_mode P s ∙ ap role_mode x.1 ∙ (λ i. Some (if (both_true (same_name s x.0.name) x.0.many x.2).1 i then Each else One)));
  unique = record { distinct = λ k. tt; apart = λ n k l h d. refl };
  closed = λ s u e. first_free P typed s u;
  own = λ s h. first_free P typed s s;
}

-- facts of one role are none of another
other_facts : (at : Name) (ds : List Decl) (F : Facts) (u x : Name) → same_name at u ≡ false → fact (first_facts at ds F) u x ≡ fact F u x
other_facts at [] F u x e = refl
other_facts at (decl.Var y k c ∷ ds) F u x e =
    ap (λ (f : Name → Name → Option Value). f u x) (one_value at y (Some (constant_value c)) (first_facts at ds F))
    ∙ ap (λ b. (if b then changed same_name (fact (first_facts at ds F) at) y (Some (constant_value c)) else fact (first_facts at ds F) u) x) e ∙ other_facts at ds F u x e
other_facts at (decl.Input y k ∷ ds) F u x e = other_facts at ds F u x e

no_facts : (roles : List RoleText) (u x : Name) → is_among (map (λ (r : RoleText). r.name) roles) u ≡ false → fact (all_first_facts roles) u x ≡ None
no_facts [] u x e = refl
no_facts (r ∷ rs) u x e =
    elim (same_name u r.name) as (λ b. same_name u r.name ≡ b → (b || is_among (map (λ (r : RoleText). r.name) rs) u) ≡ false → fact (first_facts r.name r.decls (all_first_facts rs)) u x ≡ None) [
      | true ↦ λ k g. cc
      | false ↦ λ k g. other_facts r.name r.decls (all_first_facts rs) u x (name_laws.symm r.name u ∙ k) ∙ no_facts rs u x g
    ] refl e

-- the value known at first is a first value
module _ (i : Instance) (p : Pid) (at : Name) where
  own_fact : (y : Name) (v : Value) (G : Facts) (x : Name) → fact (with_fact at y v G) at x ≡ (if same_name y x then Some v else fact G at x)
  own_fact y v G x =
      ap (λ (f : Name → Name → Option Value). f at x) (one_value at y (Some v) G)
      ∙ ap (λ b. (if b then changed same_name (fact G at) y (Some v) else fact G at) x) (name_laws.refl at)

  undeclared : (ds : List Decl) (F : Facts) (x : Name) → is_among (map variable_of ds) x ≡ false → fact (first_facts at ds F) at x ≡ fact F at x
  undeclared [] F x e = refl
  undeclared (decl.Var y k c ∷ ds) F x e =
      elim (same_name x y) as (λ b. same_name x y ≡ b → (b || is_among (map variable_of ds) x) ≡ false → fact (with_fact at y (constant_value c) (first_facts at ds F)) at x ≡ fact F at x) [
        | true ↦ λ k g. cc
        | false ↦ λ k g. own_fact y (constant_value c) (first_facts at ds F) x ∙ ap (λ b. if b then Some (constant_value c) else fact (first_facts at ds F) at x) (name_laws.symm y x ∙ k) ∙ undeclared ds F x g
      ] refl e
  undeclared (decl.Input y k ∷ ds) F x e =
      elim (same_name x y) as (λ b. (b || is_among (map variable_of ds) x) ≡ false → fact (first_facts at ds F) at x ≡ fact F at x) [ true ↦ λ g. cc | false ↦ λ g. undeclared ds F x g ] e

  declared : (ds : List Decl) (F : Facts) (x : Name) (v : Value) → are_distinct (map variable_of ds) ≡ true → fact F at x ≡ None → fact (first_facts at ds F) at x ≡ Some v → first_value i p ds x ≡ Some v
  declared [] F x v d none e = absurd (let h = sym none ∙ e in cc)
  declared (decl.Var y k c ∷ ds) F x v d none e =
      let h = both_true (not (is_among (map variable_of ds) y)) (are_distinct (map variable_of ds)) d in
      elim (same_name x y) as (λ b. same_name x y ≡ b → (if b then Some (constant_value c) else first_value i p ds x) ≡ Some v) [
        | true ↦ λ k. sym (own_fact y (constant_value c) (first_facts at ds F) x ∙ ap (λ b. if b then Some (constant_value c) else fact (first_facts at ds F) at x) (name_laws.symm y x ∙ k)) ∙ e
        | false ↦ λ k. declared ds F x v h.1 none (sym (own_fact y (constant_value c) (first_facts at ds F) x ∙ ap (λ b. if b then Some (constant_value c) else fact (first_facts at ds F) at x) (name_laws.symm y x ∙ k)) ∙ e)
      ] refl
  declared (decl.Input y k ∷ ds) F x v d none e =
      let h = both_true (not (is_among (map variable_of ds) y)) (are_distinct (map variable_of ds)) d in
      elim (same_name x y) as (λ b. same_name x y ≡ b → (if b then Some (i.input p y) else first_value i p ds x) ≡ Some v) [
        | true ↦ λ k. absurd (let g = undeclared ds F x (ap (is_among (map variable_of ds)) (exact_name x y k) ∙ not-true _ h.0) in let w = sym none ∙ sym g ∙ e in cc)
        | false ↦ λ k. declared ds F x v h.1 none e
      ] refl

known_role : (P : Program) (i : Instance) (p : Pid) (roles : List RoleText) (u x : Name) (v : Value) → are_distinct (map (λ (r : RoleText). r.name) roles) ≡ true → AllByRecursion (IsRoleWellTyped P) roles →
    fact (all_first_facts roles) u x ≡ Some v → first_value i p (decls_of (role_named roles u)) x ≡ Some v
known_role P i p [] u x v d t e = cc
known_role P i p (r ∷ rs) u x v d t e =
    let h = both_true (not (is_among (map (λ (r : RoleText). r.name) rs) r.name)) (are_distinct (map (λ (r : RoleText). r.name) rs)) d in
    elim (same_name u r.name) as (λ b. same_name u r.name ≡ b → first_value i p (decls_of (if b then Some r else role_named rs u)) x ≡ Some v) [
      | true ↦ λ k.
          declared i p r.name r.decls (all_first_facts rs) x v t.0.decls.apart (no_facts rs r.name x (not-true _ h.0)) (ap (λ z. fact (all_first_facts (r ∷ rs)) z x) (sym (exact_name u r.name k)) ∙ e)
      | false ↦ λ k. known_role P i p rs u x v h.1 t.1 (sym (other_facts r.name r.decls (all_first_facts rs) u x (name_laws.symm r.name u ∙ k)) ∙ e)
    ] refl

-- what is known of a role at first is what each of its processes starts with
pub first_known : (P : Program) → IsProgramWellTyped P → (i : Instance) (p : Pid) (u x : Name) (v : Value) → (reading (initial P)).facts u x ≡ Some v → first_value i p (decls_of (role_named P.roles u)) x ≡ Some v
first_known P typed i p u x v e = known_role P i p P.roles u x v (roles_distinct P typed) typed.roles e
