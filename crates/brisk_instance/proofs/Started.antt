-- The store that is made for an instance is the one in which it starts.
use Rattle.std.proofs.Common.{◌≡◌, ℕ, zero, suc, Bool, true, false, cond, List, [], ◌∷◌, map, Option, Some, None, refl, sym, ap, ◌∙◌, nat_eq}
use Rattle.std.specs.Prelude.{◌&&◌, ◌||◌, not, if◌then◌else◌, nat_lt}
use Rattle.std.specs.List.{AllByRecursion}
use Rattle.std.specs.FinMap as finite
use Rattle.brisk_values.specs.declared.value.Pid.{Pid}
use Rattle.brisk_values.specs.declared.value.Value.{Value}
use Rattle.brisk_values.specs.Names.{Name, member, same_name, same_process}
use Rattle.brisk_values.specs.Places.{Entries, place_cmp, value_in}
use Rattle.brisk_values.proofs.Changes.{both_true, exact_name, exact_process, name_laws}
use Rattle.brisk_values.proofs.Entries.{place_total}
use Rattle.brisk_values.proofs.Stores.{same_place}
use Rattle.brisk_syntax.specs.declared.program.Decl.{Decl}
use Rattle.brisk_syntax.specs.declared.program.Decl.TheVariants as decl
use Rattle.brisk_syntax.specs.Declarations.{decls_of, role_named, variable_of}
use Rattle.brisk_syntax.specs.Instance.{Instance, first_value, processes, set_size, set_sizes, start_store, with_member}
use Rattle.brisk_syntax.specs.Roles.{RoleText}
use Rattle.brisk_syntax.specs.Typing.{are_distinct, is_among}
use Rattle.brisk_syntax.specs.Value.{or_false, size_in}
use Rattle.brisk_instance.specs.Begun.{declared_value, with_members, with_roles, with_values}
use Rattle.brisk_instance.specs.Given.{AreApart, set_names}
use Rattle.brisk_instance.proofs.Apart.{below_next, later_differ, later_distinct, none_below, or_else, or_none, role_names}
use Rattle.std.proofs.lemmas.Bool.{not-true}

if_same : {X : Type 0} (b : Bool) (o : X) → o ≡ (if b then o else o)
if_same true o = refl
if_same false o = refl

or_again : {X : Type 0} (x o : Option X) → or_else x (or_else x o) ≡ or_else x o
or_again None o = refl
or_again (Some x) o = refl

module _ (sizes : Name → ℕ) (given : Entries) where
  abbrev inst : Instance
  inst = record { size = sizes; input = λ p x. or_false (value_in given p x) }

  first_step : (p : Pid) (d : Decl) (ds : List Decl) (y : Name) → first_value inst p (d ∷ ds) y ≡ (if same_name y (variable_of d) then Some (declared_value given p d) else first_value inst p ds y)
  first_step p (decl.Var x k c) ds y = refl
  first_step p (decl.Input x k) ds y = refl

  none_first : (p : Pid) (ds : List Decl) (y : Name) → is_among (map variable_of ds) y ≡ false → first_value inst p ds y ≡ None
  none_first p [] y e = refl
  none_first p (d ∷ ds) y e =
      first_step p d ds y
      ∙ elim (same_name y (variable_of d)) as (λ b. (b || is_among (map variable_of ds) y) ≡ false → (if b then Some (declared_value given p d) else first_value inst p ds y) ≡ None) [
        | true ↦ λ g. cc
        | false ↦ none_first p ds y
      ] e

  -- a process's variables have the values with which they start, where their names differ
  values_of : (p : Pid) (ds : List Decl) → are_distinct (map variable_of ds) ≡ true → (m : Entries) (q : Pid) (y : Name) →
      value_in (with_values given p ds m) q y ≡ (if same_process p q then or_else (first_value inst p ds y) (value_in m q y) else value_in m q y)
  values_of p [] d m q y = if_same (same_process p q) (value_in m q y)
  values_of p (e ∷ ds) d m q y =
      values_of p ds later (finite.insert m (p, variable_of e) (declared_value given p e)) q y
      ∙ ap (λ o. if same_process p q then or_else (first_value inst p ds y) o else o)
      (finite.get-insert place_total m (p, variable_of e) (declared_value given p e) (q, y)
      ∙ ap (λ b. cond b (Some (declared_value given p e)) (value_in m q y)) (same_place p q (variable_of e) y ∙ ap (λ b. same_process p q && b) (name_laws.symm (variable_of e) y)))
      ∙ joined (same_process p q) (same_name y (variable_of e)) refl
      ∙ ap (λ o. if same_process p q then or_else o (value_in m q y) else value_in m q y) (sym (first_step p e ds y))
    where
      later : are_distinct (map variable_of ds) ≡ true
      later = (both_true (not (is_among (map variable_of ds) (variable_of e))) (are_distinct (map variable_of ds)) d).1

      absent : same_name y (variable_of e) ≡ true → first_value inst p ds y ≡ None
      absent t = none_first p ds y (ap (is_among (map variable_of ds)) (exact_name y (variable_of e) t) ∙ not-true _ (both_true (not (is_among (map variable_of ds) (variable_of e))) (are_distinct (map variable_of ds)) d).0)

      joined : (a b : Bool) → same_name y (variable_of e) ≡ b →
          (if a then or_else (first_value inst p ds y) (cond (a && b) (Some (declared_value given p e)) (value_in m q y)) else cond (a && b) (Some (declared_value given p e)) (value_in m q y))
          ≡ (if a then or_else (if b then Some (declared_value given p e) else first_value inst p ds y) (value_in m q y) else value_in m q y)
      joined false b t = refl
      joined true true t = ap (λ o. or_else o (Some (declared_value given p e))) (absent t)
      joined true false t = refl

  -- the first members of a role have their values
  values_of_members : (n : Name) (ds : List Decl) → are_distinct (map variable_of ds) ≡ true → (k : ℕ) (m : Entries) (q : Pid) (y : Name) →
      value_in (with_members given n ds k m) q y ≡ (if same_name q.role n && nat_lt q.member k then or_else (first_value inst q ds y) (value_in m q y) else value_in m q y)
  values_of_members n ds d zero m q y =
      ap (λ b. if b then or_else (first_value inst q ds y) (value_in m q y) else value_in m q y) (sym (none_below (same_name q.role n) q.member))
  values_of_members n ds d (suc k) m q y =
      values_of (member n k) ds d (with_members given n ds k m) q y
      ∙ ap (λ o. if same_process (member n k) q then or_else (first_value inst (member n k) ds y) o else o) (values_of_members n ds d k m q y)
      ∙ ap (λ a. if a && nat_eq k q.member then or_else (first_value inst (member n k) ds y) (before (same_name q.role n) (nat_lt q.member k)) else before (same_name q.role n) (nat_lt q.member k)) (name_laws.symm n q.role)
      ∙ joined (same_name q.role n) (nat_eq k q.member) (nat_lt q.member k) (λ t. ap (λ r. first_value inst r ds y) (exact_process (member n k) q (ap (λ a. a && nat_eq k q.member) (name_laws.symm n q.role) ∙ t)))
      ∙ ap (λ b. if same_name q.role n && b then or_else (first_value inst q ds y) (value_in m q y) else value_in m q y) (sym (below_next q.member k))
    where
      before : Bool → Bool → Option Value
      before a b = if a && b then or_else (first_value inst q ds y) (value_in m q y) else value_in m q y

      joined : (a b c : Bool) → ((a && b) ≡ true → first_value inst (member n k) ds y ≡ first_value inst q ds y) →
          (if a && b then or_else (first_value inst (member n k) ds y) (before a c) else before a c)
          ≡ (if a && (b || c) then or_else (first_value inst q ds y) (value_in m q y) else value_in m q y)
      joined false b c h = refl
      joined true false c h = refl
      joined true true true h = ap (λ o. or_else o (or_else (first_value inst q ds y) (value_in m q y))) (h refl) ∙ or_again (first_value inst q ds y) (value_in m q y)
      joined true true false h = ap (λ o. or_else o (value_in m q y)) (h refl)

  -- the variables of each process of the roles have their values
  values_of_roles : (roles : List RoleText) → are_distinct (role_names roles) ≡ true → AllByRecursion (λ r. are_distinct (map variable_of r.decls) ≡ true) roles →
      (m : Entries) (q : Pid) (y : Name) → value_in (with_roles given sizes roles m) q y ≡ or_else (start_store roles inst q y) (value_in m q y)
  values_of_roles [] d each m q y = refl
  values_of_roles (r ∷ rs) d each m q y =
      values_of_roles rs (later_distinct r rs d) each.1 (with_members given r.name r.decls (processes inst r) m) q y
      ∙ ap (or_else (start_store rs inst q y)) (values_of_members r.name r.decls each.0 (processes inst r) m q y)
      ∙ elim (same_name q.role r.name) as (λ b. same_name q.role r.name ≡ b →
      or_else (start_store rs inst q y) (if b && nat_lt q.member (processes inst r) then or_else (first_value inst q r.decls y) (value_in m q y) else value_in m q y)
      ≡ or_else (first_value inst q (decls_of (with_member inst q.member (if b then Some r else role_named rs q.role))) y) (value_in m q y)) [
        | true ↦ λ e.
            ap (λ o. or_else (first_value inst q (decls_of (with_member inst q.member o)) y) (if nat_lt q.member (processes inst r) then or_else (first_value inst q r.decls y) (value_in m q y) else value_in m q y)) (later_differ r rs d q.role e)
            ∙ here (nat_lt q.member (processes inst r))
        | false ↦ λ e. refl
      ] refl
    where
      here : (b : Bool) → (if b then or_else (first_value inst q r.decls y) (value_in m q y) else value_in m q y)
          ≡ or_else (first_value inst q (decls_of (if b then Some r else None)) y) (value_in m q y)
      here true = refl
      here false = refl

  -- the store is the one in which the instance starts
  pub started_store : (roles : List RoleText) → AreApart roles → (q : Pid) (y : Name) → value_in (with_roles given sizes roles finite.empty) q y ≡ start_store roles inst q y
  started_store roles apart q y =
      values_of_roles roles apart.names apart.variables finite.empty q y
      ∙ ap (or_else (start_store roles inst q y)) (finite.get-empty place_cmp (q, y))
      ∙ or_none (start_store roles inst q y)

not_sized : (es : List (Name × ℕ)) (s : Name) → is_among (map (λ e. e.0) es) s ≡ false → size_in es s ≡ 0
not_sized [] s h = refl
not_sized (e ∷ es) s h =
    ap (λ b. if b then e.1 else size_in es s) (name_laws.symm e.0 s)
    ∙ elim (same_name s e.0) as (λ b. (b || is_among (map (λ e. e.0) es) s) ≡ false → (if b then e.1 else size_in es s) ≡ 0) [ true ↦ λ g. cc | false ↦ not_sized es s ] h

no_set : (roles : List RoleText) (s : Name) → is_among (role_names roles) s ≡ false → is_among (set_names roles) s ≡ false
no_set [] s h = refl
no_set (r ∷ rs) s h =
    elim (same_name s r.name) as (λ b. same_name s r.name ≡ b → (b || is_among (role_names rs) s) ≡ false → is_among (if r.many then r.name ∷ set_names rs else set_names rs) s ≡ false) [
      | true ↦ λ e g. cc
      | false ↦ λ e g. elim r.many as (λ b. is_among (if b then r.name ∷ set_names rs else set_names rs) s ≡ false) [
        | true ↦ ap (λ b. b || is_among (set_names rs) s) e ∙ no_set rs s g
        | false ↦ no_set rs s g
      ]
    ] refl h

set_sized : (i : Instance) (roles : List RoleText) (s : Name) → are_distinct (role_names roles) ≡ true → (is_among (set_names roles) s ≡ false → i.size s ≡ 0) →
    i.size s ≡ set_size i (role_named roles s)
set_sized i [] s d h = h refl
set_sized i (r ∷ rs) s d h =
    elim (same_name s r.name) as (λ b. same_name s r.name ≡ b → i.size s ≡ set_size i (if b then Some r else role_named rs s)) [
      | true ↦ λ e.
          elim r.many as (λ b. (is_among (if b then r.name ∷ set_names rs else set_names rs) s ≡ false → i.size s ≡ 0) → i.size s ≡ (if b then i.size r.name else 0)) [
            | true ↦ λ g. ap i.size (exact_name s r.name e)
            | false ↦ λ g. g (no_set rs s (ap (is_among (role_names rs)) (exact_name s r.name e) ∙ not-true _ (both_true (not (is_among (role_names rs) r.name)) (are_distinct (role_names rs)) d).0))
          ] h
      | false ↦ λ e. set_sized i rs s (later_distinct r rs d) (
          elim r.many as (λ b. (is_among (if b then r.name ∷ set_names rs else set_names rs) s ≡ false → i.size s ≡ 0) → is_among (set_names rs) s ≡ false → i.size s ≡ 0) [
            | true ↦ λ g n. g (ap (λ b. b || is_among (set_names rs) s) e ∙ n)
            | false ↦ λ g n. g n
          ] h)
    ] refl

-- the sizes are those of the sets
pub started_sizes : (i : Instance) (roles : List RoleText) (es : List (Name × ℕ)) → are_distinct (role_names roles) ≡ true → map (λ e. e.0) es ≡ set_names roles → i.size ≡ size_in es →
    (s : Name) → size_in es s ≡ set_sizes roles i s
started_sizes i roles es d named same s =
    ap (λ f. f s) (sym same) ∙ set_sized i roles s d (λ h. ap (λ f. f s) same ∙ not_sized es s (ap (λ ns. is_among ns s) named ∙ h))
