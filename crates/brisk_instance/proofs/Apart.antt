-- Roles whose names differ, and numbers of members.
use Rattle.std.proofs.Common.{◌≡◌, ℕ, suc, Bool, true, false, List, [], ◌∷◌, ◌++◌, map, Option, Some, None, refl, ap, ◌∙◌, arith, nat_eq}
use Rattle.std.specs.Prelude.{◌&&◌, ◌||◌, not, if◌then◌else◌, nat_lt}
use Rattle.std.specs.List.{AllByRecursion}
use Rattle.std.proofs.lemmas.Bool.{le-ltb, lt-ltb, ltb-false, ltb-true, eqb-false, eqb-true, not-true}
use Rattle.brisk_values.specs.Names.{Name, same_name}
use Rattle.brisk_values.proofs.Changes.{both_true, exact_name}
use Rattle.brisk_syntax.specs.declared.program.Program.{Program}
use Rattle.brisk_syntax.specs.Declarations.{role_named, variable_of}
use Rattle.brisk_syntax.specs.Roles.{RoleText}
use Rattle.brisk_syntax.specs.Typing.{are_distinct, is_among}
use Rattle.brisk_syntax.specs.WellTyped.{IsProgramWellTyped, IsRoleWellTyped}
use Rattle.brisk_instance.specs.Given.{AreApart}
use Rattle.brisk_syntax.proofs.Codes.{distinct_later}

-- the names of the roles
abbrev pub role_names : List RoleText → List Name
role_names roles = map (λ (r : RoleText). r.name) roles

-- the names of roles differ in a well-typed program
roles_differ : (P : Program) → IsProgramWellTyped P → are_distinct (role_names P.roles) ≡ true
roles_differ P typed = distinct_later (map (λ e. e.name) P.enums ++ map (λ c. c.name) P.channels) (role_names P.roles) typed.names

none_named : (roles : List RoleText) (u : Name) → is_among (role_names roles) u ≡ false → role_named roles u ≡ None
none_named [] u e = refl
none_named (r ∷ rs) u e =
    elim (same_name u r.name) as (λ b. (b || is_among (role_names rs) u) ≡ false → (if b then Some r else role_named rs u) ≡ None) [ true ↦ λ g. cc | false ↦ none_named rs u ] e

-- no later role has the name of the first one
pub later_differ : (r : RoleText) (rs : List RoleText) → are_distinct (role_names (r ∷ rs)) ≡ true → (n : Name) → same_name n r.name ≡ true → role_named rs n ≡ None
later_differ r rs d n e =
    none_named rs n (ap (is_among (role_names rs)) (exact_name n r.name e) ∙ not-true _ (both_true (not (is_among (role_names rs) r.name)) (are_distinct (role_names rs)) d).0)

pub later_distinct : (r : RoleText) (rs : List RoleText) → are_distinct (role_names (r ∷ rs)) ≡ true → are_distinct (role_names rs) ≡ true
later_distinct r rs d = (both_true (not (is_among (role_names rs) r.name)) (are_distinct (role_names rs)) d).1

-- the roles of a well-typed program are apart
pub program_apart : (P : Program) → IsProgramWellTyped P → AreApart P.roles
program_apart P typed = record { names = roles_differ P typed; variables = each P.roles typed.roles }
  where
    each : (roles : List RoleText) → AllByRecursion (IsRoleWellTyped P) roles → AllByRecursion (λ r. are_distinct (map variable_of r.decls) ≡ true) roles
    each [] t = tt
    each (r ∷ rs) t = (t.0.decls.apart, each rs t.1)

-- a number is below the next one where it is that one, or below it
pub below_next : (j k : ℕ) → nat_lt j (suc k) ≡ (nat_eq k j || nat_lt j k)
below_next j k =
    elim (nat_eq k j) as (λ b. nat_eq k j ≡ b → nat_lt j (suc k) ≡ (b || nat_lt j k)) [
      | true ↦ λ e. let same = eqb-true k j e in lt-ltb j (suc k) (omega arith)
      | false ↦ λ e.
          let apart = eqb-false k j e in
          elim (nat_lt j k) as (λ b. nat_lt j k ≡ b → nat_lt j (suc k) ≡ b) [
            | true ↦ λ f. let lower = ltb-true j k f in lt-ltb j (suc k) (omega arith)
            | false ↦ λ f. let higher = ltb-false j k f in le-ltb j (suc k) (omega arith)
          ] refl
    ] refl

-- the one, or else the other
abbrev pub or_else : {X : Type 0} → Option X → Option X → Option X
or_else None o = o
or_else (Some x) o = Some x

pub none_below : (b : Bool) (j : ℕ) → (b && nat_lt j 0) ≡ false
none_below true j = le-ltb j 0 (omega arith)
none_below false j = refl

pub or_none : {X : Type 0} (o : Option X) → or_else o None ≡ o
or_none None = refl
or_none (Some c) = refl
