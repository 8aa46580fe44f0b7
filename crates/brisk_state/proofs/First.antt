-- What a state begins with, role by role from the last one.
use Rattle.std.proofs.Common.{◌≡◌, true, List, [], ◌∷◌, ◌++◌, map, refl, ap, ◌∙◌}
use Rattle.std.specs.Prelude.{not}
use Rattle.brisk_values.specs.Names.{Name}
use Rattle.brisk_values.proofs.Changes.{both_true}
use Rattle.brisk_syntax.specs.declared.program.Program.{Program}
use Rattle.brisk_syntax.specs.declared.program.Decl.{Decl}
use Rattle.brisk_syntax.specs.declared.program.Decl.TheVariants as decl
use Rattle.brisk_syntax.specs.Roles.{RoleText}
use Rattle.brisk_syntax.specs.Typing.{are_distinct, is_among}
use Rattle.brisk_syntax.specs.WellTyped.{IsProgramWellTyped}
use Rattle.brisk_facts.specs.Facts.{Facts}
use Rattle.brisk_state.specs.Places.{names}
use Rattle.brisk_state.specs.Symbolic.{all_first_facts, first_facts, first_thread}
use Rattle.brisk_syntax.proofs.Codes.{distinct_later}

-- the last declaration first
pub first_last : (at : Name) (ds : List Decl) (d : Decl) (facts : Facts) → first_facts at (ds ++ d ∷ []) facts ≡ first_facts at ds (first_facts at (d ∷ []) facts)
first_last at [] d facts = refl
first_last at (decl.Var x k c ∷ ds) d facts = ap (λ f. first_facts at (decl.Var x k c ∷ []) f) (first_last at ds d facts)
first_last at (decl.Input x k ∷ ds) d facts = first_last at ds d facts

-- what roles tell over what is known
abbrev pub over : List RoleText → Facts → Facts
over [] facts = facts
over (r ∷ rs) facts = first_facts r.name r.decls (over rs facts)

pub over_none : (rs : List RoleText) → over rs [] ≡ all_first_facts rs
over_none [] = refl
over_none (r ∷ rs) = ap (first_facts r.name r.decls) (over_none rs)

-- the last role first
pub over_last : (rs : List RoleText) (r : RoleText) (facts : Facts) → over (rs ++ r ∷ []) facts ≡ over rs (first_facts r.name r.decls facts)
over_last [] r facts = refl
over_last (s ∷ rs) r facts = ap (first_facts s.name s.decls) (over_last rs r facts)

role_names : (rs : List RoleText) → names (map first_thread rs) ≡ map (λ r. r.name) rs
role_names [] = refl
role_names (r ∷ rs) = ap (λ ns. r.name ∷ ns) (role_names rs)

-- the names of the first threads differ in a well-typed program
pub first_names_differ : (P : Program) → IsProgramWellTyped P → are_distinct (names (map first_thread P.roles)) ≡ true
first_names_differ P typed =
    ap are_distinct (role_names P.roles)
    ∙ distinct_later (map (λ e. e.name) P.enums ++ map (λ c. c.name) P.channels) (map (λ r. r.name) P.roles) typed.names
