-- The role of a process of an instance.
use Rattle.std.proofs.Common.{◌≡◌, ℕ, zero, suc, true, false, List, [], ◌∷◌, nat_eq, Option, Some, None, refl, sym, ap, ◌∙◌, arith}
use Rattle.std.specs.List.{AllByRecursion}
use Rattle.std.specs.Prelude.{◌&&◌, if◌then◌else◌, nat_lt}
use Rattle.std.proofs.lemmas.Bool.{eqb-false, le-ltb}
use Rattle.brisk_values.specs.declared.value.Pid.{Pid}
use Rattle.brisk_values.specs.Names.{Name, same_name, same_process, single}
use Rattle.brisk_values.proofs.Changes.{name_laws}
use Rattle.brisk_syntax.specs.Declarations.{role_named}
use Rattle.brisk_syntax.specs.Instance.{Instance, processes, with_member, role_of}
use Rattle.brisk_syntax.specs.Roles.{RoleText}

module _ (i : Instance) (p : Pid) (Q : RoleText → Type 0) (P : Option RoleText → Type 0) where
  -- what holds of no role, and of each role that has the process, holds of the process's role
  pub role_cases : (roles : List RoleText) → P None → AllByRecursion Q roles →
      ((r : RoleText) → Q r → same_name p.role r.name ≡ true → nat_lt p.member (processes i r) ≡ true → P (Some r)) → P (role_of roles i p)
  role_cases [] none all some = none
  role_cases (r ∷ rs) none all some =
      elim (same_name p.role r.name) as (λ b. same_name p.role r.name ≡ b → P (with_member i p.member (if b then Some r else role_named rs p.role))) [
        | true ↦ λ e.
            elim (nat_lt p.member (processes i r)) as (λ b. nat_lt p.member (processes i r) ≡ b → P (if b then Some r else None)) [
              | true ↦ λ h. some r all.0 e h
              | false ↦ λ h. none
            ] refl
        | false ↦ λ e. role_cases rs none all.1 some
      ] refl

-- no other member of a single role is in an instance
pub no_other : (a : Name) (p : Pid) → same_process (single a) p ≡ false → same_name p.role a ≡ true → nat_lt p.member 1 ≡ false
no_other a p apart e = others p.member (sym (ap (λ b. b && nat_eq 0 p.member) (name_laws.symm a p.role ∙ e)) ∙ apart)
  where
    others : (k : ℕ) → nat_eq 0 k ≡ false → nat_lt k 1 ≡ false
    others zero h = absurd (eqb-false 0 0 h refl)
    others (suc k) h = le-ltb (suc k) 1 (omega arith)
