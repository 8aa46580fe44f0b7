-- The codes that a machine makes are those with which its instance starts.
use Rattle.std.proofs.Common.{◌≡◌, ℕ, zero, suc, Bool, true, false, cond, List, [], ◌∷◌, Option, Some, None, refl, sym, ap, ◌∙◌, nat_eq}
use Rattle.std.specs.Prelude.{◌&&◌, ◌||◌, is_some, option_map, if◌then◌else◌, nat_lt}
use Rattle.std.specs.FinMap as finite
use Rattle.brisk_values.specs.declared.value.Pid.{Pid}
use Rattle.brisk_values.specs.Names.{Name, member, same_name}
use Rattle.brisk_values.specs.Places.{process_cmp}
use Rattle.brisk_values.proofs.Changes.{name_laws}
use Rattle.brisk_values.proofs.Entries.{process_total}
use Rattle.brisk_syntax.specs.Declarations.{code_in, role_named}
use Rattle.brisk_syntax.specs.Instance.{Instance, processes, role_of, with_member}
use Rattle.brisk_syntax.specs.Roles.{RoleText}
use Rattle.brisk_syntax.specs.Segments.{or_done}
use Rattle.brisk_syntax.specs.Syntax.{Code}
use Rattle.brisk_syntax.specs.Typing.{are_distinct}
use Rattle.brisk_instance.proofs.Apart.{below_next, later_differ, later_distinct, none_below, or_else, or_none, role_names}
use Rattle.brisk_async.specs.Begun.{with_code, with_codes}
use Rattle.brisk_async.specs.Keys.{Processes}
use Rattle.brisk_async.specs.States.{has_member}
use Rattle.brisk_async.proofs.Maps.{same_pid}

-- the first members of a role have its code
code_of_member : (n : Name) (c : Code) (k : ℕ) (m : Processes) (p : Pid) →
    finite.get (with_code n c k m) p ≡ (if same_name p.role n && nat_lt p.member k then Some c else finite.get m p)
code_of_member n c zero m p = ap (λ b. if b then Some c else finite.get m p) (sym (none_below (same_name p.role n) p.member))
code_of_member n c (suc k) m p =
    finite.get-insert process_total (with_code n c k m) (member n k) c p
    ∙ (λ i. cond ((same_pid (member n k) p ∙ ap (λ b. b && nat_eq k p.member) (name_laws.symm n p.role)) i) (Some c) (code_of_member n c k m p i))
    ∙ joined (same_name p.role n) (nat_eq k p.member) (nat_lt p.member k)
    ∙ ap (λ b. if same_name p.role n && b then Some c else finite.get m p) (sym (below_next p.member k))
  where
    joined : (a b d : Bool) → cond (a && b) (Some c) (if a && d then Some c else finite.get m p) ≡ (if a && (b || d) then Some c else finite.get m p)
    joined true true d = refl
    joined true false d = refl
    joined false b d = refl

-- each process of the roles has its role's code, and every other process what it had
codes_of_roles : (i : Instance) (roles : List RoleText) → are_distinct (role_names roles) ≡ true → (m : Processes) (p : Pid) →
    finite.get (with_codes i.size roles m) p ≡ or_else (option_map (λ r. r.code) (role_of roles i p)) (finite.get m p)
codes_of_roles i [] d m p = refl
codes_of_roles i (r ∷ rs) d m p =
    codes_of_roles i rs (later_distinct r rs d) (with_code r.name r.code (processes i r) m) p
    ∙ ap (or_else (option_map (λ r. r.code) (role_of rs i p))) (code_of_member r.name r.code (processes i r) m p)
    ∙ elim (same_name p.role r.name) as (λ b. same_name p.role r.name ≡ b →
    or_else (option_map (λ r. r.code) (role_of rs i p)) (if b && nat_lt p.member (processes i r) then Some r.code else finite.get m p)
    ≡ or_else (option_map (λ r. r.code) (with_member i p.member (if b then Some r else role_named rs p.role))) (finite.get m p)) [
      | true ↦ λ e.
          ap (λ o. or_else (option_map (λ r. r.code) (with_member i p.member o)) (if nat_lt p.member (processes i r) then Some r.code else finite.get m p)) (later_differ r rs d p.role e)
          ∙ here (nat_lt p.member (processes i r))
      | false ↦ λ e. refl
    ] refl
  where
    here : (b : Bool) → (if b then Some r.code else finite.get m p) ≡ or_else (option_map (λ r. r.code) (if b then Some r else None)) (finite.get m p)
    here true = refl
    here false = refl

-- each process of the instance has its role's code, and no other process has code
pub started_codes : (i : Instance) (roles : List RoleText) → are_distinct (role_names roles) ≡ true → (p : Pid) →
    finite.get (with_codes i.size roles finite.empty) p ≡ option_map (λ r. r.code) (role_of roles i p)
started_codes i roles d p =
    codes_of_roles i roles d finite.empty p
    ∙ ap (or_else (option_map (λ r. r.code) (role_of roles i p))) (finite.get-empty process_cmp p)
    ∙ or_none (option_map (λ r. r.code) (role_of roles i p))

-- exactly the processes of the instance have code
pub started_process : (i : Instance) (k : ℕ) (o : Option RoleText) → is_some (option_map (λ r. r.code) (with_member i k o)) ≡ has_member i.size k o
started_process i k None = refl
started_process i k (Some r) = by (nat_lt k (processes i r))
  where
    by : (b : Bool) → is_some (option_map (λ r. r.code) (if b then Some r else None)) ≡ b
    by true = refl
    by false = refl

-- the code of a role, and none where there is none
pub started_code : (o : Option RoleText) → or_done (option_map (λ r. r.code) o) ≡ code_in o
started_code None = refl
started_code (Some r) = refl
