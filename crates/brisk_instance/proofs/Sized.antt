-- Sizes that go together with the sets, and when they are large enough.
use Rattle.std.proofs.Common.{◌≡◌, ℕ, ◌≤◌, true, false, List, [], ◌∷◌, map, refl, sym, ap, ◌∙◌, arith, subst}
use Rattle.std.specs.Prelude.{if◌then◌else◌}
use Rattle.std.specs.List.{AllByRecursion}
use Rattle.brisk_values.specs.Names.{Name, same_name}
use Rattle.brisk_values.proofs.Changes.{exact_name, name_laws}
use Rattle.brisk_syntax.specs.Instance.{least}
use Rattle.brisk_syntax.specs.Roles.{RoleText}
use Rattle.brisk_syntax.specs.Value.{size_in}
use Rattle.brisk_instance.specs.Given.{set_names}
use Rattle.brisk_instance.specs.Ordered.{IsSizeOf, Pairwise, sets}
use Rattle.brisk_instance.proofs.Alls.{all_meet, all_weaken}
use Rattle.brisk_instance.proofs.Differ.{Differ, IsNone}

-- the number of the role's processes, with these sizes, is at least its least
abbrev pub IsLarge : List (Name × ℕ) → RoleText → Type 0
IsLarge es r = least r ≤ (if r.many then size_in es r.name else 1)

size_here : (e : Name × ℕ) (es : List (Name × ℕ)) (n : Name) → e.0 ≡ n → size_in (e ∷ es) n ≡ e.1
size_here e es n same = ap (λ b. if b then e.1 else size_in es n) (ap (same_name e.0) (sym same) ∙ name_laws.refl e.0)

size_elsewhere : (e : Name × ℕ) (es : List (Name × ℕ)) (n : Name) → (e.0 ≡ n → ⊥) → size_in (e ∷ es) n ≡ size_in es n
size_elsewhere e es n apart =
    elim (same_name e.0 n) as (λ b. same_name e.0 n ≡ b → (if b then e.1 else size_in es n) ≡ size_in es n) [
      | true ↦ λ h. absurd (apart (exact_name e.0 n h))
      | false ↦ λ h. refl
    ] refl

-- the size of one set tells nothing of roles of other names
sizes_elsewhere : (e : Name × ℕ) (es : List (Name × ℕ)) (rs : List RoleText) → IsNone (λ r. r.name) rs e.0 → AllByRecursion (λ r. size_in (e ∷ es) r.name ≡ size_in es r.name) rs
sizes_elsewhere e es rs none = all_weaken (λ r. e.0 ≡ r.name → ⊥) (λ r. size_in (e ∷ es) r.name ≡ size_in es r.name) (λ r apart. size_elsewhere e es r.name apart) rs none

-- so sizes stay large enough with it and without it
large_with : (e : Name × ℕ) (es : List (Name × ℕ)) (rs : List RoleText) → IsNone (λ r. r.name) rs e.0 → AllByRecursion (IsLarge es) rs → AllByRecursion (IsLarge (e ∷ es)) rs
large_with e es rs none h = all_meet (λ r. size_in (e ∷ es) r.name ≡ size_in es r.name) (IsLarge es) (IsLarge (e ∷ es)) (λ r same large. subst (λ (n : ℕ). least r ≤ (if r.many then n else 1)) (sym same) large) rs (sizes_elsewhere e es rs none) h

large_without : (e : Name × ℕ) (es : List (Name × ℕ)) (rs : List RoleText) → IsNone (λ r. r.name) rs e.0 → AllByRecursion (IsLarge (e ∷ es)) rs → AllByRecursion (IsLarge es) rs
large_without e es rs none h = all_meet (λ r. size_in (e ∷ es) r.name ≡ size_in es r.name) (IsLarge (e ∷ es)) (IsLarge es) (λ r same large. subst (λ (n : ℕ). least r ≤ (if r.many then n else 1)) same large) rs (sizes_elsewhere e es rs none) h

-- a single role is never too small
least_small : (r : RoleText) → least r ≤ 1
least_small r = elim r.nonempty as (λ b. (if b then 1 else 0) ≤ 1) [ true ↦ omega arith | false ↦ omega arith ]

-- the names of the sets
pub sets_named : (roles : List RoleText) → map (λ r. r.name) (sets roles) ≡ set_names roles
sets_named [] = refl
sets_named (r ∷ rs) =
    elim r.many as (λ b. map (λ r. r.name) (if b then r ∷ sets rs else sets rs) ≡ (if b then r.name ∷ set_names rs else set_names rs)) [
      | true ↦ ap (λ l. r.name ∷ l) (sets_named rs)
      | false ↦ sets_named rs
    ]

-- a set and later roles, where the sizes behind it are large enough for those
set_large : (r : RoleText) (rs : List RoleText) (es : List (Name × ℕ)) → IsNone (λ r. r.name) rs r.name →
    ((fs : List (Name × ℕ)) → Pairwise IsSizeOf (sets rs) fs → AllByRecursion (IsLarge fs) rs) → Pairwise IsSizeOf (r ∷ sets rs) es → (least r ≤ size_in es r.name) × AllByRecursion (IsLarge es) rs
set_large r rs [] none later h = absurd h
set_large r rs (e ∷ es) none later h =
    (subst (λ (n : ℕ). least r ≤ n) (sym (size_here e es r.name h.0.0)) h.0.1, large_with e es rs (subst (IsNone (λ r. r.name) rs) (sym h.0.0) none) (later es h.1))

-- sizes that go together with the sets are large enough
pub sized : (roles : List RoleText) → Differ (λ r. r.name) roles → (es : List (Name × ℕ)) → Pairwise IsSizeOf (sets roles) es → AllByRecursion (IsLarge es) roles
sized [] d es h = tt
sized (r ∷ rs) d es h =
    elim r.many as (λ b. Pairwise IsSizeOf (if b then r ∷ sets rs else sets rs) es → (least r ≤ (if b then size_in es r.name else 1)) × AllByRecursion (IsLarge es) rs) [
      | true ↦ set_large r rs es d.0 (sized rs d.1)
      | false ↦ λ p. (least_small r, sized rs d.1 es p)
    ] h

-- the other way round, a set goes together with the first size
set_pairs : (r : RoleText) (rs : List RoleText) (es : List (Name × ℕ)) → IsNone (λ r. r.name) rs r.name →
    ((fs : List (Name × ℕ)) → map (λ e. e.0) fs ≡ set_names rs → AllByRecursion (IsLarge fs) rs → Pairwise IsSizeOf (sets rs) fs) →
    map (λ e. e.0) es ≡ r.name ∷ set_names rs → least r ≤ size_in es r.name → AllByRecursion (IsLarge es) rs → Pairwise IsSizeOf (r ∷ sets rs) es
set_pairs r rs [] none later named large h = cc
set_pairs r rs (e ∷ es) none later named large h =
    let same : e.0 ≡ r.name = cc in
    ((same, subst (λ (n : ℕ). least r ≤ n) (size_here e es r.name same) large), later es (cc) (large_without e es rs (subst (IsNone (λ r. r.name) rs) (sym same) none) h))

-- sizes with the names of the sets go together with them, where they are large enough
pub sizes_pair : (roles : List RoleText) → Differ (λ r. r.name) roles → (es : List (Name × ℕ)) → map (λ e. e.0) es ≡ set_names roles → AllByRecursion (IsLarge es) roles → Pairwise IsSizeOf (sets roles) es
sizes_pair [] d [] named h = tt
sizes_pair [] d (e ∷ es) named h = cc
sizes_pair (r ∷ rs) d es named h =
    elim r.many as (λ b. map (λ e. e.0) es ≡ (if b then r.name ∷ set_names rs else set_names rs) → least r ≤ (if b then size_in es r.name else 1) → Pairwise IsSizeOf (if b then r ∷ sets rs else sets rs) es) [
      | true ↦ λ same large. set_pairs r rs es d.0 (sizes_pair rs d.1) same large h.1
      | false ↦ λ same large. sizes_pair rs d.1 es same h.1
    ] named h.0
