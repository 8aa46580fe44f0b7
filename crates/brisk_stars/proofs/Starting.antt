-- A star begins as one.
use Rattle.std.proofs.Common.{◌≡◌, ℕ, ◌<◌, ◌≤◌, Bool, true, false, List, [], ◌∷◌, filter, cond, Option, Some, None, refl, sym, ap, ◌∙◌, subst, arith, nat_eq}
use Rattle.std.specs.Prelude.{◌&&◌, ◌||◌, not, if◌then◌else◌, nat_lt}
use Rattle.std.specs.List.{AllByRecursion, list_all}
use Rattle.std.proofs.lemmas.Bool.{lt-ltb, le-ltb, eqb-false}
use Rattle.std.proofs.lemmas.Option.{same_Some}
use Rattle.brisk_values.specs.declared.value.Pid.{Pid}
use Rattle.brisk_values.specs.Names.{Name, same_name, same_process, single}
use Rattle.brisk_values.proofs.Changes.{both_true, exact_name, name_laws, both_hold}
use Rattle.brisk_syntax.specs.declared.program.Program.{Program}
use Rattle.brisk_syntax.specs.Classes.{every, fits_star, has_no_loose, in_centre, is_named, is_star_round, all_local, talks_to}
use Rattle.brisk_syntax.specs.Declarations.{code_in, role_named}
use Rattle.brisk_syntax.specs.Instance.{Instance, processes, set_size, set_sizes, with_member}
use Rattle.brisk_syntax.specs.Roles.{RoleText}
use Rattle.brisk_syntax.specs.Syntax.{Assign, RecvAny, If, IfElse, For, Repeat, Code, done, ◌⨾◌}
use Rattle.brisk_syntax.specs.Typing.{is_set}
use Rattle.brisk_syntax.specs.WellTyped.{IsCodeWellTyped, IsRoleWellTyped, is_other_set}
use Rattle.brisk_async.specs.PlainRuns.{plain_instance}
use Rattle.brisk_sound.proofs.Starts.{all_named}
use Rattle.brisk_straight.proofs.Ends.{none_loose}
use Rattle.brisk_straight.proofs.Totals.{roles_found}
use Rattle.brisk_stars.specs.Runs.{IsStarState}
use Rattle.brisk_stars.specs.Sources.{IsCentre, IsStarSource, StarsStart, plain_start}
use Rattle.brisk_stars.specs.Words.{runs_as_centre, serves}

-- what holds of each role holds of one that is found
pub each_named : (test : RoleText → Bool) (roles : List RoleText) (n : Name) (q : RoleText) → list_all test roles ≡ true → role_named roles n ≡ Some q → (test q ≡ true) × (same_name n q.name ≡ true)
each_named test [] n q h e = cc
each_named test (x ∷ xs) n q h e =
    let k = both_true (test x) (list_all test xs) h in
    elim (same_name n x.name) as (λ b. same_name n x.name ≡ b → (if b then Some x else role_named xs n) ≡ Some q → (test q ≡ true) × (same_name n q.name ≡ true)) [
      | true ↦ λ same g. let is = same_Some x q g in (ap test (sym is) ∙ k.0, ap (λ (z : RoleText). same_name n z.name) (sym is) ∙ same)
      | false ↦ λ apart g. each_named test xs n q k.1 g
    ] refl e

abbrev singles : List RoleText → List RoleText
singles = filter (λ (r : RoleText). not r.many)

-- a single role that is found is among the single roles
none_single : (roles : List RoleText) (n : Name) (q : RoleText) → role_named roles n ≡ Some q → q.many ≡ false → singles roles ≡ [] → ⊥
none_single [] n q e one none = cc
none_single (x ∷ xs) n q e one none =
    elim x.many as (λ b. x.many ≡ b → (cond (not b) (x ∷ singles xs) (singles xs)) ≡ [] → ⊥) [
      | true ↦ λ many g. elim (same_name n x.name) as (λ b. (if b then Some x else role_named xs n) ≡ Some q → ⊥) [
        | true ↦ λ f. let is = ap (λ (z : RoleText). z.many) (same_Some x q f) in let both = sym many ∙ is ∙ one in cc
        | false ↦ λ f. none_single xs n q f one g
      ] e
      | false ↦ λ alone g. cc
    ] refl none

pub the_single : (roles : List RoleText) (n : Name) (q r : RoleText) → role_named roles n ≡ Some q → q.many ≡ false → singles roles ≡ r ∷ [] → q ≡ r
the_single [] n q r e one is = cc
the_single (x ∷ xs) n q r e one is =
    elim x.many as (λ b. x.many ≡ b → (cond (not b) (x ∷ singles xs) (singles xs)) ≡ r ∷ [] → q ≡ r) [
      | true ↦ λ many g. elim (same_name n x.name) as (λ b. (if b then Some x else role_named xs n) ≡ Some q → q ≡ r) [
        | true ↦ λ f. absurd (let is = ap (λ (z : RoleText). z.many) (same_Some x q f) in let both = sym many ∙ is ∙ one in cc)
        | false ↦ λ f. the_single xs n q r f one g
      ] e
      | false ↦ λ alone g. let here : x ≡ r = cc in let none : singles xs ≡ [] = cc in
          elim (same_name n x.name) as (λ b. (if b then Some x else role_named xs n) ≡ Some q → q ≡ r) [
            | true ↦ λ f. sym (same_Some x q f) ∙ here
            | false ↦ λ f. absurd (none_single xs n q f one none)
          ] e
    ] refl is

-- the one single role is there
single_there : (Q : RoleText → Type 0) (roles : List RoleText) (r : RoleText) → AllByRecursion Q roles → singles roles ≡ r ∷ [] → Q r × (r.many ≡ false)
single_there Q [] r all is = cc
single_there Q (x ∷ xs) r all is =
    elim x.many as (λ b. x.many ≡ b → (cond (not b) (x ∷ singles xs) (singles xs)) ≡ r ∷ [] → Q r × (r.many ≡ false)) [
      | true ↦ λ many g. single_there Q xs r all.1 g
      | false ↦ λ alone g. let here : x ≡ r = cc in (subst Q here all.0, ap (λ (z : RoleText). z.many) (sym here) ∙ alone)
    ] refl is

module _ (P : Program) (r : RoleText) (k : ℕ) (some : 0 < k) (source : IsStarSource P) (centre : IsCentre P r) where
  abbrev M : Name
  M = r.name

  abbrev i : Instance
  i = plain_instance P k

  abbrev sizes : Name → ℕ
  sizes = set_sizes P.roles i

  pub all_fit : list_all (fits_star M) P.roles ≡ true
  all_fit = sym (ap (λ rs. is_star_round rs P.roles) centre) ∙ (both_true (has_no_loose P) (is_star_round (singles P.roles) P.roles) source.star).1

  pub found : (role_named P.roles M ≡ Some r) × (r.many ≡ false)
  found = single_there (λ (q : RoleText). role_named P.roles q.name ≡ Some q) P.roles r (roles_found P source.typed) centre

  typed : IsRoleWellTyped P r
  typed = all_named (IsRoleWellTyped P) P.roles M r source.typed.roles found.0

  -- a set has members
  set_some : (s : Name) → is_set P.roles s ≡ true → nat_lt 0 (sizes s) ≡ true
  set_some s h = by P.roles (roles_found P source.typed) h
    where
      by : (some_roles : List RoleText) → AllByRecursion (λ (q : RoleText). role_named P.roles q.name ≡ Some q) some_roles → is_set some_roles s ≡ true → nat_lt 0 (sizes s) ≡ true
      by [] all g = cc
      by (q ∷ qs) all g =
          elim (same_name s q.name && q.many) as (λ b. same_name s q.name && q.many ≡ b → (b || is_set qs s) ≡ true → nat_lt 0 (sizes s) ≡ true) [
            | true ↦ λ here f.
                let t = both_true (same_name s q.name) q.many here in
                ap (λ n. nat_lt 0 (sizes n)) (exact_name s q.name t.0) ∙ ap (λ o. nat_lt 0 (set_size i o)) all.0 ∙ ap (λ b. nat_lt 0 (if b then k else 0)) t.1 ∙ lt-ltb 0 k some
            | false ↦ λ away f. by qs all.1 f
          ] refl g

  loop_serves : (v s : Name) (b : Code) → every (talks_to (is_named v)) b ≡ true → is_other_set P r s ≡ true → serves sizes M v s b ≡ true
  loop_serves v s b h t =
      let z = both_true (is_set P.roles s) (not (same_name s r.name)) t in
      both_hold (not (same_name M s)) (nat_lt 0 (sizes s) && every (talks_to (is_named v)) b) (ap not (name_laws.symm M s) ∙ z.1) (both_hold (nat_lt 0 (sizes s)) (every (talks_to (is_named v)) b) (set_some s z.0) h)

  runs : (c : Code) → every in_centre c ≡ true → IsCodeWellTyped P r [] c → runs_as_centre sizes M c ≡ true
  runs done h t = refl
  runs (Assign x e ⨾ c) h t = runs c h t.1
  runs (If e a ⨾ c) h t = let z = both_true (all_local a) (every in_centre c) h in both_hold (all_local a) (runs_as_centre sizes M c) z.0 (runs c z.1 t.1)
  runs (IfElse e a b ⨾ c) h t = let z = both_true (all_local a && all_local b) (every in_centre c) h in both_hold (all_local a && all_local b) (runs_as_centre sizes M c) z.0 (runs c z.1 t.1)
  runs (For v s n b ⨾ c) h t =
      let z = both_true (every (talks_to (is_named v)) b) (every in_centre c) h in
      both_hold (serves sizes M v s b) (runs_as_centre sizes M c) (loop_serves v s b z.0 t.0.0) (runs c z.1 t.1)
  runs (Repeat s n (RecvAny d xs v u b ⨾ done) ⨾ c) h t =
      let z = both_true (same_name s u && every (talks_to (is_named v)) b) (every in_centre c) h in
      let y = both_true (same_name s u) (every (talks_to (is_named v)) b) z.0 in
      both_hold (same_name s u && serves sizes M v s b) (runs_as_centre sizes M c) (both_hold (same_name s u) (serves sizes M v s b) y.0 (loop_serves v s b y.1 t.0.0)) (runs c z.1 t.1)
  runs (s ⨾ c) h t = cc

  -- a process of the centre's name but its own has no code
  no_other : (p : Pid) → same_name M p.role ≡ true → same_process (single M) p ≡ false → (plain_start P k).code p ≡ done
  no_other p same apart =
      let name = exact_name M p.role same in
      let number : nat_eq 0 p.member ≡ false = sym (ap (λ b. b && nat_eq 0 p.member) same) ∙ apart in
      let high : nat_lt p.member 1 ≡ false = (let d = eqb-false 0 p.member number in le-ltb p.member 1 (omega (arith, d))) in
      ap (λ n. code_in (with_member i p.member (role_named P.roles n))) (sym name)
      ∙ ap (λ o. code_in (with_member i p.member o)) found.0
      ∙ ap (λ b. code_in (if nat_lt p.member (if b then k else 1) then Some r else None)) found.1
      ∙ ap (λ b. code_in (if b then Some r else None)) high

  -- the others talk to the centre
  others_talk : (p : Pid) → same_name M p.role ≡ false → every (talks_to (is_named M)) ((plain_start P k).code p) ≡ true
  others_talk p apart = by (role_named P.roles p.role) refl
    where
      role : (q : RoleText) → role_named P.roles p.role ≡ Some q → every (talks_to (is_named M)) q.code ≡ true
      role q e =
          let f = each_named (fits_star M) P.roles p.role q all_fit e in
          elim q.many as (λ b. q.many ≡ b → every (if b then talks_to (is_named M) else in_centre) q.code ≡ true → every (talks_to (is_named M)) q.code ≡ true) [
            | true ↦ λ many g. g
            | false ↦ λ one g. absurd (
                let is = the_single P.roles p.role q r e one centre in
                let named = ap (λ (z : RoleText). same_name p.role z.name) (sym is) ∙ f.1 in
                let both = sym (name_laws.symm M p.role ∙ named) ∙ apart in cc)
          ] refl f.0

      by : (o : Option RoleText) → role_named P.roles p.role ≡ o → every (talks_to (is_named M)) (code_in (with_member i p.member (role_named P.roles p.role))) ≡ true
      by None e = ap (λ o. every (talks_to (is_named M)) (code_in (with_member i p.member o))) e
      by (Some q) e =
          ap (λ o. every (talks_to (is_named M)) (code_in (with_member i p.member o))) e
          ∙ elim (nat_lt p.member (processes i q)) as (λ b. every (talks_to (is_named M)) (code_in (if b then Some q else None)) ≡ true) [ true ↦ role q e | false ↦ refl ]

  centre_at : (plain_start P k).code (single M) ≡ r.code
  centre_at = ap (λ o. code_in (with_member i 0 o)) found.0 ∙ ap (λ b. code_in (if nat_lt 0 (if b then k else 1) then Some r else None)) found.1

  fits_centre : every in_centre r.code ≡ true
  fits_centre = ap (λ b. every (if b then talks_to (is_named M) else in_centre) r.code) (sym found.1) ∙ (each_named (fits_star M) P.roles M r all_fit found.0).0

  pub starts : IsStarState M (plain_start P k)
  starts = record {
    strict = none_loose P.channels (both_true (has_no_loose P) (is_star_round (singles P.roles) P.roles) source.star).0;
    centre = ap (runs_as_centre sizes M) centre_at ∙ runs r.code fits_centre typed.code;
    members = others_talk;
    none_else = no_other;
  }

pub stars_start : StarsStart
stars_start P r k some source centre = starts P r k some source centre

-- at size one no set has two members
pub few_members : (P : Program) (s : Name) → (plain_start P 1).sizes s ≤ 1
few_members P s = by (role_named P.roles s)
  where
    by : (o : Option RoleText) → set_size (plain_instance P 1) o ≤ 1
    by None = omega arith
    by (Some q) = elim q.many as (λ b. (if b then 1 else 0) ≤ 1) [ true ↦ omega arith | false ↦ omega arith ]
