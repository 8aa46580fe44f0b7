-- A derivation of a star begins where its plain run begins.
use Rattle.std.proofs.Common.{◌≡◌, ℕ, true, false, List, [], ◌∷◌, map, Option, Some, None, refl, sym, ap, ◌∙◌, arith, nat_eq}
use Rattle.std.specs.Prelude.{if◌then◌else◌, nat_lt}
use Rattle.std.specs.List.{list_all}
use Rattle.std.proofs.lemmas.Bool.{eqb-true, eqb-false, le-ltb, ltb-true}
use Rattle.brisk_values.specs.declared.value.Pid.{Pid}
use Rattle.brisk_values.specs.Names.{Name, same_name, single}
use Rattle.brisk_values.proofs.Changes.{name_laws}
use Rattle.brisk_syntax.specs.declared.program.Program.{Program}
use Rattle.brisk_syntax.specs.Classes.{every, is_named, talks_to}
use Rattle.brisk_syntax.specs.Declarations.{code_in, role_named}
use Rattle.brisk_syntax.specs.Instance.{set_size, with_member}
use Rattle.brisk_syntax.specs.Roles.{RoleText}
use Rattle.brisk_syntax.specs.Syntax.{done}
use Rattle.brisk_syntax.specs.Typing.{are_distinct}
use Rattle.brisk_syntax.specs.WellTyped.{all_unbegun}
use Rattle.brisk_async.specs.Machine.{State}
use Rattle.brisk_async.specs.PlainRuns.{plain_instance}
use Rattle.brisk_state.specs.declared.thread.Mode.{Mode}
use Rattle.brisk_state.specs.declared.thread.Mode.TheVariants.{One, Each}
use Rattle.brisk_state.specs.Symbolic.{first_thread, initial, numbers_at}
use Rattle.brisk_sound.proofs.Starts.{first_code, first_mode, role_mode, roles_distinct}
use Rattle.brisk_rules.proofs.Threads.{names}
use Rattle.brisk_stars.specs.Runs.{members_in, nobody, served_in, IsStarState}
use Rattle.brisk_stars.specs.Serving.{messages, serve, settled}
use Rattle.brisk_stars.specs.Sources.{IsCentre, IsStarSource, plain_start}
use Rattle.brisk_stars.specs.Threads.{at_in, member_by, members_by, served_at, IsStarThreads, SameStart}
use Rattle.brisk_stars.specs.Words.{runs_as_centre, words}
use Rattle.brisk_stars.proofs.Serving.{served_alike}
use Rattle.brisk_stars.proofs.Starting.{each_named, few_members, found, starts, the_single}

-- at size one each role has its one process
one_process : (P : Program) (o : Option RoleText) → code_in (with_member (plain_instance P 1) 0 o) ≡ code_in o
one_process P None = refl
one_process P (Some q) = elim q.many as (λ b. code_in (if nat_lt 0 (if b then 1 else 1) then Some q else None) ≡ q.code) [ true ↦ refl | false ↦ refl ]

no_process : (P : Program) (o : Option RoleText) (k : ℕ) → nat_eq 0 k ≡ false → code_in (with_member (plain_instance P 1) k o) ≡ done
no_process P None k e = refl
no_process P (Some q) k e =
    let high : nat_lt k 1 ≡ false = (let d = eqb-false 0 k e in le-ltb k 1 (omega (arith, d))) in
    elim q.many as (λ b. code_in (if nat_lt k (if b then 1 else 1) then Some q else None) ≡ done) [
      | true ↦ ap (λ b. code_in (if b then Some q else None)) high
      | false ↦ ap (λ b. code_in (if b then Some q else None)) high
    ]

first_names : (roles : List RoleText) → names (map first_thread roles) ≡ map (λ (r : RoleText). r.name) roles
first_names [] = refl
first_names (r ∷ rs) = ap (λ ns. r.name ∷ ns) (first_names rs)

module _ (P : Program) (r : RoleText) (source : IsStarSource P) (centre : IsCentre P r) where
  abbrev s : State
  s = plain_start P 1

  pub code_is : (u : Name) → at_in (initial P) u ≡ s.code (single u)
  code_is u = first_code P u ∙ sym (one_process P (role_named P.roles u))

  star : IsStarState r.name (plain_start P 1)
  star = starts P r 1 (omega arith) source centre

  there : (o : Option RoleText) → nat_lt 0 (set_size (plain_instance P 1) o) ≡ true → (m : Mode) × (role_mode o ≡ Some m)
  there None h = absurd (let l = ltb-true 0 0 h in omega (arith, l))
  there (Some q) h = (_, refl)

  one_is : (q : RoleText) → role_mode (Some q) ≡ Some One → q.many ≡ false
  one_is q e = elim q.many as (λ b. Some (if b then Each else One) ≡ Some One → b ≡ false) [ true ↦ λ g. cc | false ↦ λ g. refl ] e

  several : (u : Name) → same_name r.name u ≡ false → role_mode (role_named P.roles u) ≡ Some One → ⊥
  several u apart e = by (role_named P.roles u) refl e
    where
      by : (o : Option RoleText) → role_named P.roles u ≡ o → role_mode o ≡ Some One → ⊥
      by None is g = cc
      by (Some q) is g =
          let same = the_single P.roles u q r is (one_is q g) centre in
          let f = each_named (λ (z : RoleText). true) P.roles u q (all_true P.roles) is in
          let named = ap (λ (z : RoleText). same_name u z.name) (sym same) ∙ f.1 in
          let both = sym (name_laws.symm r.name u ∙ named) ∙ apart in cc
        where
          all_true : (roles : List RoleText) → list_all (λ (z : RoleText). true) roles ≡ true
          all_true [] = refl
          all_true (z ∷ zs) = all_true zs

  threads : IsStarThreads s.sizes r.name (initial P)
  threads = record {
    apart = ap are_distinct (first_names P.roles) ∙ roles_distinct P source.typed;
    centre = ap (runs_as_centre s.sizes r.name) (code_is r.name) ∙ star.centre;
    unbegun = ap all_unbegun (first_code P r.name ∙ ap code_in (found P r 1 (omega arith) source centre).0) ∙ (each_named (λ (z : RoleText). all_unbegun z.code) P.roles r.name r source.unbegun (found P r 1 (omega arith) source centre).0).0;
    one = first_mode P r.name ∙ ap role_mode (found P r 1 (omega arith) source centre).0 ∙ ap (λ b. Some (if b then Each else One)) (found P r 1 (omega arith) source centre).1;
    talk = λ u apart. ap (every (talks_to (is_named r.name))) (code_is u) ∙ star.members (single u) apart;
    several = λ u apart e. several u apart (sym (first_mode P u) ∙ e);
    size = few_members P;
    there = λ u h. let t = there (role_named P.roles u) h in (t.0, first_mode P u ∙ t.1);
  }

  pub member_is : (p : Pid) → members_by r.name (at_in (initial P)) (numbers_at []) p ≡ members_in r.name s p
  member_is p =
      elim (same_name r.name p.role) as (λ b. (if b then nobody else (if nat_eq 0 p.member then member_by r.name (at_in (initial P)) (numbers_at []) p.role else nobody))
      ≡ (if b then nobody else record { left = messages (s.code p); up = λ c. 0; down = λ c. 0 })) [
        | true ↦ refl
        | false ↦ elim (nat_eq 0 p.member) as (λ z. nat_eq 0 p.member ≡ z → (if z then member_by r.name (at_in (initial P)) (numbers_at []) p.role else nobody) ≡ record { left = messages (s.code p); up = λ c. 0; down = λ c. 0 }) [
          | true ↦ λ e.
              let number = eqb-true 0 p.member e in
              λ i. record { left = messages ((code_is p.role ∙ (λ j. s.code record { role = p.role; member = number j })) i); up = λ c. 0; down = λ c. 0 }
          | false ↦ λ e. λ i. record { left = messages (sym (no_process P (role_named P.roles p.role) p.member e) i); up = λ c. 0; down = λ c. 0 }
        ] refl
      ]

  pub same : IsStarThreads s.sizes r.name (initial P) × (served_at s.sizes r.name (initial P) ≡ served_in r.name s)
  same = (
    threads,
    ap (λ c. serve (words s.sizes c) (members_by r.name (at_in (initial P)) (numbers_at []))) (code_is r.name)
        ∙ served_alike (words s.sizes (s.code (single r.name))) (members_by r.name (at_in (initial P)) (numbers_at [])) (members_in r.name s) (λ p. ap settled (member_is p)),
  )

pub same_start : SameStart
same_start P r source centre = same P r source centre
