-- At size two: the processes in their order, and how many events the plain run has room for.
use Rattle.std.proofs.Common.{◌≡◌, ℕ, zero, suc, ◌+◌, ◌*◌, ◌<◌, ◌≤◌, Bool, true, false, cond, List, [], ◌∷◌, ◌++◌, map, filter, flat_map, Option, Some, None, refl, sym, ap, ◌∙◌, subst, arith, nat_eq}
use Rattle.std.specs.Prelude.{◌&&◌, ◌||◌, not, if◌then◌else◌, nat_lt, sum_by, ◌-◌}
use Rattle.std.specs.List.{AllByRecursion, list_any}
use Rattle.std.proofs.lemmas.Bool.{ltb-true, ltb-false}
use Rattle.std.proofs.lemmas.List.Sums.{sum_by-cons}
use Rattle.std.proofs.lemmas.Option.{same_Some}
use Rattle.std.proofs.Math.Bool.{or-true}
use Rattle.brisk_values.specs.declared.value.Pid.{Pid}
use Rattle.brisk_values.specs.Names.{Name, same_name, same_process, single, member}
use Rattle.brisk_values.proofs.Changes.{exact_name, both_hold}
use Rattle.brisk_syntax.specs.declared.program.Program.{Program}
use Rattle.brisk_syntax.specs.Counts.{statements_in, statements}
use Rattle.brisk_syntax.specs.Declarations.{code_in, role_named}
use Rattle.brisk_syntax.specs.Instance.{set_size, with_member}
use Rattle.brisk_syntax.specs.Roles.{RoleText}
use Rattle.brisk_syntax.specs.Syntax.{Assign, Send, Recv, RecvAny, If, IfElse, While, For, Repeat, Code, done, ◌⨾◌}
use Rattle.brisk_async.specs.Machine.{State}
use Rattle.brisk_async.specs.PlainRuns.{plain_instance, plain_order}
use Rattle.brisk_instance.specs.Given.{members}
use Rattle.brisk_straight.proofs.Totals.{roles_found}
use Rattle.brisk_stars.specs.Sources.{IsCentre, IsStarSource, plain_start}
use Rattle.brisk_stars.proofs.Ending.{NoneElse, any_append, cost, total, total_append, weight}
use Rattle.brisk_stars.proofs.Starting.{found}

-- a set has two members
pub two_of_some : (P : Program) (s : Name) → nat_lt 0 ((plain_start P 2).sizes s) ≡ true → (plain_start P 2).sizes s ≡ 2
two_of_some P s h = by (role_named P.roles s) h
  where
    by : (o : Option RoleText) → nat_lt 0 (set_size (plain_instance P 2) o) ≡ true → set_size (plain_instance P 2) o ≡ 2
    by None h = absurd (let l = ltb-true 0 0 h in omega (arith, l))
    by (Some q) h = elim q.many as (λ b. nat_lt 0 (if b then 2 else 0) ≡ true → ◌≡◌ {A = ℕ} (if b then 2 else 0) 2) [ true ↦ λ g. refl | false ↦ λ g. absurd (let l = ltb-true 0 0 g in omega (arith, l)) ] h

pub two_at_most : (P : Program) (s : Name) → (plain_start P 2).sizes s ≤ 2
two_at_most P s = by (role_named P.roles s)
  where
    by : (o : Option RoleText) → set_size (plain_instance P 2) o ≤ 2
    by None = omega arith
    by (Some q) = elim q.many as (λ b. (if b then 2 else 0) ≤ 2) [ true ↦ omega arith | false ↦ omega arith ]

-- the members of all sets, by declaration and number
abbrev pub members_of_sets : Program → List Pid
members_of_sets P = flat_map (λ (q : RoleText). members q.name 2) (filter (λ (q : RoleText). q.many) P.roles)

pub order_is : (P : Program) (r : RoleText) → IsCentre P r → plain_order P 2 ≡ members_of_sets P ++ single r.name ∷ []
order_is P r centre = ap (λ rs. members_of_sets P ++ map (λ (q : RoleText). single q.name) rs) centre

-- a set has another name than the centre
set_is_apart : (P : Program) (r q : RoleText) → IsStarSource P → IsCentre P r → role_named P.roles q.name ≡ Some q → q.many ≡ true → same_name r.name q.name ≡ false
set_is_apart P r q source centre here many = elim (same_name r.name q.name) as (λ b. same_name r.name q.name ≡ b → b ≡ false) [
  | true ↦ λ same. absurd (
      let f = found P r 1 (omega arith) source centre in
      let one : Some q ≡ Some r = sym here ∙ ap (role_named P.roles) (sym (exact_name r.name q.name same)) ∙ f.0 in
      let both = sym many ∙ ap (λ (z : RoleText). z.many) (same_Some q r one) ∙ f.1 in cc)
  | false ↦ λ e. refl
] refl

-- the members are of other roles than the centre
pub others : (P : Program) (r : RoleText) → IsStarSource P → IsCentre P r → AllByRecursion (λ (p : Pid). same_name r.name p.role ≡ false) (members_of_sets P)
others P r source centre = by P.roles (roles_found P source.typed)
  where
    by : (some : List RoleText) → AllByRecursion (λ (q : RoleText). role_named P.roles q.name ≡ Some q) some →
        AllByRecursion (λ (p : Pid). same_name r.name p.role ≡ false) (flat_map (λ (q : RoleText). members q.name 2) (filter (λ (q : RoleText). q.many) some))
    by [] all = tt
    by (q ∷ qs) all =
        let more = by qs all.1 in
        elim q.many as (λ b. q.many ≡ b → AllByRecursion (λ (p : Pid). same_name r.name p.role ≡ false) (flat_map (λ (q : RoleText). members q.name 2) (cond b (q ∷ filter (λ (q : RoleText). q.many) qs) (filter (λ (q : RoleText). q.many) qs)))) [
          | true ↦ λ many. (let off = set_is_apart P r q source centre all.0 many in (off, (off, more)))
          | false ↦ λ one. more
        ] refl

-- at size two the centre has at most three events for each statement
few_turns : (n m : ℕ) → n ≤ 2 → n * (1 + m) ≤ 2 + 2 * m
few_turns zero m l = omega arith
few_turns (suc zero) m l = omega arith
few_turns (suc (suc zero)) m l = omega arith
few_turns (suc (suc (suc n))) m l = absurd (omega (arith, l))

cost_thrice : (sizes : Name → ℕ) → ((s : Name) → sizes s ≤ 2) → (c : Code) → cost sizes c ≤ 3 * statements c
cost_thrice sizes few done = omega arith
cost_thrice sizes few (For v s k b ⨾ rest) = let m = cost_thrice sizes few rest in let t = few_turns (sizes s - k) (statements b) (let f = few s in omega (arith, f)) in omega (arith, m, t)
cost_thrice sizes few (Repeat s k b ⨾ rest) = let m = cost_thrice sizes few rest in let t = few_turns (sizes s - k) (statements b) (let f = few s in omega (arith, f)) in omega (arith, m, t)
cost_thrice sizes few (RecvAny c xs v s b ⨾ rest) = let m = cost_thrice sizes few rest in omega (arith, m)
cost_thrice sizes few (Assign x e ⨾ rest) = let m = cost_thrice sizes few rest in omega (arith, m)
cost_thrice sizes few (Send c es u ⨾ rest) = let m = cost_thrice sizes few rest in omega (arith, m)
cost_thrice sizes few (Recv c xs u ⨾ rest) = let m = cost_thrice sizes few rest in omega (arith, m)
cost_thrice sizes few (If e a ⨾ rest) = let m = cost_thrice sizes few rest in omega (arith, m)
cost_thrice sizes few (IfElse e a b ⨾ rest) = let m = cost_thrice sizes few rest in omega (arith, m)
cost_thrice sizes few (While e b ⨾ rest) = let m = cost_thrice sizes few rest in omega (arith, m)

abbrev sets_of : List RoleText → List Pid
sets_of roles = flat_map (λ (q : RoleText). members q.name 2) (filter (λ (q : RoleText). q.many) roles)

abbrev singles_of : List RoleText → List Pid
singles_of roles = map (λ (q : RoleText). single q.name) (filter (λ (q : RoleText). not q.many) roles)

-- two members have at most two events for each statement of their role, and a single role has three
all_weigh : (w : Pid → ℕ) (roles : List RoleText) → AllByRecursion (λ (q : RoleText). (q.many ≡ true → w (member q.name 0) + w (member q.name 1) ≤ 3 * statements q.code) × (q.many ≡ false → w (single q.name) ≤ 3 * statements q.code)) roles →
    total (sets_of roles) w + total (singles_of roles) w ≤ 3 * sum_by (λ (q : RoleText). statements q.code) roles
all_weigh w [] all = omega arith
all_weigh w (x ∷ xs) all =
    let more = all_weigh w xs all.1 in
    let sum = sum_by-cons (λ (q : RoleText). statements q.code) x xs in
    elim x.many as (λ m. x.many ≡ m → total (flat_map (λ (q : RoleText). members q.name 2) (cond m (x ∷ filter (λ (q : RoleText). q.many) xs) (filter (λ (q : RoleText). q.many) xs))) w
    + total (map (λ (q : RoleText). single q.name) (cond (not m) (x ∷ filter (λ (q : RoleText). not q.many) xs) (filter (λ (q : RoleText). not q.many) xs))) w ≤ 3 * sum_by (λ (q : RoleText). statements q.code) (x ∷ xs)) [
      | true ↦ λ many. (let one = all.0.0 many in omega (arith, more, one, sum))
      | false ↦ λ alone. (let one = all.0.1 alone in omega (arith, more, one, sum))
    ] refl

module _ (P : Program) (r : RoleText) (source : IsStarSource P) (centre : IsCentre P r) where
  abbrev s0 : State
  s0 = plain_start P 2

  weighs : (q : RoleText) → role_named P.roles q.name ≡ Some q → (q.many ≡ true → weight r.name s0 (member q.name 0) + weight r.name s0 (member q.name 1) ≤ 3 * statements q.code) × (q.many ≡ false → weight r.name s0 (single q.name) ≤ 3 * statements q.code)
  weighs q here = (
    λ many.
        let zero_code : s0.code (member q.name 0) ≡ q.code = ap (λ o. code_in (with_member (plain_instance P 2) 0 o)) here ∙ ap (λ b. code_in (if nat_lt 0 (if b then 2 else 1) then Some q else None)) many in
        let one_code : s0.code (member q.name 1) ≡ q.code = ap (λ o. code_in (with_member (plain_instance P 2) 1 o)) here ∙ ap (λ b. code_in (if nat_lt 1 (if b then 2 else 1) then Some q else None)) many in
        let apart = set_is_apart P r q source centre here many in
        let a : weight r.name s0 (member q.name 0) ≡ statements q.code = ap (λ b. if b && true then cost s0.sizes (s0.code (member q.name 0)) else statements (s0.code (member q.name 0))) apart ∙ ap statements zero_code in
        let b : weight r.name s0 (member q.name 1) ≡ statements q.code = ap (λ b. if b && false then cost s0.sizes (s0.code (member q.name 1)) else statements (s0.code (member q.name 1))) apart ∙ ap statements one_code in
        omega (arith, a, b),
    λ alone.
        let code : s0.code (single q.name) ≡ q.code = ap (λ o. code_in (with_member (plain_instance P 2) 0 o)) here ∙ ap (λ b. code_in (if nat_lt 0 (if b then 2 else 1) then Some q else None)) alone in
        elim (same_process (single r.name) (single q.name)) as (λ b. (if b then cost s0.sizes (s0.code (single q.name)) else statements (s0.code (single q.name))) ≤ 3 * statements q.code) [
          | true ↦ (let a = ap (cost s0.sizes) code in let b = cost_thrice s0.sizes (two_at_most P) q.code in omega (arith, a, b))
          | false ↦ (let a = ap statements code in omega (arith, a))
        ],
  )

  -- so there is room for all events
  pub room_at_two : total (plain_order P 2) (weight r.name s0) ≤ 100000
  room_at_two =
      let w = all_weigh (weight r.name s0) P.roles (each P.roles (roles_found P source.typed)) in
      let a = total_append (sets_of P.roles) (singles_of P.roles) (weight r.name s0) in
      let m = source.statements in omega (arith, w, a, m)
    where
      each : (some : List RoleText) → AllByRecursion (λ (q : RoleText). role_named P.roles q.name ≡ Some q) some →
          AllByRecursion (λ (q : RoleText). (q.many ≡ true → weight r.name s0 (member q.name 0) + weight r.name s0 (member q.name 1) ≤ 3 * statements q.code) × (q.many ≡ false → weight r.name s0 (single q.name) ≤ 3 * statements q.code)) some
      each [] all = tt
      each (q ∷ qs) all = (weighs q all.0, each qs all.1)

  -- each process with code is in order
  listed : (roles : List RoleText) (p : Pid) (q : RoleText) → role_named roles p.role ≡ Some q → nat_lt p.member (if q.many then 2 else 1) ≡ true → (list_any (same_process p) (sets_of roles) || list_any (same_process p) (singles_of roles)) ≡ true
  listed [] p q e below = cc
  listed (x ∷ xs) p q e below =
      elim (same_name p.role x.name) as (λ b. same_name p.role x.name ≡ b → (if b then Some x else role_named xs p.role) ≡ Some q →
      (list_any (same_process p) (sets_of (x ∷ xs)) || list_any (same_process p) (singles_of (x ∷ xs))) ≡ true) [
        | true ↦ λ same g.
            let is : x ≡ q = same_Some x q g in
            let low : nat_lt p.member (if x.many then 2 else 1) ≡ true = ap (λ (z : RoleText). nat_lt p.member (if z.many then 2 else 1)) is ∙ below in
            elim x.many as (λ m. nat_lt p.member (if m then 2 else 1) ≡ true → (list_any (same_process p) (flat_map (λ (r : RoleText). members r.name 2) (cond m (x ∷ filter (λ (r : RoleText). r.many) xs) (filter (λ (r : RoleText). r.many) xs)))
            || list_any (same_process p) (map (λ (r : RoleText). single r.name) (cond (not m) (x ∷ filter (λ (r : RoleText). not r.many) xs) (filter (λ (r : RoleText). not r.many) xs)))) ≡ true) [
              | true ↦ λ l. (λ i. ((same i && nat_eq p.member 0) || ((same i && nat_eq p.member 1) || list_any (same_process p) (sets_of xs))) || list_any (same_process p) (singles_of xs)) ∙ either p.member (list_any (same_process p) (sets_of xs)) (list_any (same_process p) (singles_of xs)) (let h = ltb-true p.member 2 l in h)
              | false ↦ λ l. (λ i. list_any (same_process p) (sets_of xs) || ((same i && nat_eq p.member 0) || list_any (same_process p) (singles_of xs))) ∙ zeroth p.member (list_any (same_process p) (sets_of xs)) (list_any (same_process p) (singles_of xs)) (let h = ltb-true p.member 1 l in h)
            ] low
        | false ↦ λ other g.
            let more = listed xs p q g below in
            elim x.many as (λ m. (list_any (same_process p) (flat_map (λ (r : RoleText). members r.name 2) (cond m (x ∷ filter (λ (r : RoleText). r.many) xs) (filter (λ (r : RoleText). r.many) xs)))
            || list_any (same_process p) (map (λ (r : RoleText). single r.name) (cond (not m) (x ∷ filter (λ (r : RoleText). not r.many) xs) (filter (λ (r : RoleText). not r.many) xs)))) ≡ true) [
              | true ↦ first (same_process p (member x.name 0)) (same_process p (member x.name 1)) (list_any (same_process p) (sets_of xs)) (list_any (same_process p) (singles_of xs)) more
              | false ↦ second (same_process p (single x.name)) (list_any (same_process p) (sets_of xs)) (list_any (same_process p) (singles_of xs)) more
            ]
      ] refl e
    where
      either : (n : ℕ) (b c : Bool) → n < 2 → ((nat_eq n 0 || (nat_eq n 1 || b)) || c) ≡ true
      either zero b c l = refl
      either (suc zero) b c l = refl
      either (suc (suc n)) b c l = absurd (omega (arith, l))

      zeroth : (n : ℕ) (b c : Bool) → n < 1 → (b || (nat_eq n 0 || c)) ≡ true
      zeroth zero b c l = or-true b
      zeroth (suc n) b c l = absurd (omega (arith, l))

      first : (a d b c : Bool) → (b || c) ≡ true → ((a || (d || b)) || c) ≡ true
      first true d b c h = refl
      first false true b c h = refl
      first false false b c h = h

      second : (a b c : Bool) → (b || c) ≡ true → (b || (a || c)) ≡ true
      second a true c h = refl
      second true false c h = refl
      second false false c h = h

  pub none_else_at_two : NoneElse r.name (plain_order P 2) s0
  none_else_at_two p out = by (role_named P.roles p.role) refl
    where
      split : (list_any (same_process p) (sets_of P.roles) || list_any (same_process p) (singles_of P.roles)) ≡ false
      split = sym (any_append (same_process p) (sets_of P.roles) (singles_of P.roles)) ∙ out

      by : (o : Option RoleText) → role_named P.roles p.role ≡ o → code_in (with_member (plain_instance P 2) p.member (role_named P.roles p.role)) ≡ done
      by None e = ap (λ o. code_in (with_member (plain_instance P 2) p.member o)) e
      by (Some q) e =
          ap (λ o. code_in (with_member (plain_instance P 2) p.member o)) e
          ∙ elim (nat_lt p.member (if q.many then 2 else 1)) as (λ b. nat_lt p.member (if q.many then 2 else 1) ≡ b → code_in (if b then Some q else None) ≡ done) [
            | true ↦ λ below. absurd (let there = listed P.roles p q e below in let both = sym split ∙ there in cc)
            | false ↦ λ above. refl
          ] refl
