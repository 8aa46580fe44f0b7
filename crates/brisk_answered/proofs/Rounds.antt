-- The rounds of the search at the top of a straight program: each takes a statement, until all are taken or all threads wait.
use Rattle.std.proofs.Common.{◌≡◌, ◌⊎◌, inl, inr, ℕ, zero, suc, ◌+◌, ◌<◌, ◌≤◌, Bool, true, false, cond, List, [], ◌∷◌, map, length, Option, Some, None, refl, sym, ap, ◌∙◌, subst, true≢false, arith}
use Rattle.std.specs.Prelude.{◌&&◌, ◌||◌, is_some, not, if◌then◌else◌, filter, Result, Ok, Err}
use Rattle.std.specs.List.{AllByRecursion}
use Rattle.brisk_values.specs.Names.{Name, same_name}
use Rattle.brisk_values.proofs.Changes.{exact_name, name_laws}
use Rattle.brisk_syntax.specs.declared.program.Program.{Program}
use Rattle.brisk_syntax.specs.declared.tree.Who.{Who}
use Rattle.brisk_syntax.specs.declared.tree.Who.TheVariants as who
use Rattle.brisk_syntax.specs.Classes.{is_local, talks_to}
use Rattle.brisk_syntax.specs.Syntax.{Expression, Statement, Assign, Send, Recv, If, IfElse, Code, done, ◌⨾◌, ◌then◌}
use Rattle.brisk_syntax.specs.Typing.{is_among}
use Rattle.brisk_seq.specs.Items.{Items}
use Rattle.brisk_state.specs.declared.thread.Mode.{Mode}
use Rattle.brisk_state.specs.declared.thread.Thread.{Thread}
use Rattle.brisk_state.specs.Symbolic.{Symbolic, thread_named, active_code, code_at, is_active, is_in_use}
use Rattle.brisk_basic.specs.declared.rule.Basic.TheVariants as rule
use Rattle.brisk_basic.specs.declared.rule.RuleFault.{RuleFault}
use Rattle.brisk_basic.specs.Basic.{Applied, apply}
use Rattle.brisk_basic.specs.Outcomes.{told_as}
use Rattle.brisk_derivation.specs.declared.steps.BasicStep.{BasicStep}
use Rattle.brisk_derivation.specs.declared.steps.BasicStep.TheVariants as basic
use Rattle.brisk_derivation.specs.Reports.{Tries}
use Rattle.brisk_derivation.specs.Steps.{Step}
use Rattle.brisk_rules.specs.declared.why.Why.{Why}
use Rattle.brisk_rules.specs.declared.why.Why.TheVariants as whys
use Rattle.brisk_rules.specs.Derives.{apply_quietly, rule_of}
use Rattle.brisk_rules.specs.Following.{nothing_follows}
use Rattle.brisk_rules.specs.Rules.{Outcome}
use Rattle.brisk_sound.proofs.Strict.{IsStrict, strict_applies, quietly, quietly_ok}
use Rattle.brisk_rules.specs.Standing.{has_code, is_movable, least_free, movable, resting, thread_names, thread_of}
use Rattle.brisk_search.specs.Turns.{Turn, Goes, Stays, Attempt, where_it_stays, first_of}
use Rattle.brisk_search.specs.Drives.{Way, Driven, Reached, Stuck, others, top, side_of}
use Rattle.brisk_search.specs.Advance.{Around, applied, basically, filled, acts, acts_for, actor, advance, at_code, passed_on, waits_for, unless_taken}
use Rattle.brisk_search.specs.Passes.{driver, rounds, round, after_round, after_step, longer, here, last_tries, without_owners}
use Rattle.brisk_straight.specs.Stuck.{Waits, IsStuck}
use Rattle.brisk_answered.proofs.Free.{some_free}
use Rattle.brisk_straight.proofs.Rules.{basic_gone, fill_applies, take_applies}
use Rattle.brisk_answered.proofs.Sides.{own_sides, BelowComes, stands_is, advances, local_turn, side_comes}
use Rattle.brisk_straight.proofs.States.{one_of, left_in, IsThread, IsStraightly, Gone, are_apart, code_there, head_talks, code_then, alone_gone}
use Rattle.brisk_straight.proofs.Events.{statements_then}

-- what holds of those that pass a test
pub kept_all : (A : Name → Type 0) (f : Name → Bool) (vs : List Name) → AllByRecursion A (filter f vs) → AllByRecursion (λ (v : Name). f v ≡ true → A v) vs
kept_all A f [] all = tt
kept_all A f (u ∷ us) all =
    elim (f u) as (λ b. f u ≡ b → AllByRecursion A (cond b (u ∷ filter f us) (filter f us)) → (f u ≡ true → A u) × AllByRecursion (λ (v : Name). f v ≡ true → A v) us) [
      | true ↦ λ e all. (λ h. all.0, kept_all A f us all.1)
      | false ↦ λ e all. (λ h. absurd (true≢false (sym h ∙ e)), kept_all A f us all)
    ] refl all

pub one_named : (A : Name → Type 0) (ts : List Thread) (t : Name) (c : Code) → active_code (thread_named ts t) ≡ Some c → AllByRecursion A (map (λ (u : Thread). u.name) ts) → A t
one_named A [] t c e all = cc
one_named A (u ∷ us) t c e all =
    elim (same_name t u.name) as (λ b. same_name t u.name ≡ b → active_code (if b then Some u else thread_named us t) ≡ Some c → A t) [
      | true ↦ λ same g. subst A (sym (exact_name t u.name same)) all.0
      | false ↦ λ other g. one_named A us t c g all.1
    ] refl e

-- nobody acts for a thread, or some thread does that isn't at a receive which it can't take
pub record Acts (around : Around) (S : Symbolic) (o : Option Name) : Type 0 where
  pub who : Name
  pub is : o ≡ Some who
  pub head : Statement
  pub rest : Code
  pub at : code_at S who ≡ Some (head ⨾ rest)
  pub waits : waits_for around S who (head ⨾ rest) ≡ None

pub who_acts : (around : Around) (room : ℕ) (S : Symbolic) (waiting : List Name) (t : Name) → (actor around room S waiting t ≡ None) ⊎ Acts around S (actor around room S waiting t)
who_acts around zero S waiting t = inl refl
who_acts around (suc room) S waiting t = by (who_acts around room S (t ∷ waiting)) (code_at S t) refl
  where
    by : ((u : Name) → (actor around room S (t ∷ waiting) u ≡ None) ⊎ Acts around S (actor around room S (t ∷ waiting) u)) → (o : Option Code) → code_at S t ≡ o →
        (at_code o (λ code. passed_on (actor around room S (t ∷ waiting)) waiting t (waits_for around S t code)) ≡ None) ⊎ Acts around S (at_code o (λ code. passed_on (actor around room S (t ∷ waiting)) waiting t (waits_for around S t code)))
    by later None e = inl refl
    by later (Some done) e = inl refl
    by later (Some (s ⨾ k)) e =
        elim (waits_for around S t (s ⨾ k)) as (λ o. waits_for around S t (s ⨾ k) ≡ o → (passed_on (actor around room S (t ∷ waiting)) waiting t o ≡ None) ⊎ Acts around S (passed_on (actor around room S (t ∷ waiting)) waiting t o)) [
          | None ↦ λ w. inr record { who = t; is = refl; head = s; rest = k; at = e; waits = w }
          | Some u ↦ λ w. elim (is_among waiting u) as (λ b. ((if b then None else actor around room S (t ∷ waiting) u) ≡ None) ⊎ Acts around S (if b then None else actor around room S (t ∷ waiting) u)) [
            | true ↦ inl refl
            | false ↦ later u
          ]
        ] refl

-- where nobody acts for it, a thread waits for another, or it has no code
pub nobody_acts : (around : Around) (S : Symbolic) (t : Name) (s : Statement) (k : Code) → code_at S t ≡ Some (s ⨾ k) → actor around (length S.threads) S [] t ≡ None → (u : Name) × (waits_for around S t (s ⨾ k) ≡ Some u)
nobody_acts around S t s k here none = by S.threads refl
  where
    must : (go : Name → Option Name) (o : Option Name) → passed_on go [] t o ≡ None → (u : Name) × (o ≡ Some u)
    must go None e = cc
    must go (Some u) e = (u, refl)

    by : (ts : List Thread) → S.threads ≡ ts → (u : Name) × (waits_for around S t (s ⨾ k) ≡ Some u)
    by [] e = let empty = ap (λ ts. active_code (thread_named ts t)) e in absurd (let both = sym here ∙ empty in cc)
    by (v ∷ vs) e =
        must (actor around (length vs) S (t ∷ [])) (waits_for around S t (s ⨾ k))
        (sym (ap (λ o. at_code o (λ code. passed_on (actor around (length vs) S (t ∷ [])) [] t (waits_for around S t code))) here) ∙ ap (λ ts. actor around (length ts) S [] t) (sym e) ∙ none)

unless_ok : (u : Name) (o : Outcome Applied) → unless_taken u o ≡ None → (r : Applied) × (o ≡ Ok r)
unless_ok u (Ok r) e = (r, refl)
unless_ok u (Err why) e = cc

unless_err : (u v : Name) (o : Outcome Applied) → unless_taken u o ≡ Some v → (why : Why) × (o ≡ Err why)
unless_err u v (Ok r) e = cc
unless_err u v (Err why) e = (why, refl)

module _ (P : Program) (ns : List Name) (most : ℕ) (few : most < 1000000) (strict : IsStrict P) where
  -- what is around the top's turns
  abbrev pub around : Around
  around = record { program = P; below = Some (driver P own_sides 255); side = side_of; follows = nothing_follows }

  abbrev Straight : Symbolic → Type 0
  Straight = IsStraightly ns 256 most

  -- a turn that takes a statement
  pub record Takes (S : Symbolic) (turn : Turn) : Type 0 where
    pub step : Step
    pub items : Items
    pub next : Symbolic
    pub is : turn ≡ Goes step items next None
    pub gone : Gone ns 256 most S next

  basic_turn : (S : Symbolic) (b : BasicStep) (r : Applied) → Straight S → apply_quietly P nothing_follows S (rule_of b) ≡ Ok r → Takes S (basically around S b [] None)
  basic_turn S b r s e = record { step = _; items = _; next = r.next; is = ap (λ o. applied b o [] None) e; gone = basic_gone ns 256 most S (rule_of b) r s (quietly_ok P nothing_follows S (rule_of b) r e) }

  below : BelowComes around.below 256
  below F S t a rest apart l less here = (driver P own_sides 255, refl, side_comes P 255 F S t a rest apart l (omega (arith, less)) here)

  -- a local head
  local_takes : (S : Symbolic) (t : Name) (s : Statement) (k : Code) → Straight S → is_local s ≡ true → code_at S t ≡ Some (s ⨾ k) → waits_for around S t (s ⨾ k) ≡ None → Takes S (acts around S t (s ⨾ k) [] None)
  local_takes S t s k st l here waits =
      let code = code_there ns 256 most S t (s ⨾ k) st here in
      let rest = (head_talks ns 256 most s k code).1 in
      let x = local_turn around 256 refl below S t s done k (are_apart ns 256 most S st) l refl (let sh = code.shallow in omega (arith, sh)) here in
      let sum = statements_then x.after k in
      record {
        step = x.step;
        items = x.items;
        next = x.next;
        is = sym (advances around S t s k [] here waits) ∙ x.is;
        gone = alone_gone ns 256 most S x.next t (s ⨾ k) (x.after then k) st here
            (code_then ns 256 most x.after k x.local (let a = x.shallow in let sh = code.shallow in omega (arith, a, sh)) rest)
            (let f = x.fewer in omega (arith, f, sum)) x.moves.threads x.moves.pending;
      }

  -- a box's number that is free
  record FreeNumber (S : Symbolic) : Type 0 where
    number : ℕ
    found : least_free S.pending ≡ Some number
    low : 1 ≤ number
    high : number ≤ 1000000
    unused : is_in_use S.pending number ≡ false

  free_number : (S : Symbolic) → Straight S → FreeNumber S
  free_number S st =
      let f = some_free 1000000 1 S.pending st.used st.uses (let h = st.few in omega (arith, h, few)) in
      record { number = f.0; found = f.1; low = f.2.low; high = (let h = f.2.high in omega (arith, h)); unused = f.2.unused }

  filled_takes : (S : Symbolic) (t C n : Name) (o : Option ℕ) (number : ℕ) → o ≡ Some number → Takes S (basically around S (basic.Fill t n C number) [] None) → Takes S (where_it_stays (filled around S t n C o) (Stays [] None))
  filled_takes S t C n o number e x = record { step = x.step; items = x.items; next = x.next; is = ap (λ o. filled around S t n C o [] None) e ∙ x.is; gone = x.gone }

  send_takes : (S : Symbolic) (t C : Name) (es : List Expression) (u : Who) (k : Code) → Straight S → one_of ns u ≡ true → code_at S t ≡ Some (Send C es u ⨾ k) → Takes S (acts around S t (Send C es u ⨾ k) [] None)
  send_takes S t C es (who.Name n) k st partner at =
      elim (apply_quietly P nothing_follows S (rule.Pass t n C)) as (λ o. apply_quietly P nothing_follows S (rule.Pass t n C) ≡ o → Takes S (where_it_stays (filled around S t n C (least_free S.pending)) (applied (basic.Pass t n C) o [] None))) [
        | Ok r ↦ λ e. record { step = _; items = _; next = r.next; is = refl; gone = basic_gone ns 256 most S (rule.Pass t n C) r st (quietly_ok P nothing_follows S (rule.Pass t n C) r e) }
        | Err why ↦ λ e.
            let free = free_number S st in
            let a = fill_applies ns 256 most S t C n es k free.number st partner at free.low free.high free.unused in
            filled_takes S t C n (least_free S.pending) free.number free.found (basic_turn S (basic.Fill t n C free.number) a.0 st (quietly P nothing_follows S (rule.Fill t n C free.number) a.0 refl a.1))
      ] refl
  send_takes S t C es (who.At s) k st partner at = cc
  send_takes S t C es (who.Pid p) k st partner at = cc

  -- a thread that acts takes a statement
  acting_takes : (S : Symbolic) (t : Name) (s : Statement) (k : Code) → Straight S → code_at S t ≡ Some (s ⨾ k) → waits_for around S t (s ⨾ k) ≡ None → talks_to (one_of ns) s ≡ true → Takes S (acts around S t (s ⨾ k) [] None)
  acting_takes S t (Send C es u) k st here waits talks = send_takes S t C es u k st talks here
  acting_takes S t (Recv C xs u) k st here waits talks =
      let x = unless_ok (thread_of u) (apply_quietly P nothing_follows S (rule.Take (thread_of u) t C)) waits in basic_turn S (basic.Take (thread_of u) t C) x.0 st x.1
  acting_takes S t (Assign x e) k st here waits talks = local_takes S t (Assign x e) k st talks here waits
  acting_takes S t (If e a) k st here waits talks = local_takes S t (If e a) k st talks here waits
  acting_takes S t (IfElse e a b) k st here waits talks = local_takes S t (IfElse e a b) k st talks here waits
  acting_takes S t s k st here waits talks = cc

  -- the turn of a thread takes a statement, or nobody acts in it
  turn_takes : (S : Symbolic) (t : Name) → Straight S → Takes S (advance around S t [] None) ⊎ (actor around (length S.threads) S [] t ≡ None)
  turn_takes S t st =
      elim (who_acts around (length S.threads) S [] t) [
        | inl none ↦ inr none
        | inr a ↦
            let talks = (head_talks ns 256 most a.head a.rest (code_there ns 256 most S a.who (a.head ⨾ a.rest) st a.at)).0 in
            let x = acting_takes S a.who a.head a.rest st a.at a.waits talks in
            inl record {
              step = x.step;
              items = x.items;
              next = x.next;
              is = ap (λ o. acts_for around S o [] None) a.is ∙ ap (λ c. acts around S a.who c [] None) (stands_is S a.who (a.head ⨾ a.rest) a.at) ∙ x.is;
              gone = x.gone;
            }
      ]

  -- so it is for the first of several
  pub record AllWait (S : Symbolic) (ts : List Name) : Type 0 where
    pub is : first_of (advance around S) ts [] None ≡ Stays [] None
    pub each : AllByRecursion (λ (t : Name). actor around (length S.threads) S [] t ≡ None) ts

  first_takes : (S : Symbolic) (ts : List Name) → Straight S → Takes S (first_of (advance around S) ts [] None) ⊎ AllWait S ts
  first_takes S [] st = inr record { is = refl; each = tt }
  first_takes S (t ∷ ts) st =
      elim (turn_takes S t st) [
        | inl x ↦ inl record { step = x.step; items = x.items; next = x.next; is = ap (where_it_stays (first_of (advance around S) ts)) x.is; gone = x.gone }
        | inr none ↦
            let stays : advance around S t [] None ≡ Stays [] None = ap (λ o. acts_for around S o [] None) none in
            let first = ap (where_it_stays (first_of (advance around S) ts)) stays in
            elim (first_takes S ts st) [
              | inl x ↦ inl record { step = x.step; items = x.items; next = x.next; is = first ∙ x.is; gone = x.gone }
              | inr w ↦ inr record { is = first ∙ w.is; each = (none, w.each) }
            ]
      ]

  -- no set is there: rules move each thread
  found_movable : (ts : List Thread) → AllByRecursion (IsThread ns 256 most) ts → (v : Name) → is_among (map (λ (u : Thread). u.name) ts) v ≡ true → is_some (active_code (thread_named ts v)) ≡ true
  found_movable [] all v e = cc
  found_movable (u ∷ us) all v e =
      elim (same_name v u.name) as (λ b. (b || is_among (map (λ (u : Thread). u.name) us) v) ≡ true → is_some (active_code (if b then Some u else thread_named us v)) ≡ true) [
        | true ↦ λ g. λ i. is_some (if is_active (all.0.mode i) then Some u.code else None)
        | false ↦ λ g. found_movable us all.1 v g
      ] e

  passed_by : (S : Symbolic) (ss : List Name) → ((v : Name) → is_among ss v ≡ true → is_movable S v ≡ true) → filter (λ (s : Name). not (is_movable S s) && has_code S s) ss ≡ []
  passed_by S [] h = refl
  passed_by S (s ∷ ss) h =
      ap (λ b. cond (not b && has_code S s) (s ∷ filter (λ (s : Name). not (is_movable S s) && has_code S s) ss) (filter (λ (s : Name). not (is_movable S s) && has_code S s) ss)) (h s (ap (λ b. b || is_among ss s) (name_laws.refl s)))
      ∙ passed_by S ss (λ v e. h v (more (same_name v s) e))
    where
      more : (b : Bool) {c : Bool} → c ≡ true → (b || c) ≡ true
      more true e = refl
      more false e = e

  no_sets : (S : Symbolic) → AllByRecursion (IsThread ns 256 most) S.threads → resting S ≡ []
  no_sets S all = passed_by S (thread_names S) (found_movable S.threads all)

  -- each thread with code is asked
  is_asked : (S : Symbolic) (t : Name) (c : Code) → code_at S t ≡ Some c → AllByRecursion (λ (u : Name). actor around (length S.threads) S [] u ≡ None) (others [] S) → actor around (length S.threads) S [] t ≡ None
  is_asked S t c here all =
      let A : Name → Type 0 = λ u. actor around (length S.threads) S [] u ≡ None in
      one_named (λ v. is_movable S v ≡ true → true ≡ true → A v) S.threads t c here
      (kept_all (λ v. true ≡ true → A v) (is_movable S) (thread_names S) (kept_all A (λ v. not (is_among [] v)) (movable S) all)) (ap is_some here) refl

  -- where nobody acts each thread waits for a message
  pub waiting : (S : Symbolic) (t : Name) (c : Code) → Straight S → code_at S t ≡ Some c → actor around (length S.threads) S [] t ≡ None → Waits S t c
  waiting S t done st here none = tt
  waiting S t (s ⨾ k) st here none =
      let w = nobody_acts around S t s k here none in
      at_head s k here w.1 (head_talks ns 256 most s k (code_there ns 256 most S t (s ⨾ k) st here)).0
    where
      refused : (o : Result Applied RuleFault) (why : Why) → told_as whys.Rule o ≡ Err why → (fault : RuleFault) × (o ≡ Err fault)
      refused (Ok r) why e = cc
      refused (Err fault) why e = (fault, refl)

      at_receive : (C : Name) (xs : List Name) (u : Who) (k : Code) → code_at S t ≡ Some (Recv C xs u ⨾ k) → {v : Name} → unless_taken (thread_of u) (apply_quietly P nothing_follows S (rule.Take (thread_of u) t C)) ≡ Some v → one_of ns u ≡ true → Waits S t (Recv C xs u ⨾ k)
      at_receive C xs (who.Name n) k here {v = v} w partner =
          let x = unless_err n v (apply_quietly P nothing_follows S (rule.Take n t C)) w in
          let y = refused (apply S (rule.Take n t C)) x.0 (sym (strict_applies P strict nothing_follows S (rule.Take n t C)) ∙ x.1) in take_applies ns 256 most S t C n xs k y.0 st partner here y.1
      at_receive C xs (who.At s) k here w partner = cc
      at_receive C xs (who.Pid p) k here w partner = cc

      at_head : (s : Statement) (k : Code) → code_at S t ≡ Some (s ⨾ k) → {v : Name} → waits_for around S t (s ⨾ k) ≡ Some v → talks_to (one_of ns) s ≡ true → Waits S t (s ⨾ k)
      at_head (Recv C xs u) k here w talks = at_receive C xs u k here w talks
      at_head s k here w talks = cc

  -- a round at the top takes a statement, or the state is stuck
  pub round_takes : (S : Symbolic) → Straight S → Takes S (round around top S [] None) ⊎ ((round around top S [] None ≡ Stays [] None) × IsStuck S)
  round_takes S st =
      let sets : Attempt = first_of (without_owners around S) (resting S) in
      elim (first_takes S (others [] S) st) [
        | inl x ↦ inl record { step = x.step; items = x.items; next = x.next; is = ap (where_it_stays sets) x.is; gone = x.gone }
        | inr w ↦ inr (
          ap (where_it_stays sets) w.is ∙ ap (λ ss. first_of (without_owners around S) ss [] None) (no_sets S st.threads),
          λ t c here. waiting S t c st here (is_asked S t c here w.each),
        )
      ]

  -- how the drive at the top ends: at its goal, or stuck with code left
  pub data Ends (o : Driven) : Type 0 where
    reached : (w : Way) → o ≡ Reached w None → Ends o
    waits : (w : Way) (tries : Tries) → o ≡ Stuck w tries None → Straight w.end → IsStuck w.end → top.goal w.end ≡ false → Ends o

  pub rounds_end : (m : ℕ) (S : Symbolic) → Straight S → left_in S.threads + 1 ≤ m → Ends (rounds around top m S None)
  rounds_end zero S st less = absurd (omega (arith, less))
  rounds_end (suc m) S st less = by (λ E s l. rounds_end m E s l) (top.goal S) refl
    where
      goes_on : (x : Takes S (round around top S [] None)) → Ends (rounds around top m x.next None) → Ends (after_round (rounds around top m) S (round around top S [] None))
      goes_on x (reached w is) = reached (longer x.step x.items w) (ap (after_round (rounds around top m) S) x.is ∙ ap (after_step x.step x.items) is)
      goes_on x (waits w tries is s stuck g) = waits (longer x.step x.items w) tries (ap (after_round (rounds around top m) S) x.is ∙ ap (after_step x.step x.items) is) s stuck g

      by : ((E : Symbolic) → Straight E → left_in E.threads + 1 ≤ m → Ends (rounds around top m E None)) → (b : Bool) → top.goal S ≡ b →
          Ends (if b then Reached (here S) None else after_round (rounds around top m) S (round around top S [] None))
      by later true e = reached (here S) refl
      by later false e =
          elim (round_takes S st) [
            | inl x ↦ goes_on x (later x.next x.gone.straight (let f = x.gone.fewer in omega (arith, f, less)))
            | inr p ↦ waits (here S) (last_tries [] S.threads) (ap (after_round (rounds around top m) S) p.0) st p.1 e
          ]
