-- A turn in the premise of a loop of the centre: it takes a statement, or who is asked waits.
use Rattle.std.proofs.Common.{◌≡◌, ◌⊎◌, inl, inr, ℕ, suc, ◌+◌, ◌<◌, ◌≤◌, Bool, true, false, List, [], ◌∷◌, ◌++◌, length, Option, Some, None, refl, sym, ap, ◌∙◌, subst, arith}
use Rattle.std.specs.Prelude.{◌&&◌, ◌||◌, not, if◌then◌else◌, nat_le, Result, Ok, Err}
use Rattle.std.specs.List.{AllByRecursion}
use Rattle.std.proofs.lemmas.Bool.{le-leb}
use Rattle.brisk_values.specs.declared.value.Value.{Value}
use Rattle.brisk_values.specs.Names.{Name, same_name}
use Rattle.brisk_values.proofs.Changes.{both_true, exact_name, name_laws, both_hold}
use Rattle.brisk_syntax.specs.declared.program.Program.{Program}
use Rattle.brisk_syntax.specs.declared.tree.Who.{Who}
use Rattle.brisk_syntax.specs.declared.tree.Who.TheVariants as who
use Rattle.brisk_syntax.specs.Classes.{every, is_local, all_local, is_named, talks_to}
use Rattle.brisk_syntax.specs.Counts.{statements_in, statements}
use Rattle.brisk_syntax.specs.Depths.{code_depth}
use Rattle.brisk_syntax.specs.Syntax.{Expression, Statement, Assign, Send, Recv, If, IfElse, While, Code, done, ◌⨾◌, ◌then◌}
use Rattle.brisk_seq.specs.Items.{Items}
use Rattle.brisk_seq.specs.Items as item
use Rattle.brisk_state.specs.declared.thread.Mode.{Mode}
use Rattle.brisk_state.specs.declared.thread.Mode.TheVariants.{One, At}
use Rattle.brisk_state.specs.declared.thread.Thread.{Thread}
use Rattle.brisk_state.specs.Symbolic.{Symbolic, key, with_code, code_at, is_in_use, numbers_at, with_numbers, stands_for, is_partner, partner_of, partner_by, thread_named}
use Rattle.brisk_basic.specs.declared.rule.Basic.TheVariants as rule
use Rattle.brisk_basic.specs.declared.rule.RuleFault.{RuleFault}
use Rattle.brisk_basic.specs.declared.rule.RuleFault.TheVariants.{BoxInUse}
use Rattle.brisk_basic.specs.Basic.{Applied, apply, at_thread, sends, receives, fill, take, decided, known}
use Rattle.brisk_basic.specs.Outcomes.{when}
use Rattle.brisk_derivation.specs.declared.steps.BasicStep.{BasicStep}
use Rattle.brisk_derivation.specs.declared.steps.BasicStep.TheVariants as basic
use Rattle.brisk_derivation.specs.Steps.{Step}
use Rattle.brisk_rules.specs.Following.{Follow}
use Rattle.brisk_rules.specs.declared.why.Why.{Why}
use Rattle.brisk_sound.proofs.Strict.{IsStrict, quietly, quietly_ok}
use Rattle.brisk_rules.specs.Derives.{apply_quietly, rule_of}
use Rattle.brisk_rules.specs.Rules.{Outcome, mode_of}
use Rattle.brisk_rules.proofs.Fulfilled.{same_ok}
use Rattle.brisk_rules.proofs.Threads.{modes, codes, moved}
use Rattle.brisk_facts.specs.Learning.{folded}
use Rattle.brisk_syntax.specs.Stores.{is_true}
use Rattle.brisk_rules.specs.Standing.{least_free, thread_of}
use Rattle.brisk_search.specs.Turns.{Turn, Goes, Stays, where_it_stays, first_of}
use Rattle.brisk_search.specs.Drives.{side_of}
use Rattle.brisk_search.specs.Advance.{Around, applied, basically, filled, acts, acts_for, actor, advance, waits_for, unless_taken}
use Rattle.brisk_search.specs.Passes.{driver}
use Rattle.brisk_rules.proofs.Readings.{is_active as reads_active}
use Rattle.brisk_straight.proofs.Events.{statements_then}
use Rattle.brisk_straight.proofs.Places.{stands_at}
use Rattle.brisk_straight.proofs.States.{left_in, depth_then}
use Rattle.brisk_answered.proofs.Free.{some_free}
use Rattle.brisk_answered.proofs.Rounds.{who_acts}
use Rattle.brisk_answered.proofs.Sides.{own_sides, BelowComes, stands_is, advances, local_turn, side_comes}
use Rattle.brisk_stars.specs.Threads.{at_in, served_at, IsStarThreads}
use Rattle.brisk_stars.specs.Words.{is_focus}
use Rattle.brisk_stars.proofs.Basics.{at_send, at_receive, focuses_it, basic_rules_keep_serving, to_code, named, unbegun_then}
use Rattle.brisk_stars.proofs.Keeping.{messages_then, every_then, local_messages}
use Rattle.brisk_stars.proofs.Loops.{runs_behind, unbegun_behind, every_behind}
use Rattle.brisk_stars.proofs.Outside.{Still, alone_still, basic_still}
use Rattle.brisk_stars.proofs.Room.{HasRoom, Takes, depth_there, alone_takes, basic_takes}
use Rattle.brisk_stars.proofs.Running.{local_then, local_then_runs, local_says}
use Rattle.std.proofs.Math.Bool.{or-true}

-- who is named by a partner's thread stands for it
focus_stands : (S : Symbolic) (s : Name) → modes S.threads s ≡ Some At → stands_for S s (who.At s) ≡ true
focus_stands S s e = by (thread_named S.threads s) refl e
  where
    by : (o : Option Thread) → thread_named S.threads s ≡ o → mode_of o ≡ Some At → is_partner (partner_of o) (who.At s) ≡ true
    by None is m = cc
    by (Some u) is m =
        let mode : u.mode ≡ At = cc in
        ap (λ z. is_partner (partner_by z u.name) (who.At s)) mode ∙ ap (λ n. same_name n s) (sym (named S.threads s u is)) ∙ name_laws.refl s

centre_stands : (S : Symbolic) (M : Name) → modes S.threads M ≡ Some One → stands_for S M (who.Name M) ≡ true
centre_stands S M e = by (thread_named S.threads M) refl e
  where
    by : (o : Option Thread) → thread_named S.threads M ≡ o → mode_of o ≡ Some One → is_partner (partner_of o) (who.Name M) ≡ true
    by None is m = cc
    by (Some u) is m =
        let mode : u.mode ≡ One = cc in
        ap (λ z. is_partner (partner_by z u.name) (who.Name M)) mode ∙ ap (λ n. same_name n M) (sym (named S.threads M u is)) ∙ name_laws.refl M

-- a send can be filled with a free number
fill_applies : (S : Symbolic) (t C n : Name) (es : List Expression) (w : Who) (rest : Code) (number : ℕ) → stands_for S n w ≡ true → code_at S t ≡ Some (Send C es w ⨾ rest) →
    1 ≤ number → number ≤ 1000000 → is_in_use S.pending number ≡ false → (r : Applied) × (apply S (rule.Fill t n C number) ≡ Ok r)
fill_applies S t C n es w rest number partner here low high unused =
    let r : Applied = record {
      statement = Some (item.Fill number t n es);
      next = record S { threads = with_code t rest S.threads; pending = with_numbers (key t n C) (numbers_at S.pending (key t n C) ++ number ∷ []) S.pending };
    } in (
      r,
      ap (λ o. at_thread o (λ code. fill S t n C number (sends S n C code))) here
          ∙ ap (λ b. fill S t n C number (if b then Some (es, rest) else None)) (both_hold (same_name C C) (stands_for S n w) (name_laws.refl C) partner)
          ∙ ap (λ b. when b BoxInUse (Ok r)) (both_hold (nat_le 1 number && nat_le number 1000000) (not (is_in_use S.pending number)) (both_hold (nat_le 1 number) (nat_le number 1000000) (le-leb 1 number low) (le-leb number 1000000 high)) (ap not unused)),
    )

-- a receive takes what pends, or nothing pends
pub take_applies : (S : Symbolic) (t C n : Name) (xs : List Name) (w : Who) (rest : Code) (why : RuleFault) → stands_for S n w ≡ true → code_at S t ≡ Some (Recv C xs w ⨾ rest) →
    apply S (rule.Take n t C) ≡ Err why → numbers_at S.pending (key n t C) ≡ []
take_applies S t C n xs w rest why partner here fails =
    let is = ap (λ o. at_thread o (λ code. take S n t C (receives S n C code) (numbers_at S.pending (key n t C)))) here
    ∙ ap (λ b. take S n t C (if b then Some (xs, rest) else None) (numbers_at S.pending (key n t C))) (both_hold (same_name C C) (stands_for S n w) (name_laws.refl C) partner) in
    elim (numbers_at S.pending (key n t C)) as (λ l. take S n t C (Some (xs, rest)) l ≡ Err why → l ≡ []) [
      | [] ↦ λ g. refl
      | m ∷ ms ↦ λ g. cc
    ] (sym is ∙ fails)

unless_ok : (u : Name) (o : Outcome Applied) → unless_taken u o ≡ None → (r : Applied) × (o ≡ Ok r)
unless_ok u (Ok r) e = (r, refl)
unless_ok u (Err why) e = cc

pub unless_err : (u v : Name) (o : Outcome Applied) → unless_taken u o ≡ Some v → (why : Why) × (o ≡ Err why)
unless_err u v (Ok r) e = cc
unless_err u v (Err why) e = (why, refl)

module _ (P : Program) (sizes : Name → ℕ) (M s : Name) (n depth most : ℕ) (deep : depth ≤ suc n) (few : most < 1000000) (strict : IsStrict P) (F : Follow) where
  -- what is around the turns of the premise
  abbrev pub around : Around
  around = record { program = P; below = Some (driver P own_sides n); side = side_of; follows = F }

  -- a state in the premise: the centre is at the body, which talks to the member in focus, and no thread but these two is moved
  pub record InPremise (S : Symbolic) : Type 0 where
    pub star : IsStarThreads sizes M S
    pub room : HasRoom depth most S
    pub body : every (talks_to (is_focus s)) (at_in S M) ≡ true
    pub focused : modes S.threads s ≡ Some At
    pub other : same_name M s ≡ false
    pub still : (u : Name) (c : Code) → same_name M u ≡ false → same_name s u ≡ false → code_at S u ≡ Some c → ⊥

  -- a turn that takes a statement and keeps to what serving comes
  pub record Steps (S : Symbolic) (turn : Turn) : Type 0 where
    pub step : Step
    pub items : Items
    pub next : Symbolic
    pub is : turn ≡ Goes step items next None
    pub premise : InPremise next
    pub served : served_at sizes M next ≡ served_at sizes M S
    pub fewer : left_in next.threads + 1 ≤ left_in S.threads
    pub ended : (u : Name) → at_in S u ≡ done → at_in next u ≡ done
    pub still : Still M s S next

  premise_after : (S E : Symbolic) → InPremise S → IsStarThreads sizes M E → Takes depth most S E → InPremise E
  premise_after S E p star takes = record {
    star = star;
    room = takes.room;
    body = takes.talk (is_focus s) M p.body;
    focused = ap (λ (f : Name → Option Mode). f s) takes.mode ∙ p.focused;
    other = p.other;
    still = λ u c far apart here. let m = moved E.threads u c here in p.still u (codes S.threads u) far apart (stands_at S.threads u (ap (λ (f : Name → Option Mode). reads_active (f u)) (sym takes.mode) ∙ m.active));
  }

  -- the two threads that are moved
  pub who_it_is : (S : Symbolic) (t : Name) (c : Code) → InPremise S → code_at S t ≡ Some c → (M ≡ t) ⊎ (s ≡ t)
  who_it_is S t c p here =
      elim (same_name M t) as (λ b. same_name M t ≡ b → (M ≡ t) ⊎ (s ≡ t)) [
        | true ↦ λ same. inl (exact_name M t same)
        | false ↦ λ far. elim (same_name s t) as (λ b. same_name s t ≡ b → (M ≡ t) ⊎ (s ≡ t)) [
          | true ↦ λ same. inr (exact_name s t same)
          | false ↦ λ apart. absurd (p.still t c far apart here)
        ] refl
      ] refl

  -- a thread's head talks to the other one
  pub record Head (S : Symbolic) (x : Statement) (k : Code) : Type 0 where
    pub test : Who → Bool
    pub talks : talks_to test x ≡ true
    pub more : every (talks_to test) k ≡ true
    pub partner : (w : Who) → test w ≡ true → stands_for S (thread_of w) w ≡ true

  pub to_focus : (S : Symbolic) → InPremise S → (w : Who) → is_focus s w ≡ true → stands_for S (thread_of w) w ≡ true
  to_focus S p (who.Name m) h = cc
  to_focus S p (who.At r) h = subst (λ (z : Name). stands_for S z (who.At z) ≡ true) (exact_name s r h) (focus_stands S s p.focused)
  to_focus S p (who.Pid q) h = cc

  pub to_centre : (S : Symbolic) → InPremise S → (w : Who) → is_named M w ≡ true → stands_for S (thread_of w) w ≡ true
  to_centre S p (who.Name m) h = subst (λ (z : Name). stands_for S z (who.Name z) ≡ true) (exact_name M m h) (centre_stands S M p.star.one)
  to_centre S p (who.At r) h = cc
  to_centre S p (who.Pid q) h = cc

  pub head : (S : Symbolic) (t : Name) (x : Statement) (k : Code) → InPremise S → code_at S t ≡ Some (x ⨾ k) → Head S x k
  head S t x k p here =
      let at = (moved S.threads t (x ⨾ k) here).stands in
      elim (who_it_is S t (x ⨾ k) p here) [
        | inl is ↦
            let h = both_true (talks_to (is_focus s) x) (every (talks_to (is_focus s)) k) (ap (every (talks_to (is_focus s))) (sym at ∙ ap (at_in S) (sym is)) ∙ p.body) in
            record { test = is_focus s; talks = h.0; more = h.1; partner = to_focus S p }
        | inr is ↦
            let h = both_true (talks_to (is_named M) x) (every (talks_to (is_named M)) k) (ap (every (talks_to (is_named M))) (sym at ∙ ap (at_in S) (sym is)) ∙ p.star.talk s p.other) in
            record { test = is_named M; talks = h.0; more = h.1; partner = to_centre S p }
      ]

  who_it_is_at : (S : Symbolic) → InPremise S → (t : Name) (c : Code) → code_at S t ≡ Some c → (M ≡ t) ⊎ (s ≡ t)
  who_it_is_at S p t c here = who_it_is S t c p here

  -- a message is of the member in focus
  keyed : (S : Symbolic) → InPremise S → (t u c : Name) (code : Code) → code_at S t ≡ Some code →
      ((p : List Expression × Code) × (sends S u c code ≡ Some p)) ⊎ ((p : List Name × Code) × (receives S u c code ≡ Some p)) → (same_name s t || same_name s u) ≡ true
  keyed S p t u c code here h =
      elim (who_it_is S t code p here) [
        | inr is ↦ ap (λ b. b || same_name s u) (ap (same_name s) (sym is) ∙ name_laws.refl s)
        | inl is ↦
            let at = sym (moved S.threads t code here).stands ∙ ap (at_in S) (sym is) in
            elim h [
              | inl x ↦
                  let y = at_send S u c code x.0 x.1 in
                  with_focus y.to (both_true (is_focus s y.to) (every (talks_to (is_focus s)) x.0.1) (ap (every (talks_to (is_focus s))) (sym y.is ∙ at) ∙ p.body)).0 y.stands
              | inr x ↦
                  let y = at_receive S u c code x.0 x.1 in
                  with_focus y.from (both_true (is_focus s y.from) (every (talks_to (is_focus s)) x.0.1) (ap (every (talks_to (is_focus s))) (sym y.is ∙ at) ∙ p.body)).0 y.stands
            ]
      ]
    where
      with_focus : (w : Who) → is_focus s w ≡ true → stands_for S u w ≡ true → (same_name s t || same_name s u) ≡ true
      with_focus (who.Name m) f g = cc
      with_focus (who.At r) f g = ap (λ b. same_name s t || b) (ap (same_name s) (focuses_it S u r g) ∙ f) ∙ or-true (same_name s t)
      with_focus (who.Pid q) f g = cc

  -- a known choice takes a statement
  side_takes : (S : Symbolic) (t : Name) (x : Statement) (rest a : Code) (E : Symbolic) → InPremise S → code_at S t ≡ Some (x ⨾ rest) → all_local a ≡ true → code_depth a ≤ depth → statements a + 1 ≤ statements_in x →
      E.threads ≡ with_code t (a then rest) S.threads → E.pending ≡ S.pending → Takes depth most S E
  side_takes S t x rest a E p here l shallow less threads pending =
      let d = depth_there depth most S t (x ⨾ rest) p.room here in
      let e = depth_then a rest in
      let m = statements_then a rest in
      alone_takes depth most S E t (x ⨾ rest) (a then rest) p.room here (omega (arith, d, e, shallow)) (omega (arith, m, less))
      (λ test h. every_then test a rest l (both_true (talks_to test x) (every (talks_to test) rest) h).1) threads pending

  decided_takes : (S : Symbolic) (t : Name) (so otherwise : Code) (o : Option Value) (r : Applied) → decided S t o so otherwise ≡ Ok r → ((E : Symbolic) → E.threads ≡ with_code t so S.threads → E.pending ≡ S.pending → Takes depth most S E) →
      ((E : Symbolic) → E.threads ≡ with_code t otherwise S.threads → E.pending ≡ S.pending → Takes depth most S E) → Takes depth most S r.next
  decided_takes S t so otherwise None r g one two = cc
  decided_takes S t so otherwise (Some v) r g one two =
      subst (λ (z : Applied). Takes depth most S z.next) (same_ok _ r g)
      (elim (is_true v) as (λ b. Takes depth most S record S { threads = with_code t (if b then so else otherwise) S.threads }) [ true ↦ one _ refl refl | false ↦ two _ refl refl ])

  known_takes : (S : Symbolic) (r : Applied) → InPremise S → (t : Name) (c : Code) → code_at S t ≡ Some c → known S t c ≡ Ok r → Takes depth most S r.next
  known_takes S r p t (If e a ⨾ rest) here g =
      let h = head S t (If e a) rest p here in
      let d = depth_there depth most S t (If e a ⨾ rest) p.room here in
      decided_takes S t (a then rest) rest (folded S.facts t e) r g
      (λ E threads pending. side_takes S t (If e a) rest a E p here h.talks (omega (arith, d)) (omega arith) threads pending)
      (λ E threads pending. side_takes S t (If e a) rest done E p here refl (omega arith) (omega arith) threads pending)
  known_takes S r p t (IfElse e a b ⨾ rest) here g =
      let h = head S t (IfElse e a b) rest p here in
      let l = both_true (all_local a) (all_local b) h.talks in
      let d = depth_there depth most S t (IfElse e a b ⨾ rest) p.room here in
      decided_takes S t (a then rest) (b then rest) (folded S.facts t e) r g
      (λ E threads pending. side_takes S t (IfElse e a b) rest a E p here l.0 (omega (arith, d)) (omega arith) threads pending)
      (λ E threads pending. side_takes S t (IfElse e a b) rest b E p here l.1 (omega (arith, d)) (omega arith) threads pending)
  known_takes S r p t (While e b ⨾ rest) here g = let h = (head S t (While e b) rest p here).talks in cc
  known_takes S r p t c here g = cc

  basic_turn : (S : Symbolic) (b : BasicStep) (r : Applied) → InPremise S → apply_quietly P F S (rule_of b) ≡ Ok r → Steps S (basically around S b [] None)
  basic_turn S b r p quiet =
      let e = quietly_ok P F S (rule_of b) r quiet in
      let keeps = basic_rules_keep_serving sizes M S (rule_of b) r p.star e in
      let takes = basic_takes depth most S (rule_of b) r p.room e (known_takes S r p) in
      record { step = _; items = _; next = r.next; is = ap (λ o. applied b o [] None) quiet; premise = premise_after S r.next p keeps.0 takes; served = keeps.1; fewer = takes.fewer; ended = takes.ended; still = basic_still M s S (who_it_is_at S p) (keyed S p) (rule_of b) r e }

  below : BelowComes around.below (suc n)
  below V S t a rest apart l less here = (driver P own_sides n, refl, side_comes P n V S t a rest apart l (omega (arith, less)) here)

  -- a local head
  local_steps : (S : Symbolic) (t : Name) (x : Statement) (k : Code) → InPremise S → is_local x ≡ true → code_at S t ≡ Some (x ⨾ k) → waits_for around S t (x ⨾ k) ≡ None → Steps S (acts around S t (x ⨾ k) [] None)
  local_steps S t x k p l here waits =
      let d = depth_there depth most S t (x ⨾ k) p.room here in
      let y = local_turn around (suc n) refl below S t x done k p.room.apart l refl (omega (arith, d, deep)) here in
      let one : all_local (x ⨾ done) ≡ true = both_hold (is_local x) true l refl in
      let keeps = to_code sizes M S p.star y.next t (x ⨾ k) (y.after then k) here y.moves.threads y.moves.pending (local_then sizes y.after k y.local ∙ sym (local_says sizes x k l)) (messages_then y.after k y.local ∙ sym (local_messages x k l))
      (λ h. local_then_runs sizes M y.after k y.local (runs_behind sizes M (x ⨾ done) k one h)) (λ h. unbegun_then y.after k y.local (unbegun_behind (x ⨾ done) k h)) (λ h. every_then (is_named M) y.after k y.local (every_behind (talks_to (is_named M)) (x ⨾ done) k h)) in
      let e = depth_then y.after k in
      let m = statements_then y.after k in
      let takes = alone_takes depth most S y.next t (x ⨾ k) (y.after then k) p.room here (let a = y.shallow in omega (arith, d, e, a)) (let f = y.fewer in omega (arith, f, m))
      (λ test h. every_then test y.after k y.local (every_behind (talks_to test) (x ⨾ done) k h)) y.moves.threads y.moves.pending in
      record { step = y.step; items = y.items; next = y.next; is = sym (advances around S t x k [] here waits) ∙ y.is; premise = premise_after S y.next p keeps.0 takes; served = keeps.1; fewer = takes.fewer; ended = takes.ended; still = alone_still M s S (who_it_is_at S p) (keyed S p) y.next t (x ⨾ k) (y.after then k) here y.moves.threads y.moves.pending }

  filled_steps : (S : Symbolic) (t u C : Name) (o : Option ℕ) (number : ℕ) → o ≡ Some number → Steps S (basically around S (basic.Fill t u C number) [] None) → Steps S (where_it_stays (filled around S t u C o) (Stays [] None))
  filled_steps S t u C o number e x = record { step = x.step; items = x.items; next = x.next; is = ap (λ o. filled around S t u C o [] None) e ∙ x.is; premise = x.premise; served = x.served; fewer = x.fewer; ended = x.ended; still = x.still }

  send_steps : (S : Symbolic) (t C : Name) (es : List Expression) (w : Who) (k : Code) → InPremise S → stands_for S (thread_of w) w ≡ true → code_at S t ≡ Some (Send C es w ⨾ k) → Steps S (acts around S t (Send C es w ⨾ k) [] None)
  unfolding basic_turn
  send_steps S t C es w k p partner at =
      elim (apply_quietly P F S (rule.Pass t (thread_of w) C)) as (λ o. apply_quietly P F S (rule.Pass t (thread_of w) C) ≡ o → Steps S (where_it_stays (filled around S t (thread_of w) C (least_free S.pending)) (applied (basic.Pass t (thread_of w) C) o [] None))) [
        | Ok r ↦ λ e. let x = basic_turn S (basic.Pass t (thread_of w) C) r p e in
            record { step = _; items = _; next = r.next; is = refl; premise = x.premise; served = x.served; fewer = x.fewer; ended = x.ended; still = x.still }
        | Err why ↦ λ e.
            let f = some_free 1000000 1 S.pending p.room.used p.room.uses (let h = p.room.few in omega (arith, h, few)) in
            let a = fill_applies S t C (thread_of w) es w k f.0 partner at f.2.low (let h = f.2.high in omega (arith, h)) f.2.unused in
            filled_steps S t (thread_of w) C (least_free S.pending) f.0 f.1 (basic_turn S (basic.Fill t (thread_of w) C f.0) a.0 p (quietly P F S (rule.Fill t (thread_of w) C f.0) a.0 refl a.1))
      ] refl

  -- a thread that acts takes a statement
  acting_steps : (S : Symbolic) (t : Name) (x : Statement) (k : Code) → InPremise S → code_at S t ≡ Some (x ⨾ k) → waits_for around S t (x ⨾ k) ≡ None → Steps S (acts around S t (x ⨾ k) [] None)
  acting_steps S t (Send C es w) k p here waits = let h = head S t (Send C es w) k p here in send_steps S t C es w k p (h.partner w h.talks) here
  acting_steps S t (Recv C xs w) k p here waits =
      let x = unless_ok (thread_of w) (apply_quietly P F S (rule.Take (thread_of w) t C)) waits in basic_turn S (basic.Take (thread_of w) t C) x.0 p x.1
  acting_steps S t (Assign x e) k p here waits = local_steps S t (Assign x e) k p refl here waits
  acting_steps S t (If e a) k p here waits = local_steps S t (If e a) k p (head S t (If e a) k p here).talks here waits
  acting_steps S t (IfElse e a b) k p here waits = local_steps S t (IfElse e a b) k p (head S t (IfElse e a b) k p here).talks here waits
  acting_steps S t x k p here waits = let h = (head S t x k p here).talks in cc

  -- the turn of a thread takes a statement, or nobody acts in it
  pub turn_steps : (S : Symbolic) (t : Name) → InPremise S → Steps S (advance around S t [] None) ⊎ (actor around (length S.threads) S [] t ≡ None)
  turn_steps S t p =
      elim (who_acts around (length S.threads) S [] t) [
        | inl none ↦ inr none
        | inr a ↦
            let x = acting_steps S a.who a.head a.rest p a.at a.waits in
            inl record {
              step = x.step;
              items = x.items;
              next = x.next;
              is = ap (λ o. acts_for around S o [] None) a.is ∙ ap (λ c. acts around S a.who c [] None) (stands_is S a.who (a.head ⨾ a.rest) a.at) ∙ x.is;
              premise = x.premise;
              served = x.served;
              fewer = x.fewer;
              ended = x.ended;
              still = x.still;
            }
      ]

  -- so it is for the first of several
  pub record AllWait (S : Symbolic) (ts : List Name) : Type 0 where
    pub is : first_of (advance around S) ts [] None ≡ Stays [] None
    pub each : AllByRecursion (λ (t : Name). actor around (length S.threads) S [] t ≡ None) ts

  pub first_steps : (S : Symbolic) (ts : List Name) → InPremise S → Steps S (first_of (advance around S) ts [] None) ⊎ AllWait S ts
  first_steps S [] p = inr record { is = refl; each = tt }
  first_steps S (t ∷ ts) p =
      elim (turn_steps S t p) [
        | inl x ↦ inl record { step = x.step; items = x.items; next = x.next; is = ap (where_it_stays (first_of (advance around S) ts)) x.is; premise = x.premise; served = x.served; fewer = x.fewer; ended = x.ended; still = x.still }
        | inr none ↦
            let stays : advance around S t [] None ≡ Stays [] None = ap (λ o. acts_for around S o [] None) none in
            let first = ap (where_it_stays (first_of (advance around S) ts)) stays in
            elim (first_steps S ts p) [
              | inl x ↦ inl record { step = x.step; items = x.items; next = x.next; is = first ∙ x.is; premise = x.premise; served = x.served; fewer = x.fewer; ended = x.ended; still = x.still }
              | inr w ↦ inr record { is = first ∙ w.is; each = (none, w.each) }
            ]
      ]
