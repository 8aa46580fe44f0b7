-- The search goes through local code: a drive of a branch's side comes to its goal.
use Rattle.std.proofs.Common.{◌≡◌, ℕ, zero, suc, ◌+◌, ◌≤◌, Bool, true, false, List, [], ◌∷◌, length, Option, Some, None, refl, sym, ap, ◌∙◌, subst, arith}
use Rattle.std.specs.Prelude.{if◌then◌else◌, Result, Ok}
use Rattle.std.specs.List.{list_any}
use Rattle.std.proofs.lemmas.Option.{same_Some}
use Rattle.brisk_values.specs.declared.value.Value.{Value}
use Rattle.brisk_values.specs.Names.{Name, same_name}
use Rattle.brisk_values.proofs.Changes.{both_true}
use Rattle.brisk_syntax.specs.declared.program.Program.{Program}
use Rattle.brisk_syntax.specs.Classes.{is_local, all_local}
use Rattle.brisk_syntax.specs.Counts.{statements_in, statements}
use Rattle.brisk_syntax.specs.Depths.{code_depth}
use Rattle.brisk_syntax.specs.Stores.{is_true}
use Rattle.brisk_syntax.specs.Syntax.{Expression, Statement, Assign, If, IfElse, Code, done, ◌⨾◌, ◌then◌}
use Rattle.brisk_seq.specs.Items.{Items, nothing, ◌⨟◌}
use Rattle.brisk_seq.specs.Items as item
use Rattle.brisk_facts.specs.Facts.{common}
use Rattle.brisk_facts.specs.Learning.{folded}
use Rattle.brisk_state.specs.declared.thread.Thread.{Thread}
use Rattle.brisk_state.specs.Same.{same_code}
use Rattle.brisk_state.specs.Symbolic.{Symbolic, thread_named, with_code, active_code, code_at}
use Rattle.brisk_state.specs.Symbolic as symbolic
use Rattle.brisk_state.proofs.Threads.{exact_code, code_itself}
use Rattle.brisk_basic.specs.Basic.{Applied, assign, at_thread, decided, known}
use Rattle.brisk_derivation.specs.declared.steps.BasicStep.TheVariants as basic
use Rattle.brisk_derivation.specs.Steps.{Step, Basic, Branch, no_steps}
use Rattle.brisk_basic.specs.Outcomes.{and_then, told_as}
use Rattle.brisk_rules.specs.declared.why.Why.TheVariants.{Rule}
use Rattle.brisk_rules.specs.Following.{Follow}
use Rattle.brisk_rules.specs.Heads.{fork_of}
use Rattle.brisk_rules.specs.Rules.{fault_or, Parted, around_sides, enter_branch, side}
use Rattle.brisk_sound.proofs.Control.{then_assoc}
use Rattle.brisk_rules.proofs.Threads.{moved}
use Rattle.brisk_rules.specs.Standing.{stands_at, has_code}
use Rattle.brisk_search.specs.Turns.{Failures, Turn, Goes, stay, ◌otherwise◌, where_it_stays, first_of}
use Rattle.brisk_search.specs.Drives.{Drive, Way, Driven, Reached, Driver, others, side_of}
use Rattle.brisk_search.specs.Tries.{entered, refused, first_driven, second_driven, joined, branch}
use Rattle.brisk_search.specs.Advance.{Around, applied, basically, acts, acts_for, actor, advance, at_code, passed_on, waits_for}
use Rattle.brisk_search.specs.Passes.{Sides, driver, rounds, round, after_round, after_step, longer, enough, here}
use Rattle.brisk_answered.proofs.Fuel.{enough_is}
use Rattle.brisk_straight.specs.Local.{AreApart, Moves}
use Rattle.brisk_straight.proofs.Events.{statements_then}
use Rattle.brisk_straight.proofs.Local.{in_place, moves_then, joins_same, branch_entered, side_moves, apart_after}
use Rattle.brisk_straight.proofs.Places.{stands_after}
use Rattle.brisk_straight.proofs.Rules.{behind_less}
use Rattle.brisk_straight.proofs.States.{left_in, left_cons, depth_then, all_local_then}

-- the sides of pass one
abbrev pub own_sides : Sides
own_sides around t rest = side_of t rest

-- a drive comes to where t stands at the rest, and nothing else changes but facts
pub record Comes (S : Symbolic) (t : Name) (rest : Code) (o : Driven) : Type 0 where
  pub way : Way
  pub is : o ≡ Reached way None
  pub moves : Moves S t rest way.end

-- a turn by which t goes on in local code before the rest
pub record LocalTurn (S : Symbolic) (t : Name) (a rest : Code) (turn : Turn) : Type 0 where
  pub step : Step
  pub items : Items
  pub next : Symbolic
  pub after : Code
  pub is : turn ≡ Goes step items next None
  pub moves : Moves S t (after then rest) next
  pub local : all_local after ≡ true
  pub shallow : code_depth after ≤ code_depth a
  pub fewer : statements after + 1 ≤ statements a

-- what a drive one level below does with a side of local code
abbrev pub BelowComes : Option Driver → ℕ → Type 0
BelowComes below n =
    (F : Follow) (S : Symbolic) (t : Name) (a rest : Code) → AreApart S → all_local a ≡ true → suc (code_depth a) ≤ n → code_at S t ≡ Some (a then rest) →
    (drive : Driver) × (below ≡ Some drive) × Comes S t rest (drive F (side_of t rest) S None)

-- a thread has code where it stands
pub stands_is : (S : Symbolic) (t : Name) (c : Code) → code_at S t ≡ Some c → stands_at S t ≡ c
stands_is S t c e = (moved S.threads t c e).stands

-- the statements of a thread are among those that are left
pub among_left : (ts : List Thread) (t : Name) (c : Code) → active_code (thread_named ts t) ≡ Some c → statements c ≤ left_in ts
among_left [] t c e = cc
among_left (u ∷ us) t c e =
    let sum = left_cons u us in
    elim (same_name t u.name) as (λ b. active_code (if b then Some u else thread_named us t) ≡ Some c → statements c ≤ left_in (u ∷ us)) [
      | true ↦ λ g. (let same = ap statements (code_is (symbolic.is_active u.mode) g) in omega (arith, sum, same))
      | false ↦ λ g. (let more = among_left us t c g in omega (arith, sum, more))
    ] e
  where
    code_is : (b : Bool) → (if b then Some u.code else None) ≡ Some c → u.code ≡ c
    code_is true g = cc
    code_is false g = cc

-- a thread that isn't at a receive acts itself
pub acts_itself : (around : Around) (S : Symbolic) (t : Name) (s : Statement) (k : Code) → code_at S t ≡ Some (s ⨾ k) → waits_for around S t (s ⨾ k) ≡ None → actor around (length S.threads) S [] t ≡ Some t
acts_itself around S t s k here waits = by S.threads refl
  where
    go : ℕ → Name → Option Name
    go room = actor around room S (t ∷ [])

    by : (ts : List Thread) → S.threads ≡ ts → actor around (length ts) S [] t ≡ Some t
    by [] e = let none = ap (λ ts. active_code (thread_named ts t)) e in absurd (let both = sym here ∙ none in cc)
    by (u ∷ us) e = ap (λ o. at_code o (λ code. passed_on (actor around (length us) S (t ∷ [])) [] t (waits_for around S t code))) here ∙ ap (passed_on (actor around (length us) S (t ∷ [])) [] t) waits

-- so it acts where it stands
pub advances : (around : Around) (S : Symbolic) (t : Name) (s : Statement) (k : Code) (failures : Failures) → code_at S t ≡ Some (s ⨾ k) → waits_for around S t (s ⨾ k) ≡ None →
    advance around S t failures None ≡ acts around S t (s ⨾ k) failures None
advances around S t s k failures here waits =
    ap (λ o. acts_for around S o failures None) (acts_itself around S t s k here waits) ∙ ap (λ c. acts around S t c failures None) (stands_is S t (s ⨾ k) here)

module _ (around : Around) (n : ℕ) (own : around.side ≡ side_of) (below : BelowComes around.below n) where
  assign_turn : (S : Symbolic) (t x : Name) (e : Expression) (a rest : Code) → all_local a ≡ true → code_at S t ≡ Some (Assign x e ⨾ (a then rest)) →
      LocalTurn S t (Assign x e ⨾ a) rest (acts around S t (Assign x e ⨾ (a then rest)) [] None)
  assign_turn S t x e a rest l here = record {
    step = _;
    items = _;
    next = _;
    after = a;
    is = ap (λ o. applied (basic.Assign t) (and_then (told_as Rule (at_thread o (assign S t))) (fault_or None)) [] None) here;
    moves = record { threads = refl; pending = refl };
    local = l;
    shallow = omega arith;
    fewer = omega arith;
  }

  -- a choice: by what is known, or by a branch
  pub choice_turn : (S : Symbolic) (t : Name) (s : Statement) (e : Expression) (m w a rest : Code) → AreApart S → all_local a ≡ true → all_local m ≡ true → all_local w ≡ true → code_at S t ≡ Some (s ⨾ (a then rest)) →
      known S t (s ⨾ (a then rest)) ≡ decided S t (folded S.facts t e) (m then (a then rest)) (w then (a then rest)) →
      fork_of (s ⨾ (a then rest)) ≡ Some record { guard = e; first = m then (a then rest); second = w then (a then rest) } →
      suc (code_depth m) ≤ n → suc (code_depth w) ≤ n → code_depth m ≤ code_depth (s ⨾ a) → code_depth w ≤ code_depth (s ⨾ a) → statements m + 1 ≤ statements_in s → statements w + 1 ≤ statements_in s →
      LocalTurn S t (s ⨾ a) rest ((basically around S (basic.Known t) otherwise branch around.below around.follows (around.side t (a then rest)) S t) [] None)
  choice_turn S t s e m w a rest apart l lm lw here knows fork dm dw shm shw fm fw =
      let go : Result Applied _ → Turn = λ o. where_it_stays (branch around.below around.follows (around.side t (a then rest)) S t) (applied (basic.Known t) (and_then (told_as Rule o) (fault_or None)) [] None) in
      let applies = ap (λ o. at_thread o (known S t)) here ∙ knows in
      subst (LocalTurn S t (s ⨾ a) rest) (sym (ap go applies)) (by (folded S.facts t e))
    where
      to_side : (v : Code) → all_local v ≡ true → code_depth v ≤ code_depth (s ⨾ a) → statements v + 1 ≤ statements_in s →
          LocalTurn S t (s ⨾ a) rest (Goes (Basic (basic.Known t)) nothing record S { threads = with_code t (v then (a then rest)) S.threads } None)
      to_side v lv sh f = record {
        step = _;
        items = _;
        next = record S { threads = with_code t (v then (a then rest)) S.threads };
        after = v then a;
        is = refl;
        moves = record { threads = ap (λ c. with_code t c S.threads) (sym (then_assoc v a rest)); pending = refl };
        local = all_local_then v a lv l;
        shallow = (let d = depth_then v a in omega (arith, d, sh));
        fewer = (let d = statements_then v a in omega (arith, d, f));
      }

      by : (o : Option Value) → LocalTurn S t (s ⨾ a) rest (where_it_stays (branch around.below around.follows (around.side t (a then rest)) S t) (applied (basic.Known t) (and_then (told_as Rule (decided S t o (m then (a then rest)) (w then (a then rest)))) (fault_or None)) [] None))
      by (Some v) =
          elim (is_true v) as (λ b. LocalTurn S t (s ⨾ a) rest (Goes (Basic (basic.Known t)) nothing record S { threads = with_code t (if b then m then (a then rest) else w then (a then rest)) S.threads } None)) [
            | true ↦ to_side m lm shm fm
            | false ↦ to_side w lw shw fw
          ]
      by None =
          let d = side_of t (a then rest) in
          let S1 = side S t e true (m then (a then rest)) in
          let S2 = side S t e false (w then (a then rest)) in
          let p : Parted = record { first = S1; second = S2; owner = t; guard = e } in
          let enters : enter_branch S t ≡ Ok p = branch_entered S t (s ⨾ (a then rest)) record { guard = e; first = m then (a then rest); second = w then (a then rest) } here fork in
          let x = below around.follows S1 t m (a then rest) (apart_after S S1 t (m then (a then rest)) apart (side_moves S t e true (m then (a then rest)))) lm dm (stands_after S.threads t (s ⨾ (a then rest)) (m then (a then rest)) here) in
          let y' = below around.follows S2 t w (a then rest) (apart_after S S2 t (w then (a then rest)) apart (side_moves S t e false (w then (a then rest)))) lw dw (stands_after S.threads t (s ⨾ (a then rest)) (w then (a then rest)) here) in
          let same : y'.0 ≡ x.0 = same_Some y'.0 x.0 (sym y'.1 ∙ x.1) in
          let y : Comes S2 t (a then rest) (x.0 around.follows d S2 None) = subst (λ (f : Driver). Comes S2 t (a then rest) (f around.follows d S2 None)) same y'.2 in
          let one = moves_then S S1 x.2.way.end t (m then (a then rest)) (a then rest) (side_moves S t e true (m then (a then rest))) x.2.moves in
          let two = moves_then S S2 y.way.end t (w then (a then rest)) (a then rest) (side_moves S t e false (w then (a then rest))) y.moves in
          let joins = joins_same x.2.way.end y.way.end (one.threads ∙ sym two.threads) (one.pending ∙ sym two.pending) in
          record {
            step = Branch t x.2.way.steps y.way.steps;
            items = around_sides p x.2.way.items y.way.items ⨟ nothing;
            next = record x.2.way.end { facts = common x.2.way.end.facts y.way.end.facts };
            after = a;
            is =
                ap (λ (z : Name → Code → Drive). branch around.below around.follows (z t (a then rest)) S t [] None) own
                ∙ ap (λ (o : Option Driver). branch o around.follows d S t [] None) x.1
                ∙ ap (λ o. entered (Some x.0) o (λ why. refused t (Branch t no_steps no_steps) why [] None) (λ driver q. first_driven driver around.follows d t q (driver around.follows d q.first None) [])) enters
                ∙ ap (λ o. first_driven x.0 around.follows d t p o []) x.2.is
                ∙ ap (λ o. second_driven t p x.2.way o []) y.is
                ∙ ap (λ o. joined t p x.2.way y.way o [] None) joins;
            moves = record { threads = one.threads; pending = one.pending };
            local = l;
            shallow = omega arith;
            fewer = omega arith;
          }

  -- a turn of a thread at local code
  pub local_turn : (S : Symbolic) (t : Name) (s : Statement) (a rest : Code) → AreApart S → is_local s ≡ true → all_local a ≡ true → code_depth (s ⨾ a) ≤ n → code_at S t ≡ Some (s ⨾ (a then rest)) →
      LocalTurn S t (s ⨾ a) rest (advance around S t [] None)
  local_turn S t (Assign x e) a rest apart ls l sh here =
      subst (LocalTurn S t (Assign x e ⨾ a) rest) (sym (advances around S t (Assign x e) (a then rest) [] here refl)) (assign_turn S t x e a rest l here)
  local_turn S t (If e b) a rest apart ls l sh here =
      subst (LocalTurn S t (If e b ⨾ a) rest) (sym (advances around S t (If e b) (a then rest) [] here refl))
      (choice_turn S t (If e b) e b done a rest apart l ls refl here refl refl (omega (arith, sh)) (omega (arith, sh)) (omega arith) (omega arith) (omega arith) (omega arith))
  local_turn S t (IfElse e b c) a rest apart ls l sh here =
      let k = both_true (all_local b) (all_local c) ls in
      subst (LocalTurn S t (IfElse e b c ⨾ a) rest) (sym (advances around S t (IfElse e b c) (a then rest) [] here refl))
      (choice_turn S t (IfElse e b c) e b c a rest apart l k.0 k.1 here refl refl (omega (arith, sh)) (omega (arith, sh)) (omega arith) (omega arith) (omega arith) (omega arith))
  local_turn S t s a rest apart ls l sh here = cc

  -- the rounds of a side's drive
  rounds_come : (m : ℕ) (S : Symbolic) (t : Name) (a rest : Code) → AreApart S → all_local a ≡ true → code_depth a ≤ n → statements a + 1 ≤ m → code_at S t ≡ Some (a then rest) →
      Comes S t rest (rounds around (side_of t rest) m S None)
  rounds_come zero S t a rest apart l sh less at = absurd (omega (arith, less))
  rounds_come (suc m) S t done rest apart l sh less at = record {
    way = here S;
    is = ap (λ b. if b then Reached (here S) None else after_round (rounds around (side_of t rest) m) S (round around (side_of t rest) S [] None)) (ap (λ c. same_code c rest) (stands_is S t rest at) ∙ code_itself rest);
    moves = in_place S rest apart at;
  }
  rounds_come (suc m) S t (s ⨾ a) rest apart l sh less at =
      let d = side_of t rest in
      let h = both_true (is_local s) (all_local a) l in
      let x = local_turn S t s a rest apart h.0 h.1 sh at in
      let more = if list_any (has_code S) (t ∷ []) then others (t ∷ []) S else others (t ∷ []) S in
      let goes : round around d S [] None ≡ Goes x.step x.items x.next None = ap (λ z. where_it_stays stay (where_it_stays (first_of (advance around S) more) z)) x.is in
      let at_next : code_at x.next t ≡ Some (x.after then rest) = ap (λ ts. active_code (thread_named ts t)) x.moves.threads ∙ stands_after S.threads t (s ⨾ (a then rest)) (x.after then rest) at in
      let y = rounds_come m x.next t x.after rest (apart_after S x.next t (x.after then rest) apart x.moves) x.local (let k = x.shallow in omega (arith, k, sh)) (let f = x.fewer in omega (arith, f, less)) at_next in
      record {
        way = longer x.step x.items y.way;
        is =
            ap (λ b. if b then Reached (here S) None else after_round (rounds around d m) S (round around d S [] None)) (ap (λ c. same_code c rest) (stands_is S t (s ⨾ (a then rest)) at) ∙ not_there s a rest)
            ∙ ap (after_round (rounds around d m) S) goes
            ∙ ap (after_step x.step x.items) y.is;
        moves = let z = moves_then S x.next y.way.end t (x.after then rest) rest x.moves y.moves in record { threads = z.threads; pending = z.pending };
      }
    where
      not_there : (s : Statement) (a rest : Code) → same_code (s ⨾ (a then rest)) rest ≡ false
      not_there s a rest =
          elim (same_code (s ⨾ (a then rest)) rest) as (λ b. same_code (s ⨾ (a then rest)) rest ≡ b → b ≡ false) [
            | true ↦ λ e. absurd (
                let same = ap statements (exact_code (s ⨾ (a then rest)) rest e) in
                let sum = statements_then a rest in
                let one = behind_less s done in omega (arith, same, sum, one))
            | false ↦ λ e. refl
          ] refl

module _ (P : Program) where
  -- a side of local code is driven to its goal, where so many rules may be entered
  pub side_comes : (n : ℕ) (F : Follow) (S : Symbolic) (t : Name) (a rest : Code) → AreApart S → all_local a ≡ true → code_depth a ≤ n → code_at S t ≡ Some (a then rest) → Comes S t rest (driver P own_sides n F (side_of t rest) S None)
  side_comes zero F S t a rest apart l sh at =
      rounds_come record { program = P; below = None; side = side_of; follows = F } zero refl (λ F S t a rest ap l less here. absurd (omega (arith, less))) (enough None S) S t a rest apart l sh
      (let one = among_left S.threads t (a then rest) at in let sum = statements_then a rest in let fuel = enough_is S apart in omega (arith, one, sum, fuel)) at
  side_comes (suc n) F S t a rest apart l sh at =
      rounds_come record { program = P; below = Some (driver P own_sides n); side = side_of; follows = F } (suc n) refl
      (λ F S t a rest apart l less here. (driver P own_sides n, refl, side_comes n F S t a rest apart l (omega (arith, less)) here)) (enough None S) S t a rest apart l sh
      (let one = among_left S.threads t (a then rest) at in let sum = statements_then a rest in let fuel = enough_is S apart in omega (arith, one, sum, fuel)) at
