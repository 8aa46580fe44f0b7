-- What steps derive from a straight state is straight.
use Rattle.std.proofs.Common.{◌≡◌, ℕ, ◌+◌, ◌≤◌, true, false, List, [], ◌∷◌, Some, refl, ap, ◌∙◌, subst, arith}
use Rattle.std.specs.Prelude.{if◌then◌else◌, nat_lt, Ok}
use Rattle.std.specs.List.{AllByRecursion}
use Rattle.std.proofs.lemmas.Option.{same_Some}
use Rattle.brisk_values.specs.Names.{Name, same_name}
use Rattle.brisk_values.proofs.Changes.{both_true}
use Rattle.brisk_syntax.specs.declared.program.Program.{Program}
use Rattle.brisk_syntax.specs.Classes.{all_local}
use Rattle.brisk_syntax.specs.Counts.{statements}
use Rattle.brisk_syntax.specs.Syntax.{RecvAny, If, IfElse, While, Repeat, Code, ◌⨾◌, ◌then◌}
use Rattle.brisk_async.specs.Laws.{AnyReceive}
use Rattle.brisk_facts.specs.Facts.{common}
use Rattle.brisk_state.specs.declared.thread.Mode.{Mode}
use Rattle.brisk_state.specs.declared.thread.Mode.TheVariants.{One, At, Each}
use Rattle.brisk_state.specs.declared.thread.Thread.{Thread}
use Rattle.brisk_state.specs.Symbolic.{Symbolic, code_at, same_but_facts, thread_named}
use Rattle.brisk_basic.specs.Basic.{apply}
use Rattle.brisk_basic.specs.Outcomes.{told_as}
use Rattle.brisk_derivation.specs.declared.fault.SideFault.TheVariants.{TooDeep, BranchesDiffer}
use Rattle.brisk_derivation.specs.Steps.{Step, Basic, Branch, Steps, no_steps, ◌▷◌}
use Rattle.brisk_derivation.specs.Steps as step
use Rattle.brisk_rules.specs.declared.why.Why.TheVariants.{Rule, Side}
use Rattle.brisk_rules.specs.Derives.{Derived, Premise, told_at, nested, apply_quietly, by_loop, derive, derive_all, rule_of}
use Rattle.brisk_rules.specs.Following.{Follow, follows_in}
use Rattle.brisk_rules.specs.Heads.{Fork, fork_of, Guarded, while_of, Loop, repeat_of, any_of, gather_of}
use Rattle.brisk_rules.specs.Rules.{Outcome, Entered, Parted, mode_of, can_focus, enter_while, enter_repeat, enter_for, enter_gather, enter_pick, enter_branch, join}
use Rattle.brisk_rules.proofs.Fulfilled.{and_then_ok, told_ok, same_ok, when_ok, at_head_ok}
use Rattle.brisk_sound.proofs.Strict.{quietly_ok}
use Rattle.brisk_rules.proofs.Threads.{Moved}
use Rattle.brisk_straight.specs.Stuck.{length_of}
use Rattle.brisk_straight.proofs.Events.{statements_then}
use Rattle.brisk_straight.proofs.Places.{stands_at}
use Rattle.brisk_straight.proofs.Rules.{basic_gone}
use Rattle.brisk_straight.proofs.States.{left_in, IsCode, IsThread, IsStraightly, Gone, code_there, head_talks, code_then, alone_gone}

-- a rule with a premise was entered
loop_enters : (deep line : ℕ) (entry : Outcome Entered) (premise : Entered → Premise) (d : Derived) → by_loop deep line entry premise ≡ Ok d → (r : Entered) × (entry ≡ Ok r)
loop_enters deep line entry premise d e =
    let a = and_then_ok (told_at line (nested deep entry)) _ d e in
    (a.0, (when_ok (nat_lt deep 256) (Side TooDeep) entry a.0 (told_ok (λ why. record { line = line; why = why }) (nested deep entry) a.0 a.1)).1)

-- where a thread stands that rules move
moved_at : (S : Symbolic) (t : Name) (c : Code) → Moved S.threads t c → code_at S t ≡ Some c
moved_at S t c m = stands_at S.threads t m.active ∙ ap Some m.stands

module _ (P : Program) (ns : List Name) (depth most : ℕ) where
  abbrev Straight : Symbolic → Type 0
  Straight = IsStraightly ns depth most

  -- straight code is at no loop
  no_while : (c : Code) (w : Guarded) → IsCode ns depth most c → while_of c ≡ Some w → ⊥
  no_while (While e b ⨾ rest) w c h = let t = (head_talks ns depth most (While e b) rest c).0 in cc
  no_while c w code h = cc

  no_repeat : (c : Code) (l : Loop) → IsCode ns depth most c → repeat_of c ≡ Some l → ⊥
  no_repeat (Repeat s k b ⨾ rest) l c h = let t = (head_talks ns depth most (Repeat s k b) rest c).0 in cc
  no_repeat c l code h = cc

  no_any : (c : Code) (a : AnyReceive) → IsCode ns depth most c → any_of c ≡ Some a → ⊥
  no_any (RecvAny d xs v s b ⨾ rest) a c h = let t = (head_talks ns depth most (RecvAny d xs v s b) rest c).0 in cc
  no_any c a code h = cc

  no_gather : (c : Code) (a : AnyReceive) → IsCode ns depth most c → gather_of c ≡ Some a → ⊥
  no_gather (Repeat s k b ⨾ rest) a c h = let t = (head_talks ns depth most (Repeat s k b) rest c).0 in cc
  no_gather c a code h = cc

  -- no thread is a set's
  no_focus : {A : Type 0} (S : Symbolic) (s : Name) (more : Outcome A) (a : A) → Straight S → can_focus (mode_of (thread_named S.threads s)) more ≡ Ok a → ⊥
  no_focus {A = A} S s more a st = by S.threads st.threads
    where
      one : (m : Mode) → m ≡ One → can_focus (Some m) more ≡ Ok a → ⊥
      one One e h = cc
      one At e h = cc
      one Each e h = cc

      by : (ts : List Thread) → AllByRecursion (IsThread ns depth most) ts → can_focus (mode_of (thread_named ts s)) more ≡ Ok a → ⊥
      by [] all h = cc
      by (u ∷ us) all h = elim (same_name s u.name) as (λ b. can_focus (mode_of (if b then Some u else thread_named us s)) more ≡ Ok a → ⊥) [ true ↦ λ g. one u.mode all.0.mode g | false ↦ λ g. by us all.1 g ] h

  -- the two ways of an if take its statement
  pub record Ways (c : Code) (f : Fork) : Type 0 where
    pub first : IsCode ns depth most f.first
    pub second : IsCode ns depth most f.second
    pub fewer : statements f.first + 1 ≤ statements c
    pub fewer_second : statements f.second + 1 ≤ statements c

  ways : (c : Code) (f : Fork) → IsCode ns depth most c → fork_of c ≡ Some f → Ways c f
  ways (If e a ⨾ rest) f code h =
      let l = head_talks ns depth most (If e a) rest code in
      let n = statements_then a rest in
      subst (Ways (If e a ⨾ rest)) (same_Some _ f h) record {
        first = code_then ns depth most a rest l.0 (let s = code.shallow in omega (arith, s)) l.1;
        second = l.1;
        fewer = omega (arith, n);
        fewer_second = omega arith;
      }
  ways (IfElse e a b ⨾ rest) f code h =
      let l = head_talks ns depth most (IfElse e a b) rest code in
      let k = both_true (all_local a) (all_local b) l.0 in
      let n = statements_then a rest in let m = statements_then b rest in
      subst (Ways (IfElse e a b ⨾ rest)) (same_Some _ f h) record {
        first = code_then ns depth most a rest k.0 (let s = code.shallow in omega (arith, s)) l.1;
        second = code_then ns depth most b rest k.1 (let s = code.shallow in omega (arith, s)) l.1;
        fewer = omega (arith, n);
        fewer_second = omega (arith, m);
      }
  ways c f code h = cc

  -- the sides of a branch have fewer statements
  pub record Sides (S : Symbolic) (r : Parted) : Type 0 where
    pub first : Gone ns depth most S r.first
    pub second : Gone ns depth most S r.second

  sides_gone : (S : Symbolic) (t : Name) (r : Parted) → Straight S → enter_branch S t ≡ Ok r → Sides S r
  sides_gone S t r st e =
      let h = at_head_ok S t fork_of _ r e in
      let at = moved_at S t h.1 h.2 in
      let w = ways h.1 h.0 (code_there ns depth most S t h.1 st at) h.3 in
      subst (Sides S) (same_ok _ r h.4) record {
        first = alone_gone ns depth most S _ t h.1 h.0.first st at w.first w.fewer refl refl;
        second = alone_gone ns depth most S _ t h.1 h.0.second st at w.second w.fewer_second refl refl;
      }

  -- steps from a straight state lead to a straight one, and each takes a statement
  pub record Spends (S : Symbolic) (n : ℕ) (E : Symbolic) : Type 0 where
    pub straight : Straight E
    pub spent : n + left_in E.threads ≤ left_in S.threads

  joined_straight : (E F G : Symbolic) (n : ℕ) (S : Symbolic) → Spends S n E → join E F ≡ Ok G → Spends S n G
  joined_straight E F G n S s e =
      let w = when_ok (same_but_facts E F) (Side BranchesDiffer) _ G e in
      let is : record E { facts = common E.facts F.facts } ≡ G = same_ok _ G w.1 in
      let st = s.straight in
      subst (Spends S n) is record { straight = record { named = st.named; apart = st.apart; threads = st.threads; used = st.used; uses = st.uses; few = st.few }; spent = s.spent }

  mutual
    pub step_spends : (F : Follow) (deep line : ℕ) (A : Step) (S : Symbolic) (d : Derived) → Straight S → derive P deep F A line S ≡ Ok d → Spends S 1 d.state
    step_spends F deep line (Basic b) S d st e =
        let a = and_then_ok (told_at line (apply_quietly P F S (rule_of b))) _ d e in
        let r = quietly_ok P F S (rule_of b) a.0 (told_ok (λ why. record { line = line; why = why }) (apply_quietly P F S (rule_of b)) a.0 a.1) in
        let g = basic_gone ns depth most S (rule_of b) a.0 st r in
        subst (λ (z : Derived). Spends S 1 z.state) (same_ok _ d a.2) record { straight = g.straight; spent = (let f = g.fewer in omega (arith, f)) }
    step_spends F deep line (Branch t A B) S d st e =
        let a = and_then_ok (told_at line (nested deep (enter_branch S t))) _ d e in
        let r = when_ok (nat_lt deep 256) (Side TooDeep) (enter_branch S t) a.0 (told_ok (λ why. record { line = line; why = why }) (nested deep (enter_branch S t)) a.0 a.1) in
        let b = and_then_ok (derive_all P (deep + 1) F A (line + 1) a.0.first) _ d a.2 in
        let c = and_then_ok (derive_all P (deep + 1) F B (b.0.line + 1) a.0.second) _ d b.2 in
        let j = and_then_ok (told_at c.0.line (join b.0.state c.0.state)) _ d c.2 in
        let joins = told_ok (λ why. record { line = c.0.line; why = why }) (join b.0.state c.0.state) j.0 j.1 in
        let s = sides_gone S t a.0 st r.1 in
        let x = steps_spend F (deep + 1) (line + 1) A a.0.first b.0 s.first.straight b.1 in
        let f = s.first.fewer in let g = x.spent in
        subst (λ (z : Derived). Spends S 1 z.state) (same_ok _ d j.2) (joined_straight b.0.state c.0.state j.0 1 S record { straight = x.straight; spent = omega (arith, f, g) } joins)
    step_spends F deep line (step.While t drops A) S d st e =
        let r = loop_enters deep line (enter_while S t drops) (λ r. derive_all P (deep + 1) (follows_in S r F) A) d e in
        let h = at_head_ok S t while_of _ r.0 r.1 in
        absurd (no_while h.1 h.0 (code_there ns depth most S t h.1 st (moved_at S t h.1 h.2)) h.3)
    step_spends F deep line (step.For s ts drops A) S d st e =
        let r = loop_enters deep line (enter_for S s ts drops) (λ r. derive_all P (deep + 1) (follows_in S r F) A) d e in
        absurd (no_focus S s _ r.0 st r.1)
    step_spends F deep line (step.Repeat t drops A) S d st e =
        let r = loop_enters deep line (enter_repeat S t drops) (λ r. derive_all P (deep + 1) (follows_in S r F) A) d e in
        let h = at_head_ok S t repeat_of _ r.0 r.1 in
        absurd (no_repeat h.1 h.0 (code_there ns depth most S t h.1 st (moved_at S t h.1 h.2)) h.3)
    step_spends F deep line (step.Gather t drops A) S d st e =
        let r = loop_enters deep line (enter_gather S t drops) (λ r. derive_all P (deep + 1) (follows_in S r F) A) d e in
        let h = at_head_ok S t gather_of _ r.0 r.1 in
        absurd (no_gather h.1 h.0 (code_there ns depth most S t h.1 st (moved_at S t h.1 h.2)) h.3)
    step_spends F deep line (step.Pick t drops A) S d st e =
        let r = loop_enters deep line (enter_pick P S t drops) (λ r. derive_all P (deep + 1) (follows_in S r F) A) d e in
        let h = at_head_ok S t any_of _ r.0 r.1 in
        absurd (no_any h.1 h.0 (code_there ns depth most S t h.1 st (moved_at S t h.1 h.2)) h.3)

    pub steps_spend : (F : Follow) (deep line : ℕ) (D : Steps) (S : Symbolic) (d : Derived) → Straight S → derive_all P deep F D line S ≡ Ok d → Spends S (length_of D) d.state
    steps_spend F deep line no_steps S d st e = subst (λ (z : Derived). Spends S 0 z.state) (same_ok _ d e) record { straight = st; spent = omega arith }
    steps_spend F deep line (A ▷ rest) S d st e =
        let a = and_then_ok (derive P deep F A line S) _ d e in
        let b = and_then_ok (derive_all P deep F rest a.0.line a.0.state) _ d a.2 in
        let x = step_spends F deep line A S a.0 st a.1 in
        let y = steps_spend F deep a.0.line rest a.0.state b.0 x.straight b.1 in
        let f = x.spent in let g = y.spent in
        subst (λ (z : Derived). Spends S (length_of (A ▷ rest)) z.state) (same_ok _ d b.2) record { straight = y.straight; spent = omega (arith, f, g) }
