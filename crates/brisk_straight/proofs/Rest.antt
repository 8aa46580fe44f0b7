-- Where no rule applies in a straight state, each thread is done or waits.
use Rattle.std.proofs.Common.{◌≡◌, ℕ, ◌<◌, true, Some, refl, ap, subst, arith, List, ◌⊎◌, inl, inr, None, ◌∙◌}
use Rattle.std.specs.Prelude.{Ok, Err, is_none}
use Rattle.brisk_values.specs.Names.{Name}
use Rattle.brisk_syntax.specs.declared.program.Program.{Program}
use Rattle.brisk_syntax.specs.declared.tree.Who.{Who}
use Rattle.brisk_syntax.specs.declared.tree.Who.TheVariants as who
use Rattle.brisk_syntax.specs.Classes.{talks_to}
use Rattle.brisk_syntax.specs.Counts.{program_statements}
use Rattle.brisk_syntax.specs.Syntax.{Expression, Statement, Assign, Send, Recv, If, IfElse, Code, done, ◌⨾◌}
use Rattle.brisk_derivation.specs.Steps.{Steps}
use Rattle.brisk_state.specs.Symbolic.{Symbolic, code_at, initial}
use Rattle.brisk_basic.specs.declared.rule.Basic.TheVariants as rule
use Rattle.brisk_basic.specs.Basic.{apply, assign, at_thread}
use Rattle.brisk_seq.specs.declared.tree.SeqProgram.{SeqProgram}
use Rattle.brisk_async.specs.PlainRuns.{Deadlocks, plain_instance, plain_schedule}
use Rattle.brisk_basic.specs.Outcomes.{and_then}
use Rattle.brisk_rules.specs.Following.{nothing_follows}
use Rattle.brisk_rules.specs.Derives.{Derived, derive_all, first_unfinished, sequential, unless_unfinished, finish, Valid}
use Rattle.brisk_straight.specs.Stuck.{Waits, IsAtRest, RestIsStuck, RestIsTold, FewSteps}
use Rattle.brisk_straight.proofs.Derived.{steps_spend}
use Rattle.brisk_straight.proofs.Local.{branch_entered}
use Rattle.brisk_straight.proofs.Numbers.{some_unused}
use Rattle.brisk_straight.proofs.Rules.{fill_applies, take_applies}
use Rattle.brisk_straight.proofs.Starts.{role_names, all_left, start_straightly}
use Rattle.brisk_straight.proofs.States.{one_of, IsStraightly, are_apart, code_there, head_talks}
use Rattle.brisk_straight.proofs.Told.{stuck_is_told}
use Rattle.brisk_straight.proofs.Unfinished.{unfinished_has}

module _ (ns : List Name) (depth most : ℕ) (few : most < 1000000) (S : Symbolic) (st : IsStraightly ns depth most S) (rest : IsAtRest S) (t : Name) where
  at_send : (C : Name) (es : List Expression) (u : Who) (k : Code) → one_of ns u ≡ true → code_at S t ≡ Some (Send C es u ⨾ k) → ⊥
  at_send C es (who.Name n) k partner here =
      let free = some_unused 1000000 1 S.pending st.used st.uses (let f = st.few in omega (arith, f, few)) in
      let a = fill_applies ns depth most S t C n es k free.0 st partner here free.1.low (let h = free.1.high in omega (arith, h)) free.1.unused in
      rest.no_basic (rule.Fill t n C free.0) a.0 a.1
  at_send C es (who.At s) k partner here = cc
  at_send C es (who.Pid p) k partner here = cc

  at_receive : (C : Name) (xs : List Name) (u : Who) (k : Code) → one_of ns u ≡ true → code_at S t ≡ Some (Recv C xs u ⨾ k) → Waits S t (Recv C xs u ⨾ k)
  at_receive C xs (who.Name n) k partner here =
      elim (apply S (rule.Take n t C)) as (λ o. apply S (rule.Take n t C) ≡ o → Waits S t (Recv C xs (who.Name n) ⨾ k)) [
        | Ok r ↦ λ e. absurd (rest.no_basic (rule.Take n t C) r e)
        | Err why ↦ λ e. take_applies ns depth most S t C n xs k why st partner here e
      ] refl
  at_receive C xs (who.At s) k partner here = cc
  at_receive C xs (who.Pid p) k partner here = cc

  at_head : (s : Statement) (k : Code) → talks_to (one_of ns) s ≡ true → code_at S t ≡ Some (s ⨾ k) → Waits S t (s ⨾ k)
  at_head (Assign x e) k talks here = absurd (rest.no_basic (rule.Assign t) _ (ap (λ o. at_thread o (assign S t)) here))
  at_head (Send C es u) k talks here = absurd (at_send C es u k talks here)
  at_head (Recv C xs u) k talks here = at_receive C xs u k talks here
  at_head (If e a) k talks here = absurd (rest.no_branch t _ (branch_entered S t (If e a ⨾ k) _ here refl))
  at_head (IfElse e a b) k talks here = absurd (rest.no_branch t _ (branch_entered S t (IfElse e a b ⨾ k) _ here refl))
  at_head s k talks here = cc

  waits_there : (c : Code) → code_at S t ≡ Some c → Waits S t c
  waits_there done here = tt
  waits_there (s ⨾ k) here = at_head s k (head_talks ns depth most s k (code_there ns depth most S t (s ⨾ k) st here)).0 here

pub rest_is_stuck : RestIsStuck
rest_is_stuck P D S source lead rest t c here =
    let few : program_statements P < 1000000 = (let h = source.statements in omega (arith, h)) in
    let at_end = (steps_spend P (role_names P.roles) 256 (program_statements P) nothing_follows 0 2 D (initial P) lead.0 (start_straightly P source) lead.1).straight in
    let st = subst (IsStraightly (role_names P.roles) 256 (program_statements P)) lead.2 at_end in
    waits_there (role_names P.roles) 256 (program_statements P) few S st rest t c here

-- steps at whose end no thread has code are a valid derivation
finished : (P : Program) (D : Steps) (d : Derived) → derive_all P 0 nothing_follows D 2 (initial P) ≡ Ok d → first_unfinished d.state.threads ≡ None → Valid P D (sequential P d.items)
finished P D d e none = ap (λ x. and_then x (finish P)) e ∙ ap (λ o. unless_unfinished d.line o (sequential P d.items)) none

pub rest_is_told : RestIsTold
rest_is_told P D S source lead rest =
    elim (first_unfinished S.threads) as (λ o. first_unfinished S.threads ≡ o → ((Q : SeqProgram) × Valid P D Q) ⊎ Deadlocks P (plain_instance P 1) (plain_schedule P 1)) [
      | None ↦ λ e. inl (sequential P lead.0.items, finished P D lead.0 lead.1 (ap (λ (z : Symbolic). first_unfinished z.threads) lead.2 ∙ e))
      | Some t ↦ λ e.
          let at_end = (steps_spend P (role_names P.roles) 256 (program_statements P) nothing_follows 0 2 D (initial P) lead.0 (start_straightly P source) lead.1).straight in
          let st = subst (IsStraightly (role_names P.roles) 256 (program_statements P)) lead.2 at_end in
          let has = unfinished_has (role_names P.roles) 256 (program_statements P) S.threads st.threads (are_apart (role_names P.roles) 256 (program_statements P) S st) (ap is_none e) in
          inr (stuck_is_told P D S source.typed source.tagged source.straight (let h = source.statements in omega (arith, h)) lead (rest_is_stuck P D S source lead rest) has)
    ] refl

pub few_steps : FewSteps
few_steps P D S source lead =
    let s = (steps_spend P (role_names P.roles) 256 (program_statements P) nothing_follows 0 2 D (initial P) lead.0 (start_straightly P source) lead.1).spent in
    let all = all_left P.roles in
    omega (arith, s, all)
