-- At the top the centre's loops are entered.
use Rattle.std.proofs.Common.{◌≡◌, ℕ, true, false, List, [], ◌∷◌, Option, Some, None, refl, sym, ap, ◌∙◌}
use Rattle.std.specs.Prelude.{◌&&◌, Result, not, if◌then◌else◌, Ok, nat_lt}
use Rattle.brisk_values.specs.Names.{Name, same_name}
use Rattle.brisk_values.proofs.Changes.{both_true, name_laws}
use Rattle.brisk_syntax.specs.declared.tree.Who.TheVariants as who
use Rattle.brisk_syntax.specs.Classes.{every, is_named, talks_to}
use Rattle.brisk_syntax.specs.Substitution.{code_with}
use Rattle.brisk_syntax.specs.Syntax.{Code, For, RecvAny, Repeat, done, ◌⨾◌}
use Rattle.brisk_async.specs.Laws.{AnyReceive}
use Rattle.brisk_state.specs.declared.thread.Mode.{Mode}
use Rattle.brisk_state.specs.declared.thread.Mode.TheVariants.{One, At, Each}
use Rattle.brisk_state.specs.Symbolic.{Symbolic, code_at}
use Rattle.brisk_basic.specs.Basic.{at_thread}
use Rattle.brisk_basic.specs.Outcomes.{and_then, told_as}
use Rattle.brisk_derivation.specs.declared.steps.Fact.{Fact}
use Rattle.brisk_rules.specs.declared.why.Why.TheVariants.{Rule}
use Rattle.brisk_rules.specs.Heads.{Loop, for_of, gather_of}
use Rattle.brisk_rules.specs.Rules.{Entered, Outcome, can_focus, enter_for, enter_gather, loops_of, not_focused, wanted}
use Rattle.brisk_rules.proofs.Readings.{is_active}
use Rattle.brisk_rules.proofs.Threads.{modes}
use Rattle.brisk_straight.proofs.Places.{stands_at}
use Rattle.brisk_stars.specs.Searching.{IsAlone}
use Rattle.brisk_stars.specs.Threads.{IsStarThreads, at_in}
use Rattle.brisk_stars.specs.Tops.{LoopsAreEntered}
use Rattle.brisk_stars.specs.Words.{runs_as_centre, serves}
use Rattle.std.proofs.lemmas.Bool.{not-true}

goes_on : {A B E : Type 0} (o : Result A E) (a : A) (go : A → Result B E) (b : B) → o ≡ Ok a → go a ≡ Ok b → and_then o go ≡ Ok b
goes_on o a go b e h = ap (λ z. and_then z go) e ∙ h

focused : {A : Type 0} (m : Option Mode) (more : Outcome A) (a : A) → m ≡ Some Each → more ≡ Ok a → can_focus m more ≡ Ok a
focused m more a e h = ap (λ z. can_focus z more) e ∙ h

unfocused : {A : Type 0} (m : Option Mode) (more : Outcome A) (a : A) → m ≡ Some Each → more ≡ Ok a → not_focused m more ≡ Ok a
unfocused m more a e h = ap (λ z. not_focused z more) e ∙ h

module _ (sizes : Name → ℕ) (M : Name) (S : Symbolic) (drops : List Fact) (rest : Code) (st : IsStarThreads sizes M S) (alone : IsAlone M S) where
  -- the set of a loop isn't in focus
  set_each : (v s : Name) (b : Code) → serves sizes M v s b ≡ true → modes S.threads s ≡ Some Each
  set_each v s b h =
      let k = both_true (not (same_name M s)) (nat_lt 0 (sizes s) && every (talks_to (is_named v)) b) h in
      let other = not-true (same_name M s) k.0 in
      let some = (both_true (nat_lt 0 (sizes s)) (every (talks_to (is_named v)) b) k.1).0 in
      let t = st.there s some in
      t.1 ∙ ap Some (by other t.0 t.1)
    where
      by : same_name M s ≡ false → (m : Mode) → modes S.threads s ≡ Some m → m ≡ Each
      by other One e = absurd (st.several s other e)
      by other At e = absurd (alone s (at_in S s) other (stands_at S.threads s (ap is_active e)))
      by other Each e = refl

  here : (c : Code) → at_in S M ≡ c → code_at S M ≡ Some c
  here c at = stands_at S.threads M (ap is_active st.one) ∙ ap Some at

  entered_for : (v s : Name) (b : Code) → at_in S M ≡ For v s 0 b ⨾ rest → (r : Entered) × (enter_for S s (M ∷ []) drops ≡ Ok r)
  entered_for v s b at =
      let runs = both_true (serves sizes M v s b) (runs_as_centre sizes M rest) (ap (runs_as_centre sizes M) (sym at) ∙ st.centre) in
      let l : Loop = record { set = s; body = code_with v (who.At s) b; rest = rest } in
      let found : loops_of S s [] (M ∷ []) ≡ Ok (l ∷ []) =
      ap (λ o. and_then (told_as Rule (at_thread o (λ code. wanted (for_of s code)))) (λ l. Ok (l ∷ []))) (here (For v s 0 b ⨾ rest) at)
      ∙ ap (λ t. and_then (told_as Rule (wanted (if t then Some l else None))) (λ l. Ok (l ∷ []))) (name_laws.refl s) in
      (_, focused (modes S.threads s) _ _ (set_each v s b runs.0) (goes_on (loops_of S s [] (M ∷ [])) (l ∷ []) _ _ found refl))

  entered_gather : (c : Name) (xs : List Name) (v s : Name) (b : Code) → at_in S M ≡ Repeat s 0 (RecvAny c xs v s b ⨾ done) ⨾ rest → (r : Entered) × (enter_gather S M drops ≡ Ok r)
  entered_gather c xs v s b at =
      let runs = both_true (same_name s s && serves sizes M v s b) (runs_as_centre sizes M rest) (ap (runs_as_centre sizes M) (sym at) ∙ st.centre) in
      let serving = (both_true (same_name s s) (serves sizes M v s b) runs.0).1 in
      let a : AnyReceive = record { channel = c; variables = xs; binder = v; set = s; body = b; rest = rest } in
      let found : told_as Rule (at_thread (code_at S M) (λ code. wanted (gather_of code))) ≡ Ok a =
      ap (λ o. told_as Rule (at_thread o (λ code. wanted (gather_of code)))) (here (Repeat s 0 (RecvAny c xs v s b ⨾ done) ⨾ rest) at)
      ∙ ap (λ t. told_as Rule (wanted (if t then Some a else None))) (name_laws.refl s) in
      (_, goes_on (told_as Rule (at_thread (code_at S M) (λ code. wanted (gather_of code)))) a _ _ found (unfocused (modes S.threads s) _ _ (set_each v s b serving) refl))

pub loops_are_entered : LoopsAreEntered
loops_are_entered sizes M S drops rest st alone = (entered_for sizes M S drops rest st alone, entered_gather sizes M S drops rest st alone)
