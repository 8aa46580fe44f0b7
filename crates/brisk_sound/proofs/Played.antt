-- The run of an unfolding is that of the sequential program.
use Rattle.std.proofs.Common.{◌≡◌, ℕ, suc, zero, ◌+◌, Bool, true, false, List, [], ◌∷◌, map, Option, Some, None, refl, sym, ap, ◌∙◌, nat_eq}
use Rattle.std.specs.Prelude.{if◌then◌else◌, ◌&&◌, not, nat_lt, Ok, Err}
use Rattle.std.specs.List.{list_any}
use Rattle.brisk_values.specs.declared.value.Pid.{Pid}
use Rattle.brisk_values.specs.Names.{Name, member}
use Rattle.brisk_syntax.specs.declared.program.Program.{Program}
use Rattle.brisk_seq.specs.Items.{Item, Items, nothing, ◌⨟◌, ◌followed_by◌}
use Rattle.brisk_seq.specs.Sequential as seq
use Rattle.brisk_seq.specs.Sequential.{Focus, Given, Run, Ended, BadChoice, Turns, in_focus, holds_at, does, do_all, choose, for_each, for_any, take_turn, while_true}
use Rattle.brisk_basic.specs.Basic.{Applied}
use Rattle.brisk_basic.specs.Outcomes.{and_then}
use Rattle.brisk_derivation.specs.declared.steps.BasicStep.{BasicStep}
use Rattle.brisk_derivation.specs.declared.steps.BasicStep.TheVariants as basic
use Rattle.brisk_derivation.specs.Steps.{Step, Steps, no_steps, ◌▷◌}
use Rattle.brisk_derivation.specs.Steps as step
use Rattle.brisk_state.specs.Symbolic.{Symbolic}
use Rattle.brisk_rules.specs.Derives.{items_in, rule_of}
use Rattle.brisk_rules.specs.Unfolding.{Unfolding, Unfolded, moves, all_move, carries, events_of, runs, takes_turn, turns_while, turns_each, turns_any, chooses, item_for, items_after, unfold_step, unfold_all}
use Rattle.brisk_sound.proofs.Applied.{Applies, assigns, fills, takes, passes, knows_if, knows_while}
use Rattle.brisk_rules.specs.Following.{Follow}
use Rattle.brisk_sound.proofs.Derives.{Takes_step, by_rule, by_branch, by_while, by_repeat, by_for, by_gather, by_pick, Takes_steps, ended, next}
use Rattle.brisk_sound.proofs.Unfolds.{all_moved}

-- the run of an unfolding
abbrev pub run_of : Unfolded → Ended
run_of (Ok v) = Ok v.run
run_of (Err x) = Err x

-- the unfolding's run is that of the sequential program
abbrev pub Plays : (Unfolding → Unfolded) → (Run → Ended) → Type 0
Plays U b = (u : Unfolding) → run_of (U u) ≡ b u.run

plays_then : (o : Unfolded) (V : Unfolding → Unfolded) (d : Run → Ended) → Plays V d → run_of (and_then o V) ≡ seq.and_then (run_of o) d
plays_then (Ok v) V d h = h v
plays_then (Err x) V d h = refl

plays_if : (b : Bool) (x y : Unfolded) (r s : Ended) → run_of x ≡ r → run_of y ≡ s → run_of (if b then x else y) ≡ (if b then r else s)
plays_if true x y r s h i = h
plays_if false x y r s h i = i

and_ok : (o : Ended) → seq.and_then o (λ s. Ok s) ≡ o
and_ok (Ok s) = refl
and_ok (Err x) = refl

and_assoc : (o : Ended) (f g : Run → Ended) → seq.and_then (seq.and_then o f) g ≡ seq.and_then o (λ r. seq.and_then (f r) g)
and_assoc (Ok s) f g = refl
and_assoc (Err x) f g = refl

all_done : (given : Given) (X Y : Items) (φ : Focus) (r : Run) → do_all given (X followed_by Y) φ r ≡ seq.and_then (do_all given X φ r) (do_all given Y φ)
all_done given nothing Y φ r = refl
all_done given (q ⨟ X) Y φ r = ap (seq.and_then (does given q φ r)) (λ i s. all_done given X Y φ s i) ∙ sym (and_assoc (does given q φ r) (do_all given X φ) (do_all given Y φ))

plays_turn : (k : ℕ) (u : Unfolding) (go : Unfolding → Unfolded) (back : Run → Ended) → Plays go back → run_of (takes_turn k u go) ≡ take_turn k u.run back
plays_turn zero u go back h = refl
plays_turn (suc left) u go back h = h record u { run = record u.run { turns = left } }

plays_while : (p : Pid) (g : Run → Bool) (body : Unfolding → Unfolded) (b : Run → Ended) → Plays body b → (n : ℕ) → Plays (turns_while n (λ v. g v.run) (moves p) body) (while_true n g b)
plays_while p g body b h zero u = plays_if (g u.run) (Err Turns) (Ok (moves p u)) (Err Turns) (Ok u.run) refl refl
plays_while p g body b h (suc n) u =
    plays_if (g u.run) _ (Ok (moves p u)) _ (Ok u.run)
    (plays_turn u.run.turns u _ (λ s. seq.and_then (b s) (while_true n g b)) (λ v. plays_then (body (moves p v)) (turns_while n (λ v. g v.run) (moves p) body) (while_true n g b) (plays_while p g body b h n)
    ∙ ap (λ o. seq.and_then o (while_true n g b)) (h (moves p v)))) refl

same_run : (ps : List Pid) (u : Unfolding) → (all_move ps u).run ≡ u.run
same_run ps u = ap (λ (w : Unfolding). w.run) (all_moved ps u)

plays_each : (ps : List Pid) (body : ℕ → Unfolding → Unfolded) (b : ℕ → Run → Ended) → ((k : ℕ) → Plays (body k) (b k)) → (n k : ℕ) → Plays (turns_each n k (all_move ps) body) (for_each n k b)
plays_each ps body b h zero k u = ap Ok (same_run ps u)
plays_each ps body b h (suc n) k u =
    plays_then (body k (all_move ps u)) (turns_each n (k + 1) (all_move ps) body) (for_each n (k + 1) b) (plays_each ps body b h n (k + 1))
    ∙ ap (λ o. seq.and_then o (for_each n (k + 1) b)) (h k (all_move ps u) ∙ ap (b k) (same_run ps u))

plays_choice : (size : ℕ) (used cs : List ℕ) (u : Unfolding) (go : ℕ → Unfolding → Unfolded) (back : ℕ → Run → Ended) → ((k : ℕ) → Plays (go k) (back k)) → run_of (chooses size used cs u go) ≡ choose size used u.run cs back
plays_choice size used [] u go back h = refl
plays_choice size used (k ∷ ks) u go back h = plays_if (nat_lt k size && not (list_any (nat_eq k) used)) _ _ _ _ (h k record u { run = record u.run { choices = ks; asked = u.run.asked + 1 } }) refl

plays_any : (p : Pid) (size : ℕ) (body : ℕ → Unfolding → Unfolded) (b : ℕ → Run → Ended) → ((k : ℕ) → Plays (body k) (b k)) → (n : ℕ) (used : List ℕ) → Plays (turns_any n size used (moves p) body) (for_any n size used b)
plays_any p size body b h zero used u = refl
plays_any p size body b h (suc n) used u =
    plays_choice size used u.run.choices u _ (λ k s. seq.and_then (b k s) (for_any n size (k ∷ used) b)) (λ k v.
    plays_then (body k (moves p v)) (turns_any n size (k ∷ used) (moves p) body) (for_any n size (k ∷ used) b) (plays_any p size body b h n (k ∷ used))
    ∙ ap (λ o. seq.and_then o (for_any n size (k ∷ used) b)) (h k (moves p v)))

module _ (S : Symbolic) (r : Applied) where
  -- a basic step has its item before the rest
  pub item_is : (b : BasicStep) → Applies S r (rule_of b) → (Y : Items) → (item_for (step.Basic b) (items_in r.statement followed_by Y) ≡ r.statement) × (items_after (step.Basic b) (items_in r.statement followed_by Y) ≡ Y)
  item_is (basic.Assign _) (assigns t x e k act is q n named) Y =
      (ap (λ o. item_for (step.Basic (basic.Assign t)) (items_in o followed_by Y)) q ∙ sym q, ap (λ o. items_after (step.Basic (basic.Assign t)) (items_in o followed_by Y)) q)
  item_is (basic.Fill _ _ _ _) (fills t u C j es w k act is stands unused q n named) Y =
      (ap (λ o. item_for (step.Basic (basic.Fill t u C j)) (items_in o followed_by Y)) q ∙ sym q, ap (λ o. items_after (step.Basic (basic.Fill t u C j)) (items_in o followed_by Y)) q)
  item_is (basic.Take _ _ _) (takes t u C j ns xs w k act is stands pends q n named) Y =
      (ap (λ o. item_for (step.Basic (basic.Take t u C)) (items_in o followed_by Y)) q ∙ sym q, ap (λ o. items_after (step.Basic (basic.Take t u C)) (items_in o followed_by Y)) q)
  item_is (basic.Pass _ _ _) (passes t u C es w k xs w' k' act act' is stands is' stands' empty q n named) Y =
      (ap (λ o. item_for (step.Basic (basic.Pass t u C)) (items_in o followed_by Y)) q ∙ sym q, ap (λ o. items_after (step.Basic (basic.Pass t u C)) (items_in o followed_by Y)) q)
  item_is (basic.Known _) (knows_if t s e a b rest v act is two f q n named) Y =
      (sym q, ap (λ o. items_after (step.Basic (basic.Known t)) (items_in o followed_by Y)) q)
  item_is (basic.Known _) (knows_while t e b rest v act is f q n named) Y =
      (sym q, ap (λ o. items_after (step.Basic (basic.Known t)) (items_in o followed_by Y)) q)

module _ (given : Given) (loose : Name → Bool) (P : Program) where
  -- a basic step's events leave the run
  plays_basic : (b : BasicStep) (q : Option Item) (φ : Focus) → Plays (λ u. unfold_step given loose (step.Basic b) q φ u) (λ r. do_all given (items_in q) φ r)
  plays_basic b q φ u = ran (runs given q φ u) ∙ done q
    where
      ran : (o : Unfolded) → run_of (and_then o (λ v. Ok (events_of loose φ b v))) ≡ run_of o
      ran (Ok v) = ap Ok (kept b v)
        where
          kept : (b : BasicStep) (v : Unfolding) → (events_of loose φ b v).run ≡ v.run
          kept (basic.Assign t) v = refl
          kept (basic.Fill t w C n) v = refl
          kept (basic.Pass t w C) v = refl
          kept (basic.Take t w C) v = refl
          kept (basic.Known t) v = refl
      ran (Err x) = refl

      done : (q : Option Item) → run_of (runs given q φ u) ≡ do_all given (items_in q) φ u.run
      done None = refl
      done (Some q) = told (does given q φ u.run)
        where
          told : (o : Ended) → run_of (and_then o (λ r. Ok record u { run = r })) ≡ seq.and_then o (λ s. Ok s)
          told (Ok r) = refl
          told (Err x) = refl

  -- the items after those of a step
  pub later : (F : Follow) (A : Step) (S : Symbolic) (X : Items) (S' : Symbolic) → Takes_step P F A S X S' → (Y : Items) → items_after A (X followed_by Y) ≡ Y
  later _ _ _ _ _ (by_rule V b S r h p) Y = (item_is S r b h Y).1
  later _ _ _ _ _ (by_branch V t A B S start start' E F S' X X' guard k x y) Y = refl
  later _ _ _ _ _ (by_while V V' t drops A S start E S' X guard k x puts) Y = refl
  later _ _ _ _ _ (by_repeat V V' t drops A S start E S' X s k x puts) Y = refl
  later _ _ _ _ _ (by_for V V' s ts drops A S start E S' X k x puts) Y = refl
  later _ _ _ _ _ (by_gather V V' t drops A S start E S' X a k x puts) Y = refl
  later _ _ _ _ _ (by_pick V V' t drops A S start E S' X a nonempty k x puts) Y = refl

  mutual
    step_plays : (F : Follow) (A : Step) (S : Symbolic) (X : Items) (S' : Symbolic) → Takes_step P F A S X S' → (Y : Items) (φ : Focus) → Plays (unfold_step given loose A (item_for A (X followed_by Y)) φ) (do_all given X φ)
    step_plays _ _ _ _ _ (by_rule V b S r h p) Y φ u = (λ i. run_of (unfold_step given loose (step.Basic b) ((item_is S r b h Y).0 i) φ u)) ∙ plays_basic b r.statement φ u
    step_plays _ _ _ _ _ (by_branch V t A B S start start' E F S' X X' guard k x y) Y φ u =
        plays_if (holds_at given u.run (φ t) guard) _ _ _ _ (steps_play V A start X E x φ (moves (φ t) u)) (steps_play V B start' X' F y φ (moves (φ t) u)) ∙ sym (and_ok _)
    step_plays _ _ _ _ _ (by_while V V' t drops A S start E S' X guard k x puts) Y φ u =
        plays_while (φ t) (λ r. holds_at given r (φ t) guard) (unfold_all given loose A X φ) (do_all given X φ) (steps_play V' A start X E x φ) u.run.turns u ∙ sym (and_ok _)
    step_plays _ _ _ _ _ (by_repeat V V' t drops A S start E S' X s k x puts) Y φ u =
        plays_each (φ t ∷ []) (λ j. unfold_all given loose A X φ) (λ j. do_all given X φ) (λ j. steps_play V' A start X E x φ) (given.sizes s) 0 u ∙ sym (and_ok _)
    step_plays _ _ _ _ _ (by_for V V' s ts drops A S start E S' X k x puts) Y φ u =
        plays_each (map φ ts) (λ j. unfold_all given loose A X (in_focus s j φ)) (λ j. do_all given X (in_focus s j φ)) (λ j. steps_play V' A start X E x (in_focus s j φ)) (given.sizes s) 0 u ∙ sym (and_ok _)
    step_plays _ _ _ _ _ (by_gather V V' t drops A S start E S' X a k x puts) Y φ u =
        plays_any (φ t) (given.sizes a.set) (λ j v. unfold_all given loose A X (in_focus a.set j φ) (carries (φ t) (member a.set j) v)) (λ j. do_all given X (in_focus a.set j φ))
        (λ j v. steps_play V' A start X E x (in_focus a.set j φ) (carries (φ t) (member a.set j) v)) (given.sizes a.set) [] u
        ∙ sym (and_ok _)
    step_plays _ _ _ _ _ (by_pick V V' t drops A S start E S' X a nonempty k x puts) Y φ u =
        plays_choice (given.sizes a.set) [] u.run.choices u (λ j v. unfold_all given loose A X (in_focus a.set j φ) (carries (φ t) (member a.set j) v)) (λ j. do_all given X (in_focus a.set j φ))
        (λ j v. steps_play V' A start X E x (in_focus a.set j φ) (carries (φ t) (member a.set j) v))
        ∙ sym (and_ok _)

    pub steps_play : (F : Follow) (D : Steps) (S : Symbolic) (X : Items) (E : Symbolic) → Takes_steps P F D S X E → (φ : Focus) → Plays (unfold_all given loose D X φ) (do_all given X φ)
    steps_play _ _ _ _ _ (ended V S) φ u = refl
    steps_play _ _ _ _ _ (next V A B S S' E X Y tidy modes x y) φ u =
        (λ i. run_of (and_then (unfold_step given loose A (item_for A (X followed_by Y)) φ u) (unfold_all given loose B (later V A S X S' x Y i) φ)))
        ∙ plays_then (unfold_step given loose A (item_for A (X followed_by Y)) φ u) (unfold_all given loose B Y φ) (do_all given Y φ) (steps_play V B S' Y E y φ)
        ∙ ap (λ o. seq.and_then o (do_all given Y φ)) (step_plays V A S X S' x Y φ u)
        ∙ sym (all_done given X Y φ u.run)
