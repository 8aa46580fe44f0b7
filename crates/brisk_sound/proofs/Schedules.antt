-- The canonical schedule of a valid derivation.
use Rattle.std.proofs.Common.{◌≡◌, ◌↔◌, ℕ, true, false, List, [], ◌∷◌, Option, Some, None, refl, sym, ap, ◌∙◌, subst, append-nil}
use Rattle.std.specs.Prelude.{nat_lt, Result, Ok, Err}
use Rattle.brisk_values.specs.Names.{Name, single}
use Rattle.brisk_syntax.specs.declared.program.Program.{Program}
use Rattle.brisk_syntax.specs.Declarations.{is_loose}
use Rattle.brisk_syntax.specs.Instance.{Instance, Fits}
use Rattle.brisk_syntax.specs.Stores.{Store}
use Rattle.brisk_syntax.specs.Syntax.{done, Repeat, ◌⨾◌}
use Rattle.brisk_syntax.specs.WellTyped.{IsProgramWellTyped}
use Rattle.brisk_seq.specs.declared.tree.SeqProgram.{SeqProgram}
use Rattle.brisk_seq.specs.Items.{Item, Items, ◌followed_by◌}
use Rattle.brisk_seq.specs.Sequential.{Stop, BadBox, BadChoice, ChoicesLeft, Turns, Focus, Run, Ended, Given, given_by, begin, do_all, halted_with, seq}
use Rattle.brisk_seq.specs.Sequential as sequential_program
use Rattle.brisk_async.specs.declared.event.Event.{Event}
use Rattle.brisk_async.specs.Machine.{State, start, run, IsHalted}
use Rattle.brisk_basic.specs.Outcomes.{and_then}
use Rattle.brisk_derivation.specs.Steps.{Step, Steps}
use Rattle.brisk_derivation.specs.Steps as step
use Rattle.brisk_state.specs.Symbolic.{Symbolic, initial}
use Rattle.brisk_rules.specs.Derives.{sequential}
use Rattle.brisk_sound.specs.Does.{Mem, does_all}
use Rattle.brisk_sound.specs.Laws.{UnfoldingReachesTheStore, NoBadBox}
use Rattle.brisk_rules.specs.Rules.{is_nonempty}
use Rattle.brisk_rules.specs.Unfolding.{Unfolding, Unfolded, item_for, unfold_step, unfold_all, unfolded_with, unfolded}
use Rattle.brisk_sound.proofs.Acting.{applied_unfolds}
use Rattle.brisk_sound.proofs.Carried.{Senders, Carries, none_carried}
use Rattle.brisk_sound.proofs.Derives.{Takes_step, by_rule, by_branch, by_while, by_repeat, by_for, by_gather, by_pick, Takes_steps, ended, next}
use Rattle.brisk_sound.proofs.Fits.{World}
use Rattle.brisk_sound.proofs.Kept.{Tidy}
use Rattle.brisk_sound.proofs.Leads.{state}
use Rattle.brisk_sound.proofs.Played.{item_is, later, run_of, steps_play}
use Rattle.brisk_rules.proofs.Readings.{Reading, reading}
use Rattle.brisk_sound.proofs.Rounds.{unfolds_for, unfolds_gather, unfolds_pick}
use Rattle.brisk_sound.proofs.Sound.{Typing, Sound}
use Rattle.brisk_sound.proofs.Starts.{first_tidy, some_member}
use Rattle.brisk_sound.proofs.Steps.{steps_sound, covers_while, covers_repeat, covers_each, covers_gathers, covers_picks, all_active}
use Rattle.brisk_sound.proofs.Outcomes.{steps_come}
use Rattle.brisk_sound.proofs.Top.{world, T, c0, nothing_behind, first_fits, first_picks, first_typed, halts, given_is, store_is, first_behind, first_covered, valid_is}
use Rattle.brisk_rules.specs.Following.{Follow, nothing_follows}
use Rattle.brisk_sound.proofs.Covers.{Covers}
use Rattle.brisk_sound.proofs.For.{owners, within_for, inside_by}
use Rattle.brisk_sound.proofs.Gather.{within_gather}
use Rattle.brisk_sound.proofs.Pick.{within_pick}
use Rattle.brisk_sound.proofs.Loops.{turning}
use Rattle.brisk_state.specs.declared.thread.Mode.{Mode}
use Rattle.brisk_sound.proofs.Turning.{unfolds_branch, unfolds_while, unfolds_repeat}
use Rattle.brisk_sound.proofs.Unfolds.{Gives, Reached, Unfolds, unfolds_then, unfolds_drop, unfolds_weaker}
use Rattle.brisk_sound.proofs.Control.{Weaker}

module _ (world : World) (P : Program) (same : world.program ≡ P) (some : (s : Name) → is_nonempty P s ≡ true → nat_lt 0 (world.given.sizes s) ≡ true) where
  abbrev unfold_in : Steps → Items → Focus → Unfolding → Unfolded
  unfold_in D X φ u = unfold_all world.given (is_loose world.program.channels) D X φ u

  -- from a premise whose start reads so
  from_start : (T : Typing world) (start : Symbolic) (B : Reading) (U : Focus → Unfolding → Unfolded) (E : Reading) → reading start ≡ B → Unfolds world T (reading start) U E → Unfolds world T B U E
  from_start T start B U E is h = subst (λ (Z : Reading). Unfolds world T Z U E) is h

  -- from the state without what is dropped, to a state that reads so
  from_base : (T : Typing world) (S : Symbolic) (B : Reading) (U : Focus → Unfolding → Unfolded) (S' : Symbolic) (Z : Reading) → Weaker (reading S) B → reading S' ≡ Z → Unfolds world T B U Z → Unfolds world T (reading S) U (reading S')
  from_base T S B U S' Z weaker is h = subst (λ (W : Reading). Unfolds world T (reading S) U W) (sym is) (unfolds_drop world T (reading S) B U Z weaker h)

  sound : (T : Typing world) (F : Follow) (start : Symbolic) (B : Reading) (A : Steps) (X : Items) (E : Symbolic) → reading start ≡ B → Covers world T (reading start).mode F → Takes_steps P F A start X E → Sound world T B (does_all world.given X) (reading E)
  sound T F start B A X E is c x = subst (λ (Z : Reading). Sound world T Z (does_all world.given X) (reading E)) is (steps_sound world P same some T F A start X E c x)

  unfolds_nothing : (T : Typing world) (S : Reading) → Unfolds world T S (λ φ u. Ok u) S
  unfolds_nothing T S κ φ c typed beyond picks f u same s h = record {
    to = c;
    same_mem = same;
    by = [];
    arrives = record { runs = refl; fits = f; still = record { code = λ p d. refl; store = λ p d. refl; sent = λ p q d C. refl; got = λ p q d C. refl; box_sent = λ p q d n. refl; box_got = λ p q d n. refl } };
    shown = record { events = []; shown = sym (append-nil u.events); comes = s; runs = refl; carries = h };
  }

  mutual
    step_unfolds : (T : Typing world) (F : Follow) (A : Step) (S : Symbolic) (X : Items) (S' : Symbolic) → Covers world T (reading S).mode F → Tidy P (reading S) → Takes_step P F A S X S' → (Y : Items) →
        Unfolds world T (reading S) (λ φ u. unfold_step world.given (is_loose world.program.channels) A (item_for A (X followed_by Y)) φ u) (reading S')
    step_unfolds T _ _ _ _ _ c tidy (by_rule V b S r h p) Y =
        subst (λ (o : Option Item). Unfolds world T (reading S) (λ φ u. unfold_step world.given (is_loose world.program.channels) (step.Basic b) o φ u) (reading r.next)) (sym (item_is S r b h Y).0)
        (applied_unfolds world T P same V S r c tidy b p h)
    step_unfolds T _ _ _ _ _ c tidy (by_branch V t A B S start start' E F S' X X' guard k x y) Y =
        unfolds_branch world T (reading S) t k.active k.statement guard k.first k.second k.rest k.is k.two (unfold_in A X) (unfold_in B X') (reading S')
        (unfolds_weaker world T _ (unfold_in A X) (reading E) (reading S') k.ends (from_start T start _ (unfold_in A X) (reading E) k.begins (steps_unfold T V A start X E (subst (λ (m : Name → Option Mode). Covers world T m V) (sym (ap (λ (z : Reading). z.mode) k.begins)) c) x)))
        (unfolds_weaker world T _ (unfold_in B X') (reading F) (reading S') k.ends_second (from_start T start' _ (unfold_in B X') (reading F) k.begins_second (steps_unfold T V B start' X' F (subst (λ (m : Name → Option Mode). Covers world T m V) (sym (ap (λ (z : Reading). z.mode) k.begins_second)) c) y)))
    step_unfolds T _ _ _ _ _ c tidy (by_while V V' t drops A S start E S' X guard k x puts) Y =
        let T' = turning world T k.base t (λ j. k.base.code t) in
        let c' = covers_while world T P V V' S k.base k.weaker tidy c t guard k.body k.rest start k.active (ap (λ (z : Reading). z.mode) k.begins) puts in
        from_base T S k.base _ S' _ k.weaker k.next
        (λ κ φ c typed beyond picks f u same z h. unfolds_while world T k.base t k.active guard k.body k.rest k.is (unfold_in A X) (reading E) (from_start T' start _ (unfold_in A X) (reading E) k.begins (steps_unfold T' V' A start X E c' x)) k.restored u.run.turns κ φ c typed beyond picks f u same z h)
    step_unfolds T _ _ _ _ _ c tidy (by_repeat V V' t drops A S start E S' X s k x puts) Y =
        let T' = turning world T k.base t (λ j. Repeat s j k.body ⨾ k.rest) in
        let c' = covers_repeat world T P V V' S k.base k.weaker tidy c t s k.body k.rest start k.active k.is (ap (λ (z : Reading). z.mode) k.begins) puts in
        from_base T S k.base _ S' _ k.weaker k.next
        (unfolds_repeat world T k.base t s k.body k.rest (does_all world.given X) (reading E) k.active (sound T' V' start _ A X E k.begins c' x) (unfold_in A X) (from_start T' start _ (unfold_in A X) (reading E) k.begins (steps_unfold T' V' A start X E c' x)) k.restored k.is)
    step_unfolds T _ _ _ _ _ c tidy (by_for V V' s ts drops A S start E S' X k x puts) Y =
        let T' = inside_by world T k.base s (within_for k.base s ts k.loops) in
        let c' = covers_each world T P V V' S k.base k.weaker tidy c s ts k.loops start k.entry (λ t o. all_active k.base.mode (owners ts) (λ _. false) ts k.entry.once t o refl) (ap (λ (z : Reading). z.mode) k.begins) puts in
        from_base T S k.base _ S' _ k.weaker k.next
        (unfolds_for world T k.base s ts k.loops (does_all world.given X) (reading E) k.entry k.exit (sound T' V' start _ A X E k.begins c' x) (unfold_in A X) (from_start T' start _ (unfold_in A X) (reading E) k.begins (steps_unfold T' V' A start X E c' x)))
    step_unfolds T _ _ _ _ _ c tidy (by_gather V V' t drops A S start E S' X a k x puts) Y =
        let T' = inside_by world T k.base a.set (within_gather t a) in
        let c' = covers_gathers world T P V V' S k.base k.weaker tidy c t a start k.entry (ap (λ (z : Reading). z.mode) k.begins) puts in
        from_base T S k.base _ S' _ k.weaker k.next
        (unfolds_gather world T k.base t a (does_all world.given X) (reading E) k.entry k.exit (sound T' V' start _ A X E k.begins c' x) (unfold_in A X) (from_start T' start _ (unfold_in A X) (reading E) k.begins (steps_unfold T' V' A start X E c' x)))
    step_unfolds T _ _ _ _ _ c tidy (by_pick V V' t drops A S start E S' X a nonempty k x puts) Y =
        let T' = inside_by world T k.base a.set (within_pick t a) in
        let c' = covers_picks world T P V V' S k.base k.weaker tidy c t a start k.entry (ap (λ (z : Reading). z.mode) k.begins) puts in
        from_base T S k.base _ S' _ k.weaker k.next
        (unfolds_pick world T k.base t a (does_all world.given X) (reading E) k.entry (some a.set nonempty) k.exit (sound T' V' start _ A X E k.begins c' x) (unfold_in A X) (from_start T' start _ (unfold_in A X) (reading E) k.begins (steps_unfold T' V' A start X E c' x)))

    -- a derivation unfolds to a schedule from what fits its start to what fits its end
    pub steps_unfold : (T : Typing world) (F : Follow) (D : Steps) (S : Symbolic) (X : Items) (E : Symbolic) → Covers world T (reading S).mode F → Takes_steps P F D S X E → Unfolds world T (reading S) (unfold_in D X) (reading E)
    steps_unfold T _ _ _ _ _ c (ended V S) = unfolds_nothing T (reading S)
    steps_unfold T _ _ _ _ _ c (next V A B S S' E X Y tidy modes x y) =
        subst (λ (Z : Items). Unfolds world T (reading S) (λ φ u. and_then (unfold_step world.given (is_loose world.program.channels) A (item_for A (X followed_by Y)) φ u) (unfold_all world.given (is_loose world.program.channels) B Z φ)) (reading E))
        (sym (later world.given (is_loose world.program.channels) P V A S X S' x Y))
        (unfolds_then world T (reading S) (reading S') (reading E) modes (λ φ u. unfold_step world.given (is_loose world.program.channels) A (item_for A (X followed_by Y)) φ u) (unfold_in B Y) (step_unfolds T V A S X S' c tidy x Y) (steps_unfold T V B S' Y E (subst (λ (m : Name → Option Mode). Covers world T m V) (sym modes) c) y))

module _ (P : Program) (typed : IsProgramWellTyped P) (i : Instance) (fitting : Fits P i) (D : Steps) (X : Items) (E : Symbolic) (takes : Takes_steps P nothing_follows D (initial P) X E)
    (modes : (reading E).mode ≡ (reading (initial P)).mode) (finished : (u : Name) → (reading E).code u ≡ done) (choices : List ℕ) (turns : ℕ) where
  abbrev Q : SeqProgram
  Q = sequential P X

  abbrev first : Unfolding
  first = record { run = begin Q i choices turns; events = []; sender = λ p. None }

  abbrev End : Unfolding → Type 0
  End v = Reached (world P typed i fitting) (reading (initial P)) (reading E) (nothing_behind P typed i fitting) single (c0 P typed i fitting) [] (start P i) v

  abbrev all : Unfolded
  all = unfold_all (given_by Q i) (is_loose P.channels) D X single first

  -- what the whole derivation unfolds to
  gives : Gives End all
  gives =
      subst (λ (g : Given). Gives End (unfold_all g (is_loose P.channels) D X single first)) (sym (given_is P X i))
      (steps_unfold (world P typed i fitting) P refl (some_member P i typed fitting) (T P typed i fitting) nothing_follows D (initial P) X E (first_covered P typed i fitting) takes (nothing_behind P typed i fitting) single (c0 P typed i fitting)
      (first_typed P typed i fitting) (first_behind P typed i fitting) (first_picks P typed i fitting) (first_fits P typed i fitting) first (λ j. record { store = sym (store_is P X i) j; box = λ n p q. None }) (start P i) (none_carried (start P i)))

  plays : run_of all ≡ do_all (given_by Q i) X single (begin Q i choices turns)
  plays = steps_play (given_by Q i) (is_loose P.channels) P nothing_follows D (initial P) X E takes single first

  -- a state from which nothing is left, whatever is carried
  none_left : (σ : Senders) (m s : State) → Carries σ m s → IsHalted m → IsHalted s
  none_left σ m s h halted p =
      elim (σ p) as (λ o. σ p ≡ o → s.code p ≡ done) [
        | None ↦ λ e. h.same p e ∙ halted p
        | Some w ↦ λ e. absurd (let c = h.carried p w e in let both = sym c.1 ∙ halted p in cc)
      ] refl

  abbrev Reaches : List Event → Type 0
  Reaches es = (s : State) × (run (start P i) es ≡ Some s) × IsHalted s × (seq Q i choices turns ≡ Ok s.store)

  pub reaches_store : (es : List Event) → unfolded P D Q i choices turns ≡ Ok es → Reaches es
  reaches_store es h = by all refl gives h
    where
      by : (o : Unfolded) → all ≡ o → Gives End o → and_then o (λ u. unfolded_with u.run.choices u.events) ≡ Ok es → Reaches es
      by (Err x) is g e = cc
      by (Ok v) is g e = with v.run.choices refl e
        where
          with : (cs : List ℕ) → v.run.choices ≡ cs → unfolded_with cs v.events ≡ Ok es → Reaches es
          with [] none f =
              let events : v.events ≡ es = same_events f in (
                g.shown.comes,
                ap (run (start P i)) (sym events ∙ g.shown.shown) ∙ g.shown.runs,
                none_left v.sender (state (world P typed i fitting) g.to) g.shown.comes g.shown.carries
                    (halts P typed i fitting (does_all (world P typed i fitting).given X) (reading E) modes (steps_sound (world P typed i fitting) P refl (some_member P i typed fitting) (T P typed i fitting) nothing_follows D (initial P) X E (first_covered P typed i fitting) takes) finished g.to g.by g.arrives),
                ap ended_as (sym plays ∙ ap run_of is) ∙ ap (halted_with v.run) none ∙ ap Ok (ap (λ (m : Mem). m.store) (sym g.same_mem) ∙ sym g.shown.carries.store),
              )
            where
              same_events : ◌≡◌ {A = Result (List Event) Stop} (Ok v.events) (Ok es) → v.events ≡ es
              same_events f = cc

              ended_as : Ended → Result Store Stop
              ended_as o = sequential_program.ended o
          with (k ∷ ks) some f = cc

  pub stops_alike : (why : Stop) → (unfolded P D Q i choices turns ≡ Err why) ↔ (seq Q i choices turns ≡ Err why)
  stops_alike why =
      subst (λ (o : Ended). (unfolded P D Q i choices turns ≡ Err why) ↔ (sequential_program.ended o ≡ Err why)) plays (by all)
    where
      by : (o : Unfolded) → (and_then o (λ u. unfolded_with u.run.choices u.events) ≡ Err why) ↔ (sequential_program.ended (run_of o) ≡ Err why)
      by (Err x) = ((λ e. cc), λ e. cc)
      by (Ok v) = left v.run.choices
        where
          left : (cs : List ℕ) → (unfolded_with cs v.events ≡ Err why) ↔ (halted_with v.run cs ≡ Err why)
          left [] = ((λ e. cc), λ e. cc)
          left (k ∷ ks) = ((λ e. cc), λ e. cc)

  pub never_at_box : (k : ℕ) → seq Q i choices turns ≡ Err (BadBox k) → ⊥
  never_at_box k h = by all gives (ap sequential_program.ended plays ∙ h)
    where
      by : (o : Unfolded) → Gives End o → sequential_program.ended (run_of o) ≡ Err (BadBox k) → ⊥
      by (Err (BadBox j)) g e = g
      by (Err (BadChoice j)) g e = cc
      by (Err ChoicesLeft) g e = cc
      by (Err Turns) g e = cc
      by (Ok v) g e = left v.run.choices e
        where
          left : (cs : List ℕ) → halted_with v.run cs ≡ Err (BadBox k) → ⊥
          left [] f = cc
          left (j ∷ js) f = cc

pub reaches : UnfoldingReachesTheStore
reaches P D Q typed valid i fitting choices turns =
    let x = valid_is P D Q valid in
    let y = steps_come P 0 nothing_follows D 2 (initial P) x.derived (first_tidy P typed) x.derives in
    subst (λ (q : SeqProgram).
    ((es : List Event) → unfolded P D q i choices turns ≡ Ok es → (s : State) × (run (start P i) es ≡ Some s) × IsHalted s × (seq q i choices turns ≡ Ok s.store))
    × ((why : Stop) → (unfolded P D q i choices turns ≡ Err why) ↔ (seq q i choices turns ≡ Err why))) x.program
    (reaches_store P typed i fitting D x.derived.items x.derived.state y.takes y.kept.mode x.finished choices turns, stops_alike P typed i fitting D x.derived.items x.derived.state y.takes y.kept.mode x.finished choices turns)

pub no_bad_box : NoBadBox
no_bad_box P D Q typed valid i fitting choices turns k =
    let x = valid_is P D Q valid in
    let y = steps_come P 0 nothing_follows D 2 (initial P) x.derived (first_tidy P typed) x.derives in
    subst (λ (q : SeqProgram). seq q i choices turns ≡ Err (BadBox k) → ⊥) x.program
    (never_at_box P typed i fitting D x.derived.items x.derived.state y.takes y.kept.mode x.finished choices turns k)
