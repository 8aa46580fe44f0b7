-- The unfolding of basic steps.
use Rattle.std.proofs.Common.{◌≡◌, ℕ, Bool, true, false, List, [], ◌∷◌, map, Option, Some, None, refl, sym, ap, ◌∙◌, subst}
use Rattle.std.specs.Prelude.{if◌then◌else◌, ◌+◌, Ok, Err}
use Rattle.brisk_values.specs.declared.value.Pid.{Pid}
use Rattle.brisk_values.specs.Names.{Name}
use Rattle.brisk_syntax.specs.declared.program.Program.{Program}
use Rattle.brisk_syntax.specs.Declarations.{is_loose}
use Rattle.brisk_syntax.specs.Stores.{stored}
use Rattle.brisk_syntax.specs.Syntax.{Expression, Statement, Send, If, IfElse, While, Assign, Code, ◌⨾◌, ◌then◌}
use Rattle.brisk_syntax.specs.Value.{value_of}
use Rattle.brisk_seq.specs.Items.{Item, Pass, Fill, Take}
use Rattle.brisk_seq.specs.Sequential as seq
use Rattle.brisk_seq.specs.Sequential.{Focus, Run, BadBox, with_box}
use Rattle.brisk_async.specs.declared.event.Event.{Event}
use Rattle.brisk_async.specs.Laws.{plain_event}
use Rattle.brisk_async.specs.Machine.{State, run, step}
use Rattle.brisk_async.specs.PlainRuns.{plain_place}
use Rattle.brisk_async.proofs.Runs.{bound}
use Rattle.brisk_basic.specs.Basic.{Applied}
use Rattle.brisk_basic.specs.Outcomes.{and_then}
use Rattle.brisk_derivation.specs.declared.steps.BasicStep.{BasicStep}
use Rattle.brisk_derivation.specs.declared.steps.BasicStep.TheVariants as basic
use Rattle.brisk_state.specs.Symbolic.{Symbolic}
use Rattle.brisk_rules.specs.Derives.{rule_of}
use Rattle.brisk_sound.specs.Does as does
use Rattle.brisk_sound.specs.Does.{Mem, Does}
use Rattle.brisk_rules.specs.Unfolding.{Unfolding, Unfolded, moves, receives, events_of, runs}
use Rattle.brisk_sound.proofs.Applied.{Applies, assigns, fills, takes, passes, knows_if, knows_while}
use Rattle.brisk_sound.proofs.Basic.{goes_assign, goes_fill, goes_take}
use Rattle.brisk_sound.proofs.Carried.{Carries, is_receive, not_carried, receive_carries}
use Rattle.brisk_sound.proofs.Control.{sides}
use Rattle.brisk_sound.proofs.Events as events
use Rattle.brisk_sound.proofs.Fits.{World, Conf, mem, Picks, Fits}
use Rattle.brisk_sound.proofs.Fronts.{receive_event}
use Rattle.brisk_sound.proofs.Kept.{Tidy}
use Rattle.brisk_sound.proofs.Leads.{state}
use Rattle.brisk_sound.proofs.Link.{mem_of}
use Rattle.brisk_sound.proofs.Loops.{goes_known_if, goes_known_while}
use Rattle.brisk_sound.proofs.Pass.{goes_pass}
use Rattle.brisk_rules.proofs.Readings.{Reading, reading, is_active, code_by, statement_by}
use Rattle.brisk_rules.specs.Following.{Follow, loose_fault}
use Rattle.brisk_sound.proofs.Covers.{Covers}
use Rattle.brisk_sound.proofs.Steps.{take_one, take_quiet, pass_quiet}
use Rattle.brisk_sound.proofs.Sound.{Typing, Goes, Going}
use Rattle.brisk_sound.proofs.Unfolds.{Gives, Shown, shown_then, shown_moves, Reached, Unfolds}

-- the one event of a schedule of one
one_step : (m n : State) (e : Event) → run m (e ∷ []) ≡ Some n → step m e ≡ Some n
one_step m n e r = let b = bound (λ t. run t []) (step m e) n r in b.1 ∙ b.2

-- a process receives, from the sender that it carries if it does
shown_receives : (loose : Name → Bool) (C : Name) (p : Pid) (u : Unfolding) (m n s : State) → Carries u.sender m s → run m (receive_event (loose C) p ∷ []) ≡ Some n → Shown u.events s (receives loose C p u) n
shown_receives loose C p u m n s h r =
    let x = receive_carries u.sender m n s p (plain_place (loose C)) h (one_step m n (receive_event (loose C) p) r) in record {
      events = record { process = p; sender = u.sender p; place = plain_place (loose C) } ∷ [];
      shown = refl;
      comes = x.0;
      runs = ap (λ o. after o) x.1;
      carries = x.2;
    }
  where
    after : Option State → Option State
    after None = None
    after (Some t) = run t []

-- one process moves, and then another receives
shown_passes : (loose : Name → Bool) (C : Name) (p q : Pid) (u : Unfolding) (m n s : State) → u.sender p ≡ None → Carries u.sender m s → run m (plain_event p ∷ receive_event (loose C) q ∷ []) ≡ Some n →
    Shown u.events s (receives loose C q (moves p u)) n
shown_passes loose C p q u m n s none h r =
    let b = bound (λ t. run t (receive_event (loose C) q ∷ [])) (step m (plain_event p)) n r in
    let x = shown_moves (p ∷ []) u m b.0 s h (none, tt) (ap after b.1) in
    shown_then u.events s (moves p u) b.0 x (receives loose C q (moves p u)) n (shown_receives loose C q (moves p u) b.0 n x.comes x.carries b.2)
  where
    after : Option State → Option State
    after None = None
    after (Some t) = run t []

module _ (world : World) (T : Typing world) where
  abbrev pub loose : Name → Bool
  loose = is_loose world.program.channels

  -- the run goes on with what can be done
  record Ran (q : Option Item) (φ : Focus) (u : Unfolding) (n : Mem) : Type 0 where
    after : Run
    goes : runs world.given q φ u ≡ Ok record u { run = after }
    same : mem_of after ≡ n

  ran_pass : (to from : Name) (xs : List Name) (es : List Expression) (φ : Focus) (u : Unfolding) (n : Mem) → does.passes world.given to xs from es φ (mem_of u.run) n → Ran (Some (Pass to xs from es)) φ u n
  ran_pass to from xs es φ u n h = record {
    after = record u.run { store = stored u.run.store (φ to) xs (map (value_of world.given.sizes (u.run.store (φ from))) es); moves = u.run.moves + 1 };
    goes = refl;
    same = sym h;
  }

  ran_fill : (k : ℕ) (from to : Name) (es : List Expression) (φ : Focus) (u : Unfolding) (n : Mem) → does.fills world.given k from to es φ (mem_of u.run) n → Ran (Some (Fill k from to es)) φ u n
  ran_fill k from to es φ u n h =
      let vs = map (value_of world.given.sizes (u.run.store (φ from))) es in record {
        after = record u.run { box = with_box k (φ from) (φ to) (Some vs) u.run.box; moves = u.run.moves + 1 };
        goes = λ i. and_then (seq.fill u.run k (φ from) (φ to) vs (h.0 i)) (λ r. Ok record u { run = r });
        same = sym h.1;
      }

  ran_take : (k : ℕ) (from to : Name) (xs : List Name) (φ : Focus) (u : Unfolding) (n : Mem) → does.takes world.given to xs k from φ (mem_of u.run) n → Ran (Some (Take to xs k from)) φ u n
  ran_take k from to xs φ u n h =
      let r = record u.run { store = stored u.run.store (φ to) xs h.0; box = with_box k (φ from) (φ to) None u.run.box; moves = u.run.moves + 1 } in record {
        after = r;
        goes =
            (λ i. and_then (seq.take u.run (world.given.kind (φ to).role) k (φ from) (φ to) xs (h.1 i)) (λ r. Ok record u { run = r }))
            ∙ (λ i. and_then (if h.2 i then Ok r else Err (BadBox (u.run.moves + 1))) (λ r. Ok record u { run = r }));
        same = sym h.3;
      }

  ran_nothing : (φ : Focus) (u : Unfolding) (n : Mem) → n ≡ mem_of u.run → Ran None φ u n
  ran_nothing φ u n h = record { after = u.run; goes = refl; same = sym h }

  -- the step with its item
  abbrev pub acts : BasicStep → Option Item → Focus → Unfolding → Unfolded
  acts b q φ u = and_then (runs world.given q φ u) (λ v. Ok (events_of loose φ b v))

  module _ (S S' : Reading) (R : Does) (by : Focus → List Event) (b : BasicStep) (q : Option Item) (going : Going world T S R S' by)
      (ran : (φ : Focus) (u : Unfolding) (n : Mem) → R φ (mem_of u.run) n → Ran q φ u n)
      (told : (κ : Pid → Code) (φ : Focus) (c : Conf) → Picks S.mode φ → Fits world S κ φ c → (u : Unfolding) (s n : State) → Carries u.sender (state world c) s → run (state world c) (by φ) ≡ Some n → Shown u.events s (events_of loose φ b u) n) where
    unfolds_basic : Unfolds world T S (acts b q) S'
    unfolds_basic κ φ c typed beyond picks f u same s carries =
        let g = going κ φ c typed beyond picks f in
        let x = ran φ u (mem g.to) (subst (λ (m : Mem). R φ m (mem g.to)) same g.does) in
        subst (λ (o : Unfolded). Gives (Reached world S S' κ φ c u.events s) (and_then o (λ v. Ok (events_of loose φ b v)))) (sym x.goes)
        (reached g x)
      where
        reached : (g : Goes world T S R S' κ φ c (by φ)) (x : Ran q φ u (mem g.to)) → Reached world S S' κ φ c u.events s (events_of loose φ b record u { run = x.after })
        reached g x = record {
          to = g.to;
          same_mem = sym x.same ∙ same_run;
          by = g.leads.by;
          arrives = record { runs = g.leads.runs; fits = g.fits; still = g.still };
          shown = told κ φ c picks f record u { run = x.after } s (state world g.to) carries (ap (run (state world c)) (sym g.schedule) ∙ g.leads.runs);
        }
          where
            same_run : mem_of x.after ≡ mem_of (events_of loose φ b record u { run = x.after }).run
            same_run = kept b
              where
                kept : (b : BasicStep) → mem_of x.after ≡ mem_of (events_of loose φ b record u { run = x.after }).run
                kept (basic.Assign t) = refl
                kept (basic.Fill t v C n) = refl
                kept (basic.Pass t v C) = refl
                kept (basic.Take t v C) = refl
                kept (basic.Known t) = refl

  -- where a thread's process stands at a statement that isn't a receive, it carries nothing
  pub at_statement : (S : Reading) (t : Name) → is_active (S.mode t) ≡ true → (x : Statement) (k : Code) → S.code t ≡ x ⨾ k → ((φ : Focus) → is_receive (statement_by φ x) ≡ false) →
      (κ : Pid → Code) (φ : Focus) (c : Conf) → Picks S.mode φ → Fits world S κ φ c → (σ : Pid → Option Pid) (s : State) → Carries σ (state world c) s → σ (φ t) ≡ None
  at_statement S t act x k is plain κ φ c picks f σ s carries =
      not_carried σ (state world c) s carries (φ t) (statement_by φ x) (code_by φ k then κ (φ t)) (events.own_code world S κ φ c picks t act f ∙ ap (λ z. code_by φ z then κ (φ t)) is) (plain φ)

  -- an if isn't a receive
  pub if_plain : (s : Statement) (e : Expression) (a b : Code) → sides s ≡ Some (e, a, b) → (φ : Focus) → is_receive (statement_by φ s) ≡ false
  if_plain (If e' a') e a b h φ = refl
  if_plain (IfElse e' a' b') e a b h φ = refl
  if_plain s e a b h φ = cc

  -- the event of one thread that doesn't receive
  tells_move : (S : Reading) (t : Name) → is_active (S.mode t) ≡ true → (x : Statement) (k : Code) → S.code t ≡ x ⨾ k → ((φ : Focus) → is_receive (statement_by φ x) ≡ false) →
      (κ : Pid → Code) (φ : Focus) (c : Conf) → Picks S.mode φ → Fits world S κ φ c → (u : Unfolding) (s n : State) → Carries u.sender (state world c) s → run (state world c) (plain_event (φ t) ∷ []) ≡ Some n → Shown u.events s (moves (φ t) u) n
  tells_move S t act x k is plain κ φ c picks f u s n carries r =
      shown_moves (φ t ∷ []) u (state world c) n s carries (at_statement S t act x k is plain κ φ c picks f u.sender s carries, tt) r

  module _ (P : Program) (same : world.program ≡ P) (F : Follow) (S : Symbolic) (r : Applied) (c : Covers world T (reading S).mode F) (tidy : Tidy P (reading S)) where
    -- what is given and what follows
    gives : (b : BasicStep) (q : Option Item) (S' : Reading) → r.statement ≡ q → reading r.next ≡ S' → Unfolds world T (reading S) (acts b q) S' → Unfolds world T (reading S) (acts b r.statement) (reading r.next)
    gives b q S' is n h =
        subst (λ (o : Option Item). Unfolds world T (reading S) (acts b o) (reading r.next)) (sym is)
        (subst (λ (Z : Reading). Unfolds world T (reading S) (acts b q) Z) (sym n) h)

    pub applied_unfolds : (b : BasicStep) → loose_fault P F S (rule_of b) ≡ None → Applies S r (rule_of b) → Unfolds world T (reading S) (acts b r.statement) (reading r.next)
    applied_unfolds (basic.Assign _) p (assigns t x e k act is q n named) =
        gives (basic.Assign t) _ _ q n
        (unfolds_basic (reading S) _ _ _ (basic.Assign t) _ (goes_assign world T (reading S) t act x e k is) (ran_pass t t (x ∷ []) (e ∷ [])) (tells_move (reading S) t act (Assign x e) k is (λ φ. refl)))
    applied_unfolds (basic.Fill _ _ _ _) p (fills t u C j es w k act is stands unused q n named) =
        gives (basic.Fill t u C j) _ _ q n
        (unfolds_basic (reading S) _ _ _ (basic.Fill t u C j) _ (goes_fill world T (reading S) t u C j es w k act is stands unused) (ran_fill j t u es) (tells_move (reading S) t act (Send C es w) k is (λ φ. refl)))
    applied_unfolds (basic.Take _ _ _) p (takes t u C j ns xs w k act is stands pends q n named) =
        gives (basic.Take t u C) _ _ q n
        (unfolds_basic (reading S) _ _ _ (basic.Take t u C) _ (goes_take world T (reading S) t u C j ns xs w k tidy.unique act is stands pends (take_one world T P same F S c t u C j ns p pends) (take_quiet world T P same F S c t u C w p act stands)) (ran_take j t u xs)
        (λ κ φ c picks f v s m carries r. shown_receives loose C (φ u) v (state world c) m s carries r))
    applied_unfolds (basic.Pass _ _ _) p (passes t u C es w k xs w' k' act act' is stands is' stands' empty q n named) =
        gives (basic.Pass t u C) _ _ q n
        (unfolds_basic (reading S) _ _ _ (basic.Pass t u C) _ (goes_pass world T (reading S) t u C es w k xs w' k' act act' is stands is' stands' empty (pass_quiet world T P same F S c t u C es w k p act act' is)) (ran_pass u t xs es)
        (λ κ φ c picks f v s m carries r. shown_passes loose C (φ t) (φ u) v (state world c) m s (at_statement (reading S) t act (Send C es w) k is (λ φ. refl) κ φ c picks f v.sender s carries) carries r))
    applied_unfolds (basic.Known _) p (knows_if t s e a b rest v act is two f q n named) =
        gives (basic.Known t) _ _ q n
        (unfolds_basic (reading S) _ _ _ (basic.Known t) _ (goes_known_if world T (reading S) t act s e a b rest is two v f) ran_nothing (tells_move (reading S) t act s rest is (if_plain s e a b two)))
    applied_unfolds (basic.Known _) p (knows_while t e b rest v act is f q n named) =
        gives (basic.Known t) _ _ q n
        (unfolds_basic (reading S) _ _ _ (basic.Known t) _ (goes_known_while world T (reading S) t act e b rest is v f) ran_nothing (tells_move (reading S) t act (While e b) rest is (λ φ. refl)))
