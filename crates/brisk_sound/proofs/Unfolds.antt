-- What it is for an unfolding to go with the steps of a derivation.
use Rattle.std.proofs.Common.{◌≡◌, ℕ, zero, suc, Bool, true, false, List, [], ◌∷◌, ◌++◌, map, Option, Some, None, refl, sym, ap, ◌∙◌, subst, append_assoc, append-nil, nat_eq}
use Rattle.std.specs.Prelude.{if◌then◌else◌, ◌&&◌, not, nat_lt, option_and_then, Ok, Err}
use Rattle.std.specs.List.{list_any}
use Rattle.brisk_values.specs.declared.value.Pid.{Pid}
use Rattle.brisk_values.specs.Names.{Name}
use Rattle.brisk_syntax.specs.Syntax.{Code}
use Rattle.brisk_seq.specs.Sequential.{Focus, BadBox, BadChoice, ChoicesLeft, Turns}
use Rattle.brisk_async.specs.declared.event.Event.{Event}
use Rattle.brisk_async.specs.Laws.{plain_event}
use Rattle.brisk_async.specs.Machine.{State, run}
use Rattle.brisk_async.proofs.Runs.{run-append}
use Rattle.brisk_basic.specs.Outcomes.{and_then}
use Rattle.brisk_state.specs.declared.thread.Mode.{Mode}
use Rattle.brisk_rules.specs.Unfolding.{Unfolding, Unfolded, moves, all_move, takes_turn, chooses}
use Rattle.brisk_sound.proofs.Carried.{Carries, NoneOf, plains_carry}
use Rattle.brisk_sound.proofs.Compose.{arrives_then}
use Rattle.brisk_sound.proofs.Control.{Weaker, weaken, Silent, lead_arrives}
use Rattle.brisk_sound.proofs.Fits.{World, Conf, mem, Picks, Fits, Still}
use Rattle.brisk_sound.proofs.Leads.{state}
use Rattle.brisk_sound.proofs.Link.{mem_of}
use Rattle.brisk_rules.proofs.Readings.{Reading}
use Rattle.brisk_sound.proofs.Sound.{Typing, behind_by, Arrives}

-- it is so of an unfolding that goes on, and none stops at a box
abbrev pub Gives : (Unfolding → Type 0) → Unfolded → Type 0
Gives P (Ok v) = P v
Gives P (Err (BadBox k)) = ⊥
Gives P (Err (BadChoice k)) = Unit {0}
Gives P (Err ChoicesLeft) = Unit {0}
Gives P (Err Turns) = Unit {0}

pub gives_map : (P Q : Unfolding → Type 0) (o : Unfolded) → ((v : Unfolding) → P v → Q v) → Gives P o → Gives Q o
gives_map P Q (Ok v) f h = f v h
gives_map P Q (Err (BadBox k)) f h = h
gives_map P Q (Err (BadChoice k)) f h = tt
gives_map P Q (Err ChoicesLeft) f h = tt
gives_map P Q (Err Turns) f h = tt

pub gives_then : (P Q : Unfolding → Type 0) (o : Unfolded) (go : Unfolding → Unfolded) → Gives P o → ((v : Unfolding) → P v → Gives Q (go v)) → Gives Q (and_then o go)
gives_then P Q (Ok v) go h f = f v h
gives_then P Q (Err (BadBox k)) go h f = h
gives_then P Q (Err (BadChoice k)) go h f = tt
gives_then P Q (Err ChoicesLeft) go h f = tt
gives_then P Q (Err Turns) go h f = tt

pub gives_if : (P : Unfolding → Type 0) (b : Bool) (x y : Unfolded) → (b ≡ true → Gives P x) → (b ≡ false → Gives P y) → Gives P (if b then x else y)
gives_if P true x y f g = f refl
gives_if P false x y f g = g refl

-- where a turn is left
pub gives_turn : (P : Unfolding → Type 0) (k : ℕ) (u : Unfolding) (go : Unfolding → Unfolded) → ((left : ℕ) → Gives P (go record u { run = record u.run { turns = left } })) → Gives P (takes_turn k u go)
gives_turn P zero u go f = tt
gives_turn P (suc left) u go f = f left

-- where a member is chosen
pub gives_choice : (P : Unfolding → Type 0) (size : ℕ) (used cs : List ℕ) (u : Unfolding) (go : ℕ → Unfolding → Unfolded) →
    ((k : ℕ) (ks : List ℕ) (asked : ℕ) → nat_lt k size ≡ true → list_any (nat_eq k) used ≡ false → Gives P (go k record u { run = record u.run { choices = ks; asked = asked } })) → Gives P (chooses size used cs u go)
gives_choice P size used [] u go f = tt
gives_choice P size used (k ∷ ks) u go f =
    gives_if P (nat_lt k size && not (list_any (nat_eq k) used)) _ _
    (λ e. let x = both (nat_lt k size) (list_any (nat_eq k) used) e in f k ks _ x.0 x.1)
    (λ e. tt)
  where
    both : (a b : Bool) → (a && not b) ≡ true → (a ≡ true) × (b ≡ false)
    both true false e = (refl, refl)
    both true true e = cc
    both false b e = cc

-- After the events so far the unfolding went on from s, by events, to a state that is m, but for the senders that are carried.
pub record Shown (past : List Event) (s : State) (v : Unfolding) (m : State) : Type 0 where
  pub events : List Event
  pub shown : v.events ≡ past ++ events
  pub comes : State
  pub runs : run s events ≡ Some comes
  pub carries : Carries v.sender m comes

pub shown_then : (past : List Event) (s : State) (v : Unfolding) (m : State) (x : Shown past s v m) (w : Unfolding) (n : State) → Shown v.events x.comes w n → Shown past s w n
shown_then past s v m x w n y = record {
  events = x.events ++ y.events;
  shown = y.shown ∙ ap (λ es. es ++ y.events) x.shown ∙ append_assoc past x.events y.events;
  comes = y.comes;
  runs = run-append s x.events y.events ∙ ap (option_and_then (λ t. run t y.events)) x.runs ∙ y.runs;
  carries = y.carries;
}

-- what several events of an unfolding leave
pub all_moved : (ps : List Pid) (u : Unfolding) → all_move ps u ≡ record u { events = u.events ++ map plain_event ps }
all_moved [] u = λ i. record u { events = sym (append-nil u.events) i }
all_moved (p ∷ ps) u = all_moved ps (moves p u) ∙ (λ i. record u { events = append_assoc u.events (plain_event p ∷ []) (map plain_event ps) i })

-- events of processes that carry nothing
pub shown_moves : (ps : List Pid) (u : Unfolding) (m n s : State) → Carries u.sender m s → NoneOf u.sender ps → run m (map plain_event ps) ≡ Some n → Shown u.events s (all_move ps u) n
shown_moves ps u m n s h none r =
    let x = plains_carry u.sender ps m n s none h r in
    subst (λ (w : Unfolding). Shown u.events s w n) (sym (all_moved ps u)) record {
      events = map plain_event ps;
      shown = refl;
      comes = x.0;
      runs = x.1;
      carries = x.2;
    }

-- the unfolding went with a schedule to a configuration that fits
pub record Reached (world : World) (S S' : Reading) (κ : Pid → Code) (φ : Focus) (c : Conf) (past : List Event) (s : State) (v : Unfolding) : Type 0 where
  pub to : Conf
  pub same_mem : mem to ≡ mem_of v.run
  pub by : List Event
  pub arrives : Arrives world S S' κ φ c to by
  pub shown : Shown past s v (state world to)

module _ (world : World) (T : Typing world) where
  abbrev UnfoldsBy : Typing world → Reading → (Focus → Unfolding → Unfolded) → Reading → Type 0
  UnfoldsBy T S U S' =
      (κ : Pid → Code) (φ : Focus) (c : Conf) → T.IsTyped c → T.Behind κ φ → Picks S.mode φ → Fits world S κ φ c → (u : Unfolding) → mem c ≡ mem_of u.run → (s : State) → Carries u.sender (state world c) s →
      Gives (Reached world S S' κ φ c u.events s) (U φ u)

  -- From what fits the one, an unfolding goes to what fits the other, or stops, but never at a box.
  abbrev pub Unfolds : Reading → (Focus → Unfolding → Unfolded) → Reading → Type 0
  Unfolds S U S' =
      (κ : Pid → Code) (φ : Focus) (c : Conf) → T.IsTyped c → T.Behind κ φ → Picks S.mode φ → Fits world S κ φ c → (u : Unfolding) → mem c ≡ mem_of u.run → (s : State) → Carries u.sender (state world c) s →
      Gives (Reached world S S' κ φ c u.events s) (U φ u)

  pub reached_then : (S S' S'' : Reading) → S'.mode ≡ S.mode → (κ : Pid → Code) (φ : Focus) (c : Conf) (past : List Event) (s : State) (v w : Unfolding) (x : Reached world S S' κ φ c past s v) →
      Reached world S' S'' κ φ x.to v.events x.shown.comes w → Reached world S S'' κ φ c past s w
  reached_then S S' S'' modes κ φ c past s v w x y = record {
    to = y.to;
    same_mem = y.same_mem;
    by = x.by ++ y.by;
    arrives = arrives_then world T S S' S'' modes κ φ c x.to y.to x.by y.by x.arrives y.arrives;
    shown = shown_then past s v (state world x.to) x.shown w (state world y.to) y.shown;
  }

  -- goes on from what was reached
  pub goes_further : (S S' S'' : Reading) → S'.mode ≡ S.mode → (V : Focus → Unfolding → Unfolded) → Unfolds S' V S'' → (κ : Pid → Code) (φ : Focus) (c : Conf) → T.IsTyped c → T.Behind κ φ → Picks S.mode φ → (past : List Event) (s : State) (v : Unfolding) →
      Reached world S S' κ φ c past s v → Gives (Reached world S S'' κ φ c past s) (V φ v)
  goes_further S S' S'' modes V b κ φ c typed beyond picks past s v x =
      gives_map (Reached world S' S'' κ φ x.to v.events x.shown.comes) (Reached world S S'' κ φ c past s) (V φ v) (λ w y. reached_then S S' S'' modes κ φ c past s v w x y)
      (b κ φ x.to (T.runs c x.to x.by typed x.arrives.runs) beyond (subst (λ (m : Name → Option Mode). Picks m φ) (sym modes) picks) x.arrives.fits v x.same_mem x.shown.comes x.shown.carries)

  pub unfolds_then : (S S' S'' : Reading) → S'.mode ≡ S.mode → (U V : Focus → Unfolding → Unfolded) → Unfolds S U S' → Unfolds S' V S'' → Unfolds S (λ φ u. and_then (U φ u) (V φ)) S''
  unfolds_then S S' S'' modes U V a b κ φ c typed beyond picks f u same s h =
      gives_then (Reached world S S' κ φ c u.events s) (Reached world S S'' κ φ c u.events s) (U φ u) (V φ) (a κ φ c typed beyond picks f u same s h)
      (λ v x. goes_further S S' S'' modes V b κ φ c typed beyond picks u.events s v x)

  -- with fewer facts at the beginning, or at the end
  pub unfolds_drop : (S B : Reading) (U : Focus → Unfolding → Unfolded) (S' : Reading) → Weaker S B → Unfolds B U S' → Unfolds S U S'
  unfolds_drop S B U S' w h κ φ c typed beyond picks f u same s carries =
      gives_map (Reached world B S' κ φ c u.events s) (Reached world S S' κ φ c u.events s) (U φ u)
      (λ v x. record {
        to = x.to;
        same_mem = x.same_mem;
        by = x.by;
        arrives = record { runs = x.arrives.runs; fits = x.arrives.fits; still = subst (λ (z : Name → Option Mode). Still world z φ c x.to) w.mode x.arrives.still };
        shown = x.shown;
      })
      (h κ φ c typed beyond (subst (λ (z : Name → Option Mode). Picks z φ) (sym w.mode) picks) (weaken world S B κ φ c w f) u same s carries)

  pub unfolds_weaker : (S : Reading) (U : Focus → Unfolding → Unfolded) (E S' : Reading) → Weaker E S' → Unfolds S U E → Unfolds S U S'
  unfolds_weaker S U E S' w h κ φ c typed beyond picks f u same s carries =
      gives_map (Reached world S E κ φ c u.events s) (Reached world S S' κ φ c u.events s) (U φ u)
      (λ v x. record {
        to = x.to;
        same_mem = x.same_mem;
        by = x.by;
        arrives = record { runs = x.arrives.runs; fits = weaken world E S' κ φ x.to w x.arrives.fits; still = x.arrives.still };
        shown = x.shown;
      })
      (h κ φ c typed beyond picks f u same s carries)

  module _ (S S1 : Reading) (κ κ' : Pid → Code) (φ : Focus) (c : Conf) (u : Unfolding) (s : State) (p : Pid) (same : mem c ≡ mem_of u.run) (carries : Carries u.sender (state world c) s) (none : u.sender p ≡ None) (x : Silent world S κ' φ c p S1) where
    runs_one : run (state world c) (plain_event p ∷ []) ≡ Some (state world x.to)
    runs_one = ap (run (state world c)) (sym x.one) ∙ x.leads.runs

    pub shown_one : Shown u.events s (moves p u) (state world x.to)
    shown_one = shown_moves (p ∷ []) u (state world c) (state world x.to) s carries (none, tt) runs_one

    -- a silent event, and what comes after it
    pub after_event : (B : (Pid → Code) → Focus → Type 0) → S1.mode ≡ S.mode → T.IsTyped c → B κ' φ → Picks S.mode φ → (U : Focus → Unfolding → Unfolded) (E S' : Reading) → UnfoldsBy (behind_by world T B) S1 U E → ((d : Conf) → Fits world E κ' φ d → Fits world S' κ φ d) →
        Gives (Reached world S S' κ φ c u.events s) (U φ (moves p u))
    after_event B modes typed beyond picks U E S' h back =
        gives_map (Reached world S1 E κ' φ x.to (moves p u).events shown_one.comes) (Reached world S S' κ φ c u.events s) (U φ (moves p u))
        (λ v y. record {
          to = y.to;
          same_mem = y.same_mem;
          by = x.leads.by ++ y.by;
          arrives = lead_arrives world T S S1 E S' κ κ' φ c x.to y.to y.by x.leads x.still modes y.arrives (back y.to y.arrives.fits);
          shown = shown_then u.events s (moves p u) (state world x.to) shown_one v (state world y.to) y.shown;
        })
        (h κ' φ x.to (T.runs c x.to x.leads.by typed x.leads.runs) beyond (subst (λ (m : Name → Option Mode). Picks m φ) (sym modes) picks) x.fits (moves p u) (x.same_mem ∙ same) shown_one.comes shown_one.carries)

  -- a silent event alone
  pub reached_one : (S S1 : Reading) (κ : Pid → Code) (φ : Focus) (c : Conf) (u : Unfolding) (s : State) (p : Pid) → mem c ≡ mem_of u.run → Carries u.sender (state world c) s → u.sender p ≡ None → Silent world S κ φ c p S1 → Reached world S S1 κ φ c u.events s (moves p u)
  reached_one S S1 κ φ c u s p same carries none x = record {
    to = x.to;
    same_mem = x.same_mem ∙ same;
    by = x.leads.by;
    arrives = record { runs = x.leads.runs; fits = x.fits; still = x.still };
    shown = shown_one S S1 κ κ φ c u s p same carries none x;
  }
