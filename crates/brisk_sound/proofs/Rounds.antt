-- The unfolding of the loops over a set, and of a pick.
use Rattle.std.proofs.Common.{◌≡◌, ℕ, suc, zero, ◌+◌, true, false, List, [], ◌∷◌, ◌++◌, map, Option, Some, None, refl, sym, ap, ◌∙◌, subst, arith, zero-add, add-zero}
use Rattle.std.specs.Prelude.{if◌then◌else◌, ◌&&◌, nat_lt}
use Rattle.std.proofs.lemmas.Bool.{lt-ltb, ltb-true}
use Rattle.brisk_values.specs.declared.value.Pid.{Pid}
use Rattle.brisk_values.specs.Functions.{changed}
use Rattle.brisk_values.specs.Names.{Name, same_name, member}
use Rattle.brisk_syntax.specs.Syntax.{RecvAny, Repeat, For, Code, done, ◌⨾◌, ◌then◌}
use Rattle.brisk_seq.specs.Sequential.{Focus, in_focus}
use Rattle.brisk_async.specs.declared.event.Event.{Event}
use Rattle.brisk_async.specs.Laws.{AnyReceive, plain_event}
use Rattle.brisk_async.specs.Machine.{State, run}
use Rattle.brisk_basic.specs.Outcomes.{and_then}
use Rattle.brisk_state.specs.declared.thread.Mode.{Mode}
use Rattle.brisk_sound.specs.Does.{Does}
use Rattle.brisk_rules.specs.Unfolding.{Unfolding, Unfolded, moves, all_move, carries, turns_each, turns_any, chooses}
use Rattle.brisk_sound.proofs.Advance.{Test, Once, with_test}
use Rattle.brisk_sound.proofs.Carried.{Senders, Carries, NoneOf, not_carried, carries_from}
use Rattle.brisk_sound.proofs.Compose.{still_then}
use Rattle.brisk_sound.proofs.Fits.{World, Conf, mem, Picks, Still, active_live}
use Rattle.brisk_sound.proofs.For as loop
use Rattle.brisk_sound.proofs.For.{Loop, Entry, Exit, for_start, after_for, at_turn, owners, picks_in, inside_by, within_for}
use Rattle.brisk_sound.proofs.Gather as gather
use Rattle.brisk_sound.proofs.Gather.{Gathers, Gathered, gather_start, within_gather, gather_at, after_gather}
use Rattle.brisk_sound.proofs.Leads.{state, Leads, runs-append}
use Rattle.brisk_sound.proofs.Link.{mem_of}
use Rattle.brisk_sound.proofs.Member.{is_inside, stands}
use Rattle.brisk_sound.proofs.Middle.{Served, set_at}
use Rattle.brisk_sound.proofs.Pick as pick
use Rattle.brisk_sound.proofs.Pick.{MayPick, Picked, pick_start, within_pick, after_pick}
use Rattle.brisk_sound.proofs.Pigeons.{unserved, unserved_none}
use Rattle.brisk_rules.proofs.Readings.{Reading, is_active, code_by}
use Rattle.brisk_sound.proofs.Sound.{Typing, Sound}
use Rattle.brisk_sound.proofs.Unfolds.{Gives, gives_map, gives_then, gives_choice, Shown, shown_then, all_moved, shown_moves, Reached, Unfolds}

-- the events of threads' processes
events_of_all : (φ : Focus) (ts : List Name) → map (λ t. plain_event (φ t)) ts ≡ map plain_event (map φ ts)
events_of_all φ [] = refl
events_of_all φ (t ∷ ts) = ap (λ es. plain_event (φ t) ∷ es) (events_of_all φ ts)

-- the members in focus don't matter to the owners
owners_events : (φ : Focus) (s : Name) (k : ℕ) (mode : Name → Option Mode) (wanted passed : Test) (ts : List Name) → Once mode wanted passed ts → ((t : Name) → wanted t ≡ true → same_name s t ≡ false) →
    map (λ t. plain_event (in_focus s k φ t)) ts ≡ map plain_event (map φ ts)
owners_events φ s k mode wanted passed [] once apart = refl
owners_events φ s k mode wanted passed (t ∷ ts) once apart = λ i. plain_event (if apart t once.2 i then member s k else φ t) ∷ owners_events φ s k mode wanted (with_test passed t) ts once.3 apart i

-- no owner carries a sender
none_of_all : (σ : Senders) (φ : Focus) (mode : Name → Option Mode) (wanted passed : Test) (ts : List Name) → Once mode wanted passed ts → ((t : Name) → is_active (mode t) ≡ true → wanted t ≡ true → σ (φ t) ≡ None) → NoneOf σ (map φ ts)
none_of_all σ φ mode wanted passed [] once h = tt
none_of_all σ φ mode wanted passed (t ∷ ts) once h = (h t once.0 once.2, none_of_all σ φ mode wanted (with_test passed t) ts once.3 h)

module _ (world : World) (T : Typing world) where
  -- what was reached from there, after what led there
  module _ (S Z : Reading) (κ : Pid → Code) (φ : Focus) (c d : Conf) (past : List Event) (s : State) (by : List Event) (runs : run (state world c) by ≡ Some (state world d)) (still : Still world S.mode φ c d)
      (v : Unfolding) (shown : Shown past s v (state world d)) where
    from_there : (w : Unfolding) → Reached world S Z κ φ d v.events shown.comes w → Reached world S Z κ φ c past s w
    from_there w y = record {
      to = y.to;
      same_mem = y.same_mem;
      by = by ++ y.by;
      arrives = record {
        runs = runs-append world c d y.to by y.by runs y.arrives.runs;
        fits = y.arrives.fits;
        still = still_then world S.mode φ c d y.to still y.arrives.still;
      };
      shown = shown_then past s v (state world d) shown w (state world y.to) y.shown;
    }

  module _ (S : Reading) (s : Name) (ts : List Name) (L : Name → Loop) (R : Does) (E : Reading) (entry : Entry S s ts L) (exit : Exit S s ts L E) (sound : Sound world (inside_by world T S s (within_for S s ts L)) (for_start S s ts L) R E) (U : Focus → Unfolding → Unfolded)
      (turn : Unfolds world (inside_by world T S s (within_for S s ts L)) (for_start S s ts L) U E) (κ : Pid → Code) (φ : Focus) (picks : Picks S.mode φ) where
    abbrev Middle : ℕ → Conf → Type 0
    Middle = loop.Middle world T S s ts L R E entry exit sound κ φ picks

    abbrev owned : List Pid
    owned = map φ ts

    abbrev apart : (t : Name) → owners ts t ≡ true → same_name s t ≡ false
    apart = loop.not_set world T S s ts L R E entry exit sound κ φ picks

    -- between two turns no owner carries a sender
    none_carried : (k : ℕ) (c : Conf) → Middle k c → (σ : Senders) (z : State) → Carries σ (state world c) z → NoneOf σ owned
    none_carried k c mid σ z h = none_of_all σ φ S.mode (owners ts) (λ _. false) ts entry.once at_loop
      where
        at_loop : (t : Name) → is_active (S.mode t) ≡ true → owners ts t ≡ true → σ (φ t) ≡ None
        at_loop t act e =
            not_carried σ (state world c) z h (φ t) (For (L t).binder s k (code_by φ (L t).body)) (code_by φ (L t).rest then κ (φ t))
            (mid.code (φ t) (active_live world S.mode φ t picks act)
            ∙ (λ i. code_by φ (if (same_name s (picks.role_of t i) && nat_lt (φ t).member k) then E.code s else at_turn S s ts L k (picks.role_of t i)) then κ (φ t))
            ∙ (λ i. code_by φ (if (apart t e i && nat_lt (φ t).member k) then E.code s else at_turn S s ts L k t) then κ (φ t))
            ∙ (λ i. code_by φ (loop.at_is world T S s ts L R E entry exit sound κ φ picks k t e i) then κ (φ t))) refl

    same_run : (u : Unfolding) → mem_of u.run ≡ mem_of (all_move owned u).run
    same_run u = ap (λ (w : Unfolding). mem_of w.run) (sym (all_moved owned u))

    unfolds_rounds : (left k : ℕ) → left + k ≡ world.given.sizes s → (c : Conf) → T.IsTyped c → T.Behind κ φ → Middle k c → (u : Unfolding) → mem c ≡ mem_of u.run → (z : State) → Carries u.sender (state world c) z →
        Gives (Reached world S (after_for S s ts L E) κ φ c u.events z) (turns_each left k (all_move owned) (λ j. U (in_focus s j φ)) u)
    unfolds_rounds zero k e c typed beyond mid u same z h =
        let x = loop.leave world T S s ts L R E entry exit sound κ φ picks c (subst (λ (j : ℕ). Middle j c) (sym (zero-add k) ∙ e) mid) in record {
          to = x.to;
          same_mem = x.same_mem ∙ same ∙ same_run u;
          by = x.leads.by;
          arrives = record { runs = x.leads.runs; fits = x.fits; still = x.still };
          shown = shown_moves owned u (state world c) (state world x.to) z h (none_carried k c mid u.sender z h) (ap (run (state world c)) (sym (events_of_all φ ts) ∙ sym x.schedule) ∙ x.leads.runs);
        }
    unfolds_rounds (suc left) k e c typed beyond mid u same z h =
        let inside = loop.inside_of world T S s ts L R E entry exit sound κ φ picks left k e in
        let x = loop.begin_turn world T S s ts L R E entry exit sound κ φ picks k inside c mid in
        let u' = all_move owned u in
        let began = shown_moves owned u (state world c) (state world x.to) z h (none_carried k c mid u.sender z h)
        (ap (run (state world c)) (sym (owners_events φ s k S.mode (owners ts) (λ _. false) ts entry.once apart) ∙ sym x.schedule) ∙ x.leads.runs) in
        gives_then _ _ (U (in_focus s k φ) u') (turns_each left (k + 1) (all_move owned) (λ j. U (in_focus s j φ)))
        (turn _ (in_focus s k φ) x.to (T.runs c x.to x.leads.by typed x.leads.runs) (loop.inside_turn world T S s ts L R E entry exit sound κ φ picks k inside c beyond mid) (loop.picks_k world T S s ts L R E entry exit sound κ φ picks k) x.fits u' (x.same_mem ∙ same ∙ same_run u) began.comes began.carries)
        (λ v y.
        let a = loop.comes world T S s ts L R E entry exit sound κ φ picks k inside c y.to y.by mid x y.arrives in
        let there = shown_then u.events z u' (state world x.to) began v (state world y.to) y.shown in
        gives_map (Reached world S (after_for S s ts L E) κ φ y.to v.events there.comes) _ (turns_each left (k + 1) (all_move owned) (λ j. U (in_focus s j φ)) v)
        (from_there S (after_for S s ts L E) κ φ c y.to u.events z (x.leads.by ++ y.by) a.runs a.still v there)
        (unfolds_rounds left (k + 1) (loop.next_turn world T S s ts L R E entry exit sound κ φ picks left k e) y.to (T.runs c y.to (x.leads.by ++ y.by) typed a.runs) beyond a.mid v y.same_mem there.comes there.carries))

  pub unfolds_for : (S : Reading) (s : Name) (ts : List Name) (L : Name → Loop) (R : Does) (E : Reading) (entry : Entry S s ts L) (exit : Exit S s ts L E) → Sound world (inside_by world T S s (within_for S s ts L)) (for_start S s ts L) R E → (U : Focus → Unfolding → Unfolded) → Unfolds world (inside_by world T S s (within_for S s ts L)) (for_start S s ts L) U E →
      Unfolds world T S (λ φ u. turns_each (world.given.sizes s) 0 (all_move (map φ ts)) (λ j. U (in_focus s j φ)) u) (after_for S s ts L E)
  unfolds_for S s ts L R E entry exit sound U turn κ φ c typed beyond picks f u same z h =
      unfolds_rounds S s ts L R E entry exit sound U turn κ φ picks (world.given.sizes s) 0 (add-zero (world.given.sizes s)) c typed beyond (loop.first world T S s ts L R E entry exit sound κ φ picks c f) u same z h

  module _ (S : Reading) (t : Name) (a : AnyReceive) (R : Does) (E : Reading) (entry : Gathers S t a) (exit : Gathered S t a E) (sound : Sound world (inside_by world T S a.set (within_gather t a)) (gather_start S t a) R E) (U : Focus → Unfolding → Unfolded)
      (turn : Unfolds world (inside_by world T S a.set (within_gather t a)) (gather_start S t a) U E) (κ : Pid → Code) (φ : Focus) (picks : Picks S.mode φ) where
    abbrev Between : Served → ℕ → Conf → Type 0
    Between = gather.Middle world T S t a R E entry exit sound κ φ picks

    abbrev n : ℕ
    n = world.given.sizes a.set

    abbrev p : Pid
    p = φ t

    abbrev begun : ℕ → Conf → Conf
    begun = gather.begun world T S t a R E entry exit sound κ φ picks

    abbrev taken : ℕ → ℕ → Conf → Conf
    taken = gather.taken world T S t a R E entry exit sound κ φ picks

    abbrev used_by : List ℕ → Served
    used_by = gather.used_by world T S t a R E entry exit sound κ φ picks

    abbrev End : Reading
    End = after_gather world T S t a R E entry exit sound κ φ picks

    -- between two turns the owner carries no sender
    none_at : (sv : Served) (k : ℕ) (c : Conf) → Between sv k c → (σ : Senders) (z : State) → Carries σ (state world c) z → σ p ≡ None
    none_at sv k c mid σ z h =
        not_carried σ (state world c) z h p (Repeat a.set k (code_by φ (RecvAny a.channel a.variables a.binder a.set a.body ⨾ done))) (code_by φ a.rest then κ p)
        (gather.code_is world T S t a R E entry exit sound κ φ picks sv k c mid) refl

    abbrev turns : ℕ → List ℕ → Unfolding → Unfolded
    turns left used = turns_any left n used (moves p) (λ j v. U (in_focus a.set j φ) (carries p (member a.set j) v))

    unfolds_turns : (left k : ℕ) (used : List ℕ) → left + k ≡ n → unserved n (used_by used) ≡ left → (c : Conf) → T.IsTyped c → T.Behind κ φ → Between (used_by used) k c → (u : Unfolding) → mem c ≡ mem_of u.run → (z : State) → Carries u.sender (state world c) z →
        Gives (Reached world S End κ φ c u.events z) (turns left used u)
    unfolds_turns zero k used e g c typed beyond mid u same z h =
        let x = gather.leave world T S t a R E entry exit sound κ φ picks (used_by used) c g (subst (λ (j : ℕ). Between (used_by used) j c) (sym (zero-add k) ∙ e) mid) in record {
          to = x.to;
          same_mem = x.same_mem ∙ same;
          by = x.leads.by;
          arrives = record { runs = x.leads.runs; fits = x.fits; still = x.still };
          shown = shown_moves (p ∷ []) u (state world c) (state world x.to) z h (none_at (used_by used) k c mid u.sender z h, tt) (ap (run (state world c)) (sym x.one) ∙ x.leads.runs);
        }
    unfolds_turns (suc left) k used e g c typed beyond mid u same z h =
        let below = lt-ltb k n (omega (arith, e)) in
        let sv = used_by used in
        let L : Leads world c (begun k c) = gather.begin_leads world T S t a R E entry exit sound κ φ picks sv k c below mid in
        let none = none_at sv k c mid u.sender z h in
        let began : Shown u.events z (moves p u) (state world (begun k c)) = shown_moves (p ∷ []) u (state world c) (state world (begun k c)) z h (none, tt) L.runs in
        gives_choice (Reached world S End κ φ c u.events z) n used u.run.choices u (λ m v. and_then (U (in_focus a.set m φ) (carries p (member a.set m) (moves p v))) (turns left (m ∷ used))) (λ m ks asked inside fresh.
        let u' = carries p (member a.set m) (moves p record u { run = record u.run { choices = ks; asked = asked } }) in
        let named = carries_from u.sender (state world (begun k c)) began.comes p (member a.set m) (gather.receive world T S t a R E entry exit sound κ φ picks k) began.carries none
        (gather.at_receive world T S t a R E entry exit sound κ φ picks k c) (is_inside world.given.sizes a.set m inside) in
        gives_then _ (Reached world S End κ φ c u.events z) (U (in_focus a.set m φ) u') (turns left (m ∷ used))
        (turn _ (in_focus a.set m φ) (taken m k c) (gather.typed_taken world T S t a R E entry exit sound κ φ picks k below sv c typed mid m inside) (gather.inside_turn world T S t a R E entry exit sound κ φ picks k below sv c typed mid beyond m inside) (picks_in S.mode a.set φ m picks)
        (gather.fits_taken world T S t a R E entry exit sound κ φ picks m k c sv inside fresh mid) u' same began.comes named)
        (λ v y.
        let x = gather.comes world T S t a R E entry exit sound κ φ picks k below sv c typed mid m inside fresh y.to y.by y.arrives in
        let w = subst (λ (q : Served). gather.Comes world T S t a R E entry exit sound κ φ picks q (k + 1) c y.to x.0) (gather.used_more world T S t a R E entry exit sound κ φ picks m used) x.1 in
        let there : Shown u.events z v (state world y.to) = shown_then u.events z (moves p u) (state world (begun k c)) began v (state world y.to) y.shown in
        gives_map (Reached world S End κ φ y.to v.events there.comes) (Reached world S End κ φ c u.events z) (turns left (m ∷ used) v)
        (from_there S End κ φ c y.to u.events z x.0 w.runs w.still v there)
        (unfolds_turns left (k + 1) (m ∷ used) (omega (arith, e)) (gather.one_fewer world T S t a R E entry exit sound κ φ picks m used left (ltb-true m n inside) fresh g) y.to (T.runs c y.to x.0 typed w.runs) beyond w.mid v y.same_mem there.comes there.carries)))

  pub unfolds_gather : (S : Reading) (t : Name) (a : AnyReceive) (R : Does) (E : Reading) → Gathers S t a → Gathered S t a E → Sound world (inside_by world T S a.set (within_gather t a)) (gather_start S t a) R E → (U : Focus → Unfolding → Unfolded) → Unfolds world (inside_by world T S a.set (within_gather t a)) (gather_start S t a) U E →
      Unfolds world T S (λ φ u. turns_any (world.given.sizes a.set) (world.given.sizes a.set) [] (moves (φ t)) (λ j v. U (in_focus a.set j φ) (carries (φ t) (member a.set j) v)) u) (set_at S a.set E (changed same_name S.code t a.rest))
  unfolds_gather S t a R E entry exit sound U turn κ φ c typed beyond picks f u same z h =
      unfolds_turns S t a R E entry exit sound U turn κ φ picks (world.given.sizes a.set) 0 [] (add-zero (world.given.sizes a.set)) (unserved_none (world.given.sizes a.set)) c typed beyond (gather.starts world T S t a R E entry exit sound κ φ picks c f) u same z h

  pub unfolds_pick : (S : Reading) (t : Name) (a : AnyReceive) (R : Does) (E : Reading) (entry : MayPick S t a) (some : nat_lt 0 (world.given.sizes a.set) ≡ true) (exit : Picked S t a E) → Sound world (inside_by world T S a.set (within_pick t a)) (pick_start S t a) R E → (U : Focus → Unfolding → Unfolded) → Unfolds world (inside_by world T S a.set (within_pick t a)) (pick_start S t a) U E →
      Unfolds world T S (λ φ u. chooses (world.given.sizes a.set) [] u.run.choices u (λ j v. U (in_focus a.set j φ) (carries (φ t) (member a.set j) v))) (after_pick S t a E)
  unfolds_pick S t a R E entry some exit sound U turn κ φ c typed beyond picks f u same z h =
      let n = world.given.sizes a.set in let p = φ t in
      let stand = pick.at_receive world T S t a R E entry some exit sound κ φ picks c typed f in
      gives_choice (Reached world S (after_pick S t a E) κ φ c u.events z) n [] u.run.choices u (λ j v. U (in_focus a.set j φ) (carries p (member a.set j) v)) (λ m ks asked inside fresh.
      let u' = carries p (member a.set m) record u { run = record u.run { choices = ks; asked = asked } } in
      let named = carries_from u.sender (state world c) z p (member a.set m) (stands φ a (code_by φ a.rest then κ p)) h
      (not_carried u.sender (state world c) z h p _ _ stand refl) stand (is_inside world.given.sizes a.set m inside) in
      gives_map _ (Reached world S (after_pick S t a E) κ φ c u.events z) (U (in_focus a.set m φ) u')
      (λ v y.
      let x = pick.arrives world T S t a R E entry some exit sound κ φ picks c typed f m inside y.to y.by y.arrives in record {
        to = y.to;
        same_mem = y.same_mem;
        by = x.0;
        arrives = x.1;
        shown = y.shown;
      })
      (turn _ (in_focus a.set m φ) _ (pick.typed_taken world T S t a R E entry some exit sound κ φ picks c typed f m inside) (pick.inside_premise world T S t a R E entry some exit sound κ φ picks c typed f beyond m inside) (picks_in S.mode a.set φ m picks) (pick.fits_taken world T S t a R E entry some exit sound κ φ picks c typed f m inside) u' same z named))
