-- How processes stand to their gathers, as it is followed from event to event, is what they took.
use Rattle.std.proofs.Common.{◌≡◌, ◌≢◌, ℕ, zero, suc, ◌+◌, ◌≤◌, Bool, true, false, List, [], ◌∷◌, ◌++◌, Option, Some, None, inl, inr, refl, sym, ap, ◌∙◌, arith, subst}
use Rattle.std.specs.Prelude.{◌⊎◌, ◌↔◌, ◌||◌, ◌&&◌, if◌then◌else◌, nat_lt}
use Rattle.std.specs.List.{AllByRecursion}
use Rattle.std.proofs.lemmas.Option.{same_Some}
use Rattle.brisk_values.specs.declared.value.Pid.{Pid}
use Rattle.brisk_values.specs.Names.{same_process}
use Rattle.brisk_values.proofs.Changes.{both_true, exact_process, process_laws, both_hold}
use Rattle.brisk_syntax.specs.Depths.{code_depth}
use Rattle.brisk_syntax.specs.WellTyped.{all_unbegun}
use Rattle.brisk_async.proofs.Heads.{done_effect}
use Rattle.brisk_syntax.specs.Syntax.{RecvAny, Code, done, ◌⨾◌}
use Rattle.brisk_instance.specs.Ordered.{Pairwise}
use Rattle.brisk_async.specs.declared.event.Event.{Event}
use Rattle.brisk_async.specs.Machine.{Effect, State, View, effect}
use Rattle.brisk_async.specs.PlainRuns.{Gather, at_receive, at_turn}
use Rattle.brisk_trace.specs.declared.standing.Standing.{Standing}
use Rattle.brisk_trace.specs.Gathers.{gather_at, open_runs, with_begun}
use Rattle.brisk_trace.specs.Standings.{closed, followed, followed_by, in_first, is_in, opened, received, tail, takes_again, taking}
use Rattle.brisk_trace.proofs.Histories.{HasTaken, added, before_or_last, code_at, extended, none_anew}
use Rattle.brisk_trace.proofs.Steady.{Above, Deep, above_less, all_steady, any_next, is_steady, not_anew, not_at_receive, not_outer, open_first, open_later, open_next, other_next, turn_is, turn_next}
use Rattle.std.proofs.lemmas.Bool.{or_right}

-- what goes together in order still does, where it is so of each
pub pair_keeps : {A B : Type 0} (P : A → Type 0) (R S : A → B → Type 0) → ((x : A) (y : B) → P x → R x y → S x y) → (xs : List A) (ys : List B) → AllByRecursion P xs → Pairwise R xs ys → Pairwise S xs ys
pair_keeps P R S step [] [] h r = tt
pair_keeps P R S step [] (y ∷ ys) h r = absurd r
pair_keeps P R S step (x ∷ xs) [] h r = absurd r
pair_keeps P R S step (x ∷ xs) (y ∷ ys) h r = (step x y h.0 r.0, pair_keeps P R S step xs ys h.1 r.1)

all_two : {A : Type 0} (P Q : A → Type 0) (xs : List A) → AllByRecursion P xs → AllByRecursion Q xs → AllByRecursion (λ x. P x × Q x) xs
all_two P Q [] h k = tt
all_two P Q (x ∷ xs) h k = ((h.0, k.0), all_two P Q xs h.1 k.1)

each : {A : Type 0} (P : A → Type 0) → ((x : A) → P x) → (xs : List A) → AllByRecursion P xs
each P h [] = tt
each P h (x ∷ xs) = (h x, each P h xs)

-- a member among these and one more is the one or among these
one_more_in : (ws : List Pid) (v w : Pid) → is_in (ws ++ v ∷ []) w ≡ (is_in ws w || same_process v w)
one_more_in [] v w = elim (same_process v w) as (λ b. (b || false) ≡ b) [ true ↦ refl | false ↦ refl ]
one_more_in (u ∷ ws) v w = ap (λ b. same_process u w || b) (one_more_in ws v w) ∙ grouped (same_process u w) (is_in ws w) (same_process v w)
  where
    grouped : (a b c : Bool) → (a || (b || c)) ≡ ((a || b) || c)
    grouped true b c = refl
    grouped false b c = refl

either : (a b : Bool) → (a || b) ≡ true → (a ≡ true) ⊎ (b ≡ true)
either true b h = inl refl
either false b h = inr h

first_of : (a b : Bool) → a ≡ true → (a || b) ≡ true
first_of a b h = ap (λ x. x || b) h

-- whether the process has begun a turn that its code is at the receive of, and what its code keeps to otherwise
abbrev pub Stands : Bool → Code → Type 0
Stands false c = Deep c
Stands true c = (g : Gather) × (k : ℕ) × (c ≡ at_receive g k) × Deep (at_turn g (k + 1))

module _ (s : State) where
  -- these members were taken in the open run of the gather
  abbrev pub IsTold : List Event → Pid → Gather → List Pid → Type 0
  IsTold es p g ws = (w : Pid) → (is_in ws w ≡ true) ↔ HasTaken s es p g (Some w)

  -- the process stands so after these events, with this code
  pub record Follows (es : List Event) (p : Pid) (c : Code) (st : Standing) : Type 0 where
    pub steady : all_steady c ≡ true
    pub stands : Stands st.at_receive c
    pub taken : Pairwise (IsTold es p) (open_runs c) st.runs

  -- an event that doesn't take in the run changes nothing in it
  told_still : (es : List Event) (e : Event) (p : Pid) (c : Code) (g : Gather) (ws : List Pid) → code_at s (es ++ e ∷ []) p ≡ Some c → (c ≡ at_turn g 0 → ⊥) →
      ((e.process ≡ p) → (k : ℕ) → code_at s es p ≢ Some (at_receive g k)) → IsTold es p g ws → IsTold (es ++ e ∷ []) p g ws
  told_still es e p c g ws here not other told w = (
    λ h. extended s es e p g (Some w) (λ anew. not (same_Some c (at_turn g 0) (sym here ∙ anew))) ((told w).0 h),
    λ h. elim (before_or_last s es e p g (Some w) h) [
      | inl before ↦ (told w).1 before
      | inr last ↦ absurd (other last.0 last.2.0 last.2.1)
    ],
  )

  -- events of other processes change nothing
  pub follows_other : (es : List Event) (e : Event) (p : Pid) (c : Code) (st : Standing) → code_at s (es ++ e ∷ []) p ≡ Some c → (e.process ≡ p → ⊥) → Follows es p c st → Follows (es ++ e ∷ []) p c st
  follows_other es e p c st here other h = record {
    steady = h.steady;
    stands = h.stands;
    taken = pair_keeps (λ g. c ≡ at_turn g 0 → ⊥) (IsTold es p) (IsTold (es ++ e ∷ []) p)
        (λ g ws not told. told_still es e p c g ws here not (λ same. absurd (other same)) told) (open_runs c) st.runs (not_anew c) h.taken;
  }

  module _ (es : List Event) (e : Event) (c d : Code) (before : code_at s es e.process ≡ Some c) (after : code_at s (es ++ e ∷ []) e.process ≡ Some d) where
    -- the runs stay as they are, where the code wasn't at the receive of one of them
    kept : (gs : List Gather) (runs : List (List Pid)) → AllByRecursion (λ g. d ≡ at_turn g 0 → ⊥) gs → AllByRecursion (λ g. (k : ℕ) → c ≡ at_receive g k → ⊥) gs → Pairwise (IsTold es e.process) gs runs →
        Pairwise (IsTold (es ++ e ∷ []) e.process) gs runs
    kept gs runs new old h =
        pair_keeps (λ g. (d ≡ at_turn g 0 → ⊥) × ((k : ℕ) → c ≡ at_receive g k → ⊥)) (IsTold es e.process) (IsTold (es ++ e ∷ []) e.process)
        (λ g ws not told. told_still es e e.process d g ws after not.0 (λ _ k at. not.1 k (same_Some c (at_receive g k) (sym before ∙ at))) told) gs runs
        (all_two (λ g. d ≡ at_turn g 0 → ⊥) (λ g. (k : ℕ) → c ≡ at_receive g k → ⊥) gs new old) h

    -- in a run that is opened nothing is taken yet
    none_told : (g : Gather) → c ≡ at_turn g 0 → IsTold (es ++ e ∷ []) e.process g []
    none_told g anew w = (
      λ h. cc,
      λ h. elim (before_or_last s es e e.process g (Some w) h) [
        | inl old ↦ absurd (none_anew s es e.process g (Some w) (before ∙ ap Some anew) old)
        | inr last ↦ let at : c ≡ at_receive g last.2.0 = same_Some c (at_receive g last.2.0) (sym before ∙ last.2.1) in absurd (apart last.2.0 (sym anew ∙ at))
      ],
    )
      where
        apart : (k : ℕ) → at_turn g 0 ≡ at_receive g k → ⊥
        apart k h = cc

    -- what is taken at the receive is told with what was taken before
    one_told : (g : Gather) (k : ℕ) (v : Pid) (ws : List Pid) → c ≡ at_receive g k → (d ≡ at_turn g 0 → ⊥) → e.sender ≡ Some v → IsTold es e.process g ws → IsTold (es ++ e ∷ []) e.process g (ws ++ v ∷ [])
    one_told g k v ws at not sender told w = (
      λ h. elim (either (is_in ws w) (same_process v w) (sym (one_more_in ws v w) ∙ h)) [
        | inl old ↦ extended s es e e.process g (Some w) (λ anew. not (same_Some d (at_turn g 0) (sym after ∙ anew))) ((told w).0 old)
        | inr new ↦ added s es e e.process g (Some w) refl (sender ∙ ap Some (exact_process v w new)) (k, before ∙ ap Some at) (λ anew. not (same_Some d (at_turn g 0) (sym after ∙ anew)))
      ],
      λ h. one_more_in ws v w ∙ elim (before_or_last s es e e.process g (Some w) h) [
        | inl old ↦ first_of (is_in ws w) (same_process v w) ((told w).1 old)
        | inr last ↦ or_right (is_in ws w) (same_process v w) (ap (same_process v) (sym (same_Some v w (sym sender ∙ last.1))) ∙ process_laws.refl v)
      ],
    )

    -- no code at a gather's beginning is at a gather's receive
    not_both : (g : Gather) (k : ℕ) → c ≡ at_turn g k → (gs : List Gather) → AllByRecursion (λ h. (j : ℕ) → c ≡ at_receive h j → ⊥) gs
    not_both g k at gs = each (λ h. (j : ℕ) → c ≡ at_receive h j → ⊥) (λ h j other. apart h j (sym at ∙ other)) gs
      where
        apart : (h : Gather) (j : ℕ) → at_turn g k ≡ at_receive h j → ⊥
        apart h j same = cc

    -- a turn begins
    turn_begins : (g : Gather) (k : ℕ) (st : Standing) → c ≡ at_turn g k → d ≡ at_receive g k → st.at_receive ≡ false → Follows es e.process c st →
        Follows (es ++ e ∷ []) e.process d record { at_receive = true; runs = opened k st.runs }
    turn_begins g k st at to out h =
        let ready = both_true (all_unbegun g.body && true) (all_steady g.rest) (ap all_steady (sym at) ∙ h.steady) in
        let bare = (both_true (all_unbegun g.body) true ready.0).0 in
        let deep : Deep (at_turn g k) = subst Deep at (subst (λ b. Stands b c) out h.stands) in
        record {
          steady = ap all_steady to ∙ both_hold (all_unbegun g.body) (all_steady (at_turn g (k + 1))) bare (both_hold (all_unbegun g.body && true) (all_steady g.rest) ready.0 ready.1);
          stands = (g, k, to, deep);
          taken = subst (λ gs. Pairwise (IsTold (es ++ e ∷ []) e.process) gs (opened k st.runs)) (sym opens) (by k (ap open_runs (sym at)) (subst (λ b. c ≡ at_turn g b) refl at));
        }
      where
        opens : open_runs d ≡ g ∷ open_runs g.rest
        opens = ap open_runs to ∙ open_next g k

        new : AllByRecursion (λ z. d ≡ at_turn z 0 → ⊥) (g ∷ open_runs g.rest)
        new = subst (AllByRecursion (λ z. d ≡ at_turn z 0 → ⊥)) opens (not_anew d)

        by : (j : ℕ) → open_runs (at_turn g j) ≡ open_runs c → c ≡ at_turn g j → Pairwise (IsTold (es ++ e ∷ []) e.process) (g ∷ open_runs g.rest) (opened j st.runs)
        by zero same here = (none_told g here, kept (open_runs g.rest) st.runs new.1 (not_both g k at (open_runs g.rest)) (subst (λ gs. Pairwise (IsTold es e.process) gs st.runs) (sym same ∙ open_first g) h.taken))
        by (suc j) same here = kept (g ∷ open_runs g.rest) st.runs new (not_both g k at (g ∷ open_runs g.rest)) (subst (λ gs. Pairwise (IsTold es e.process) gs st.runs) (sym same ∙ open_later g j) h.taken)

    behind_first : (g : Gather) (gs : List Gather) (runs : List (List Pid)) → Pairwise (IsTold es e.process) (g ∷ gs) runs → Pairwise (IsTold es e.process) gs (tail runs)
    behind_first g gs [] h = absurd h
    behind_first g gs (ws ∷ runs) h = h.1

    -- no turn is left
    run_ends : (g : Gather) (k : ℕ) (st : Standing) → c ≡ at_turn g k → d ≡ g.rest → st.at_receive ≡ false → Follows es e.process c st →
        Follows (es ++ e ∷ []) e.process d record { at_receive = false; runs = closed k st.runs }
    run_ends g k st at to out h =
        let ready = both_true (all_unbegun g.body && true) (all_steady g.rest) (ap all_steady (sym at) ∙ h.steady) in
        let deep : Deep (at_turn g k) = subst Deep at (subst (λ b. Stands b c) out h.stands) in
        record {
          steady = ap all_steady to ∙ ready.1;
          stands = subst Deep (sym to) deep.1;
          taken = subst (λ gs. Pairwise (IsTold (es ++ e ∷ []) e.process) gs (closed k st.runs)) (ap open_runs (sym to)) (by k (ap open_runs (sym at)));
        }
      where
        new : AllByRecursion (λ z. d ≡ at_turn z 0 → ⊥) (open_runs g.rest)
        new = subst (AllByRecursion (λ z. d ≡ at_turn z 0 → ⊥)) (ap open_runs to) (not_anew d)

        by : (j : ℕ) → open_runs (at_turn g j) ≡ open_runs c → Pairwise (IsTold (es ++ e ∷ []) e.process) (open_runs g.rest) (closed j st.runs)
        by zero same = kept (open_runs g.rest) st.runs new (not_both g k at (open_runs g.rest)) (subst (λ gs. Pairwise (IsTold es e.process) gs st.runs) (sym same ∙ open_first g) h.taken)
        by (suc j) same = kept (open_runs g.rest) (tail st.runs) new (not_both g k at (open_runs g.rest))
            (behind_first g (open_runs g.rest) st.runs (subst (λ gs. Pairwise (IsTold es e.process) gs st.runs) (sym same ∙ open_later g j) h.taken))

    -- the process takes at the receive of a turn
    takes_one : (g : Gather) (k : ℕ) (w : Pid) (runs : List (List Pid)) → c ≡ at_receive g k → open_runs d ≡ g ∷ open_runs g.rest → e.sender ≡ Some w → Pairwise (IsTold es e.process) (g ∷ open_runs g.rest) runs →
        Pairwise (IsTold (es ++ e ∷ []) e.process) (g ∷ open_runs g.rest) (taking w runs)
    takes_one g k w [] at opens sender h = absurd h
    takes_one g k w (ws ∷ runs) at opens sender h =
        let new = subst (AllByRecursion (λ z. d ≡ at_turn z 0 → ⊥)) opens (not_anew d) in
        (one_told g k w ws at new.0 sender h.0, kept (open_runs g.rest) runs new.1 (subst (λ (z : Code). AllByRecursion (λ q. (j : ℕ) → z ≡ at_receive q j → ⊥) (open_runs g.rest)) (sym at) (not_outer g k)) h.1)

    receives : (v : View) (x : Effect) (g : Gather) (k : ℕ) (st : Standing) → c ≡ at_receive g k → Deep (at_turn g (k + 1)) → effect v e.process c e.sender e.place ≡ Some x → d ≡ x.next → Follows es e.process c st →
        Follows (es ++ e ∷ []) e.process d record { at_receive = false; runs = received e.sender st.runs }
    receives v x g k st at deep does to h =
        let ready = both_true (all_unbegun g.body) (all_steady (at_turn g (k + 1))) (ap all_steady (sym at) ∙ h.steady) in
        let above : Above (code_depth g.body) (at_turn g (k + 1)) = subst (AllByRecursion (λ (z : Gather). code_depth g.body ≤ code_depth z.body)) (sym (open_next g k)) (omega arith, above_less (code_depth g.body) (code_depth (RecvAny g.channel g.variables g.binder g.set g.body ⨾ done) + 1) g.rest (omega arith) deep.0) in
        let next = any_next v e.process g.channel g.variables g.binder g.set g.body (at_turn g (k + 1)) e.sender e.place x (ap (λ z. effect v e.process z e.sender e.place) (sym at) ∙ does) ready.0 ready.1 above deep in
        let opens : open_runs d ≡ g ∷ open_runs g.rest = ap open_runs to ∙ next.opens ∙ open_next g k in
        record {
          steady = ap all_steady to ∙ next.steady;
          stands = subst Deep (sym to) next.deep;
          taken = subst (λ gs. Pairwise (IsTold (es ++ e ∷ []) e.process) gs (received e.sender st.runs)) (sym opens) (by e.sender refl opens);
        }
      where
        before_it : Pairwise (IsTold es e.process) (g ∷ open_runs g.rest) st.runs
        before_it = subst (λ gs. Pairwise (IsTold es e.process) gs st.runs) (ap open_runs at ∙ open_next g k) h.taken

        by : (o : Option Pid) → e.sender ≡ o → open_runs d ≡ g ∷ open_runs g.rest → Pairwise (IsTold (es ++ e ∷ []) e.process) (g ∷ open_runs g.rest) (received o st.runs)
        by None sender opens = let nothing = sym does ∙ (λ i. effect v e.process (at i) (sender i) e.place) in cc
        by (Some w) sender opens = takes_one g k w st.runs at opens sender before_it

    -- any other event
    goes_on : (v : View) (x : Effect) (st : Standing) → gather_at c ≡ None → Deep c → effect v e.process c e.sender e.place ≡ Some x → d ≡ x.next → Follows es e.process c st →
        Follows (es ++ e ∷ []) e.process d record { at_receive = false; runs = st.runs }
    goes_on v x st none deep does to h = by c refl
      where
        old : AllByRecursion (λ g. (k : ℕ) → c ≡ at_receive g k → ⊥) (open_runs d)
        old = each (λ g. (k : ℕ) → c ≡ at_receive g k → ⊥) (λ g k at. not_at_receive g k (subst Deep at deep)) (open_runs d)

        by : (z : Code) → c ≡ z → Follows (es ++ e ∷ []) e.process d record { at_receive = false; runs = st.runs }
        by done is = let nothing = done_effect v e.process e.sender e.place in let same = ap (λ z. effect v e.process z e.sender e.place) (sym is) ∙ does in cc
        by (q ⨾ rest) is =
            let ready = both_true (is_steady q) (all_steady rest) (ap all_steady (sym is) ∙ h.steady) in
            let deeper : Deep (q ⨾ rest) = subst Deep is deep in
            let plain : gather_at (q ⨾ rest) ≡ None = ap gather_at (sym is) ∙ none in
            let next = other_next v e.process q rest e.sender e.place x (ap (λ z. effect v e.process z e.sender e.place) (sym is) ∙ does) plain ready.0 ready.1 deeper.0 deeper.1 in
            let same : open_runs c ≡ open_runs d = ap open_runs is ∙ ap (λ o. with_begun o (open_runs rest)) plain ∙ sym (ap open_runs to ∙ next.opens) in
            record {
              steady = ap all_steady to ∙ next.steady;
              stands = subst Deep (sym to) next.deep;
              taken = kept (open_runs d) st.runs (not_anew d) old (subst (λ gs. Pairwise (IsTold es e.process) gs st.runs) same h.taken);
            }

    not_receiving : (b : Bool) (g : Gather) (k : ℕ) → c ≡ at_turn g k → Stands b c → b ≡ false
    not_receiving true g k at h = let both_are = sym at ∙ h.2 in cc
    not_receiving false g k at h = refl

    -- the process is followed over its event
    pub follows_own : (v : View) (x : Effect) (st : Standing) → effect v e.process c e.sender e.place ≡ Some x → d ≡ x.next → Follows es e.process c st → Follows (es ++ e ∷ []) e.process d (followed v.sizes c e.sender st)
    follows_own v x st does to h = elim (gather_at c) as (λ o. gather_at c ≡ o → Follows (es ++ e ∷ []) e.process d (followed_by v.sizes o e.sender st)) [
      | None ↦ λ none. elim st.at_receive as (λ b. st.at_receive ≡ b → Stands b c → Follows (es ++ e ∷ []) e.process d record { at_receive = false; runs = if b then received e.sender st.runs else st.runs }) [
        | true ↦ λ receiving stands. receives v x stands.0 stands.1 st stands.2 stands.3 does to h
        | false ↦ λ not deep. goes_on v x st none deep does to h
      ] refl h.stands
      | Some f ↦ λ told.
          let at = turn_is c f told in
          let out = not_receiving st.at_receive f.0 f.1 at h.stands in
          let next : d ≡ (if nat_lt f.1 (v.sizes f.0.set) then at_receive f.0 f.1 else f.0.rest) = to ∙ turn_next v e.process f.0 f.1 e.sender e.place x (ap (λ z. effect v e.process z e.sender e.place) (sym at) ∙ does) in
          elim (nat_lt f.1 (v.sizes f.0.set)) as (λ b. d ≡ (if b then at_receive f.0 f.1 else f.0.rest) → Follows (es ++ e ∷ []) e.process d (if b then record { at_receive = true; runs = opened f.1 st.runs } else record { at_receive = false; runs = closed f.1 st.runs })) [
            | true ↦ λ begins. turn_begins f.0 f.1 st at begins out h
            | false ↦ λ ends. run_ends f.0 f.1 st at ends out h
          ] next
    ] refl

  -- what was taken in the innermost run
  first_told : (es : List Event) (p : Pid) (g : Gather) (gs : List Gather) (runs : List (List Pid)) → Pairwise (IsTold es p) (g ∷ gs) runs → (w : Pid) → (in_first runs w ≡ true) ↔ HasTaken s es p g (Some w)
  first_told es p g gs [] h w = absurd h
  first_told es p g gs (ws ∷ runs) h w = h.0 w

  -- at the receive of a gather's turn it is told whether the member was taken
  again_at : (es : List Event) (p : Pid) (c : Code) (st : Standing) (g : Gather) (k : ℕ) → c ≡ at_receive g k → Follows es p c st → (w : Pid) → (in_first st.runs w ≡ true) ↔ HasTaken s es p g (Some w)
  again_at es p c st g k at h w = first_told es p g (open_runs g.rest) st.runs (subst (λ gs. Pairwise (IsTold es p) gs st.runs) (ap open_runs at ∙ open_next g k) h.taken) w

  -- an event takes again where this is told, and there alone
  pub again_taken : (es : List Event) (p : Pid) (c : Code) (st : Standing) (from : Option Pid) → takes_again from st ≡ true → Follows es p c st → (g : Gather) × (k : ℕ) × (c ≡ at_receive g k) × HasTaken s es p g from
  again_taken es p c st None again h = cc
  again_taken es p c st (Some w) again h =
      let told = both_true st.at_receive (in_first st.runs w) again in
      let stands : Stands true c = subst (λ b. Stands b c) told.0 h.stands in
      (stands.0, stands.1, stands.2, (again_at es p c st stands.0 stands.1 stands.2 h w).0 told.1)

  pub taken_again : (v : View) (x : Effect) (place : Option ℕ) (es : List Event) (p : Pid) (c : Code) (st : Standing) (from : Option Pid) (g : Gather) (k : ℕ) → effect v p c from place ≡ Some x → c ≡ at_receive g k → HasTaken s es p g from → Follows es p c st → takes_again from st ≡ true
  taken_again v x place es p c st None g k does at taken h = let nothing = sym does ∙ ap (λ z. effect v p z None place) at in cc
  taken_again v x place es p c st (Some w) g k does at taken h =
      both_hold st.at_receive (in_first st.runs w) (receiving st.at_receive h.stands) ((again_at es p c st g k at h w).1 taken)
    where
      receiving : (b : Bool) → Stands b c → b ≡ true
      receiving true stands = refl
      receiving false deep = absurd (not_at_receive g k (subst Deep at deep))
