-- What the drives of pass one tell, where they are stuck, holds.
use Rattle.std.proofs.Common.{◌≡◌, ℕ, Bool, true, false, List, [], ◌∷◌, ◌++◌, map, Option, Some, None, refl, sym, ap, ◌∙◌, subst, true≢false}
use Rattle.std.specs.Prelude.{◌&&◌, ◌||◌, not, nat_lt, if◌then◌else◌, is_some, filter, cond}
use Rattle.std.specs.List.{list_any, list_all}
use Rattle.std.proofs.lemmas.Option.{same_Some}
use Rattle.brisk_values.specs.Names.{Name, same_name}
use Rattle.brisk_values.proofs.Changes.{name_laws, both_true, exact_name}
use Rattle.brisk_syntax.specs.declared.program.Program.{Program}
use Rattle.brisk_syntax.specs.Syntax.{Code, done}
use Rattle.brisk_syntax.specs.Typing.{is_among}
use Rattle.brisk_state.specs.declared.thread.Thread.{Thread}
use Rattle.brisk_state.specs.Same.{same_code}
use Rattle.brisk_state.specs.Symbolic.{Symbolic, code_at}
use Rattle.brisk_state.proofs.Threads.{exact_code}
use Rattle.brisk_derivation.specs.Reports.{Try, Tried, Tries}
use Rattle.brisk_derivation.specs.Steps.{Step}
use Rattle.brisk_rules.specs.Rules.{looks, Owner, Entered}
use Rattle.brisk_rules.specs.Standing.{stands_at, has_code, is_movable, thread_names, movable, resting, owners_of, focus_of, is_candidate, may_go_on, candidates}
use Rattle.brisk_rules.specs.Reports.{applies, basic_rules, moves, is_compound, is_for, is_for_set, has_try, is_told, all_told, all_hold, try_holds}
use Rattle.brisk_rules.specs.Following.{Follow}
use Rattle.brisk_search.specs.Turns.{Failures}
use Rattle.brisk_search.specs.Drives.{Drive, Way, Driven, Reached, Stuck, Driver, others, in_turn, or_others, must_end, candidates_of, premise_of, side_of, top}
use Rattle.brisk_search.specs.Drives as drive
use Rattle.brisk_search.specs.Passes.{last_try, with_try, last_tries}
use Rattle.brisk_search.proofs.Acted.{AllHold, LastBy, Ready, among_those, among_movable}
use Rattle.brisk_search.proofs.Round.{Ended}
use Rattle.std.proofs.lemmas.Bool.{not-false, not-true}

-- among several lists of names
among_left : (ts us : List Name) (u : Name) → is_among ts u ≡ true → is_among (ts ++ us) u ≡ true
among_left [] us u e = absurd (true≢false (sym e))
among_left (t ∷ ts) us u e = one_of (same_name u t) e (among_left ts us u)
  where
    one_of : (b : Bool) → (b || is_among ts u) ≡ true → (is_among ts u ≡ true → is_among (ts ++ us) u ≡ true) → (b || is_among (ts ++ us) u) ≡ true
    one_of true e h = refl
    one_of false e h = h e

among_right : (ts us : List Name) (u : Name) → is_among us u ≡ true → is_among (ts ++ us) u ≡ true
among_right [] us u e = e
among_right (t ∷ ts) us u e = one_of (same_name u t) (among_right ts us u e)
  where
    one_of : (b : Bool) → is_among (ts ++ us) u ≡ true → (b || is_among (ts ++ us) u) ≡ true
    one_of true h = refl
    one_of false h = h

-- what passes a filter
pub among_passed : (test : Name → Bool) (u : Name) (ts : List Name) → is_among (filter test ts) u ≡ true → (is_among ts u ≡ true) × (test u ≡ true)
among_passed test u [] e = absurd (true≢false (sym e))
among_passed test u (t ∷ ts) e = go (test t) refl e (among_passed test u ts)
  where
    later : (is_among ts u ≡ true) × (test u ≡ true) → (b : Bool) → ((b || is_among ts u) ≡ true) × (test u ≡ true)
    later (a, p) true = (refl, p)
    later (a, p) false = (a, p)

    here_or : test t ≡ true → (b : Bool) → same_name u t ≡ b → (b || is_among (filter test ts) u) ≡ true → (is_among (filter test ts) u ≡ true → (is_among ts u ≡ true) × (test u ≡ true)) → ((b || is_among ts u) ≡ true) × (test u ≡ true)
    here_or p true q f h = (refl, ap test (exact_name u t q) ∙ p)
    here_or p false q f h = h f

    go : (b : Bool) → test t ≡ b → is_among (cond b (t ∷ filter test ts) (filter test ts)) u ≡ true → (is_among (filter test ts) u ≡ true → (is_among ts u ≡ true) × (test u ≡ true)) →
        ((same_name u t || is_among ts u) ≡ true) × (test u ≡ true)
    go false p f h = later (h f) (same_name u t)
    go true p f h = here_or p (same_name u t) refl f h

pub all_among : (f : Name → Bool) (ts : List Name) → ((u : Name) → is_among ts u ≡ true → f u ≡ true) → list_all f ts ≡ true
all_among f [] h = refl
all_among f (t ∷ ts) h = λ i. h t (λ j. name_laws.refl t j || is_among ts t) i && all_among f ts (λ u e. h u (later u (same_name u t) e)) i
  where
    later : (u : Name) (b : Bool) → is_among ts u ≡ true → (b || is_among ts u) ≡ true
    later u true e = refl
    later u false e = e

none_among : (f : Name → Bool) (ts : List Name) → ((u : Name) → is_among ts u ≡ true → f u ≡ false) → list_any f ts ≡ false
none_among f [] h = refl
none_among f (t ∷ ts) h = λ i. h t (λ j. name_laws.refl t j || is_among ts t) i || none_among f ts (λ u e. h u (later u (same_name u t) e)) i
  where
    later : (u : Name) (b : Bool) → is_among ts u ≡ true → (b || is_among ts u) ≡ true
    later u true e = refl
    later u false e = e

pub not_any : (f : Name → Bool) (ts : List Name) (u : Name) → list_any f ts ≡ false → is_among ts u ≡ true → f u ≡ false
not_any f [] u e a = absurd (true≢false (sym a))
not_any f (t ∷ ts) u e a = go (f t) refl e (same_name u t) refl a (not_any f ts u)
  where
    go : (b : Bool) → f t ≡ b → (b || list_any f ts) ≡ false → (same : Bool) → same_name u t ≡ same → (same || is_among ts u) ≡ true → (list_any f ts ≡ false → is_among ts u ≡ true → f u ≡ false) → f u ≡ false
    go true p e same q a h = absurd (true≢false e)
    go false p e true q a h = ap f (exact_name u t q) ∙ p
    go false p e false q a h = h e a

-- a thread that rules move is among these or the others
in_all : (E : Symbolic) (these : List Name) (u : Name) → is_among (movable E) u ≡ true → is_among (these ++ others these E) u ≡ true
in_all E these u m = go (is_among these u) refl
  where
    go : (b : Bool) → is_among these u ≡ b → is_among (these ++ others these E) u ≡ true
    go true e = among_left these (others these E) u e
    go false e = among_right these (others these E) u (among_those (λ t. not (is_among these t)) u (movable E) m (ap not e))

module _ (P : Program) (deep : ℕ) (F : Follow) where
  -- the last tries hold
  tried_holds : (S : Symbolic) (fs : Failures) (t : Name) (a : Try) → AllHold P deep F S fs → last_try fs t ≡ Some a → try_holds P deep F S a ≡ true
  tried_holds S [] t a h e = cc
  tried_holds S (f ∷ fs) t a (k, h) e = go (same_name t f.0) e (tried_holds S fs t a h)
    where
      go : (b : Bool) → (if b then Some f.1 else last_try fs t) ≡ Some a → (last_try fs t ≡ Some a → try_holds P deep F S a ≡ true) → try_holds P deep F S a ≡ true
      go true e more = subst (λ z. try_holds P deep F S z ≡ true) (same_Some f.1 a e) k
      go false e more = more e

  all_last_hold : (S : Symbolic) (fs : Failures) → AllHold P deep F S fs → (ts : List Thread) → all_hold P deep F S (last_tries fs ts) ≡ true
  all_last_hold S fs h [] = refl
  all_last_hold S fs h (t ∷ ts) = go (last_try fs t.name) refl (all_last_hold S fs h ts)
    where
      go : (o : Option Try) → last_try fs t.name ≡ o → all_hold P deep F S (last_tries fs ts) ≡ true → all_hold P deep F S (with_try o (last_tries fs ts)) ≡ true
      go None e g = g
      go (Some a) e g = λ i. tried_holds S fs t.name a h e i && g i

  -- a thread's last try is among the tries that are told
  has_last : (test : Step → Bool) (fs : Failures) (u : Name) → LastBy P deep F test u fs → (ts : List Thread) → is_among (map (λ t. t.name) ts) u ≡ true → has_try test (last_tries fs ts) ≡ true
  has_last test fs u l [] e = absurd (true≢false (sym e))
  has_last test fs u l (t ∷ ts) e = go (same_name u t.name) refl e (has_last test fs u l ts)
    where
      kept : (o : Option Try) → has_try test (last_tries fs ts) ≡ true → has_try test (with_try o (last_tries fs ts)) ≡ true
      kept None h = h
      kept (Some (Tried rule end)) h = either (test rule) h
        where
          either : (b : Bool) → has_try test (last_tries fs ts) ≡ true → (b || has_try test (last_tries fs ts)) ≡ true
          either true h = refl
          either false h = h

      go : (b : Bool) → same_name u t.name ≡ b → (b || is_among (map (λ t. t.name) ts) u) ≡ true → (is_among (map (λ t. t.name) ts) u ≡ true → has_try test (last_tries fs ts) ≡ true) →
          has_try test (with_try (last_try fs t.name) (last_tries fs ts)) ≡ true
      go true q e h = ap (λ o. has_try test (with_try o (last_tries fs ts))) (ap (last_try fs) (sym (exact_name u t.name q)) ∙ l.is) ∙ (λ i. l.by i || has_try test (last_tries fs ts))
      go false q e h = kept (last_try fs t.name) (h e)

  -- where a drive is stuck, what comes in turn is told, and what is told holds
  pub record StuckTells (d : Drive) (E : Symbolic) (ts : Tries) : Type 0 where
    pub waits : d.goal E ≡ false
    pub told : (u : Name) → is_among (in_turn d E) u ≡ true → is_movable E u ≡ true → is_told P F E ts u ≡ true
    pub sets : d.sets ≡ true → list_all (λ s. has_try (is_for_set s) ts) (resting E) ≡ true
    pub hold : all_hold P deep F E ts ≡ true

  abbrev pub DriveTells : Drive → Driven → Type 0
  DriveTells d (Reached w left) = Unit {0}
  DriveTells d (Stuck w ts left) = StuckTells d w.end ts
  DriveTells d drive.Spent = Unit {0}

  in_threads : (S : Symbolic) (u : Name) → is_movable S u ≡ true → is_among (thread_names S) u ≡ true
  in_threads S u m = go (code_at S u) refl m
    where
      go : (o : Option Code) → code_at S u ≡ o → is_some o ≡ true → is_among (thread_names S) u ≡ true
      go None e h = absurd (true≢false (sym h))
      go (Some c) e h = (among_passed (is_movable S) u (thread_names S) (among_movable S u c e)).0

  -- a round that stays tells so
  pub round_tells : (below : Option Driver) (fits : nat_lt deep 256 ≡ is_some below) (S : Symbolic) (ready : Ready P deep F below S) (d : Drive) (fs : Failures) → d.goal S ≡ false → Ended P deep F below fits S ready d fs →
      StuckTells d S (last_tries fs S.threads)
  round_tells below fits S ready d fs goal e = record {
    waits = goal;
    told = λ u a m. let c = e.threads u a m in λ i. not (c.still i) && tried u m (is_compound S (stands_at S u)) refl c.tried i;
    sets = λ s. all_among (λ s. has_try (is_for_set s) (last_tries fs S.threads)) (resting S) (λ u a.
        let (n, r) = among_passed (λ s. not (is_movable S s) && has_code S s) u (thread_names S) a in
        has_last (is_for_set u) fs u (e.good.sets u (not-true (is_movable S u) (both_true (not (is_movable S u)) (has_code S u) r).0) (e.sets s u a)) S.threads n);
    hold = all_last_hold S fs e.good.hold S.threads;
  }
    where
      tried : (u : Name) → is_movable S u ≡ true → (b : Bool) → is_compound S (stands_at S u) ≡ b → (is_compound S (stands_at S u) ≡ true → is_some (last_try fs u) ≡ true) →
          (not b || has_try (is_for u (stands_at S u)) (last_tries fs S.threads)) ≡ true
      tried u m false q h = refl
      tried u m true q h = has_last (is_for u (stands_at S u)) fs u (e.good.made u m q (h q)) S.threads (in_threads S u m)

  module _ (E : Symbolic) (ts : Tries) where
    pub told_all : ((u : Name) → is_among (movable E) u ≡ true → is_told P F E ts u ≡ true) → all_told P F false E ts ≡ true
    told_all h = λ i. all_among (is_told P F E ts) (movable E) h i && true

    told_still : (u : Name) → is_told P F E ts u ≡ true → moves P F E u ≡ false
    told_still u e = not-true (moves P F E u) (both_true (not (moves P F E u)) (not (is_compound E (stands_at E u)) || has_try (is_for u (stands_at E u)) ts) e).0

    -- the threads in turn in a premise, by its owners
    abbrev turns : Entered → List Name → List Name
    turns r os = os ++ (if list_any (has_code E) os then others os E else candidates_of r os E)

    owner_open : (r : Entered) (os : List Name) (u : Name) → list_any (has_code E) (or_others os (focus_of (looks r.kind))) ≡ true → is_among (movable E) u ≡ true → is_among (turns r os) u ≡ true
    owner_open r [] u e m = in_all E (focus_of (looks r.kind)) u m
    owner_open r (o ∷ os) u e m = ap (λ b. is_among ((o ∷ os) ++ (if b then others (o ∷ os) E else candidates_of r (o ∷ os) E)) u) e ∙ in_all E (o ∷ os) u m

    not_at_code : (u : Name) → has_code E u ≡ false → moves P F E u ≡ false
    not_at_code u e = ap (λ c. list_any (applies P F E) (basic_rules E u c)) (exact_code (stands_at E u) done (not-false (same_code (stands_at E u) done) e))

    -- a candidate is told, or it is an owner at its end
    candidate_told : (r : Entered) (owners : List Owner) → list_any (has_code E) (or_others (map (λ o. o.name) owners) (focus_of (looks r.kind))) ≡ false →
        ((u : Name) → is_among (turns r (map (λ o. o.name) owners)) u ≡ true → is_movable E u ≡ true → is_told P F E ts u ≡ true) →
        (u : Name) → is_among (filter (may_go_on owners r E) (movable E)) u ≡ true → moves P F E u ≡ false
    candidate_told r [] e told u a =
        let (m, t) = among_passed (may_go_on [] r E) u (movable E) a in
        told_still u (told u (in_all E (focus_of (looks r.kind)) u m) (among_passed (is_movable E) u (thread_names E) m).1)
    candidate_told r (o ∷ os) e told u a =
        let (m, t) = among_passed (may_go_on (o ∷ os) r E) u (movable E) a in go m t (is_among (o.name ∷ map (λ o. o.name) os) u) refl
      where
        go : is_among (movable E) u ≡ true → is_candidate r E u ≡ true → (b : Bool) → is_among (o.name ∷ map (λ o. o.name) os) u ≡ b → moves P F E u ≡ false
        go m t true q = not_at_code u (not_any (has_code E) (o.name ∷ map (λ o. o.name) os) u e q)
        go m t false q =
            told_still u (told u (ap (λ b. is_among ((o.name ∷ map (λ o. o.name) os) ++ (if b then others (o.name ∷ map (λ o. o.name) os) E else candidates_of r (o.name ∷ map (λ o. o.name) os) E)) u) e
            ∙ among_right (o.name ∷ map (λ o. o.name) os) (filter (is_candidate r E) (others (o.name ∷ map (λ o. o.name) os) E)) u
            (among_those (is_candidate r E) u (others (o.name ∷ map (λ o. o.name) os) E) (among_those (λ t. not (is_among (o.name ∷ map (λ o. o.name) os) t)) u (movable E) m (ap not q)) t))
            (among_passed (is_movable E) u (thread_names E) m).1)

    pub premise_stuck : (r : Entered) → StuckTells (premise_of r) E ts → list_any (has_code E) (must_end r) ≡ true → all_told P F false E ts ≡ true
    premise_stuck r t e = told_all (λ u m. t.told u (owner_open r (owners_of r) u e m) (among_passed (is_movable E) u (thread_names E) m).1)

    pub premise_ended : (r : Entered) → StuckTells (premise_of r) E ts → list_any (has_code E) (must_end r) ≡ false → list_any (moves P F E) (candidates r E) ≡ false
    premise_ended r t e = none_among (moves P F E) (candidates r E) (candidate_told r r.owners e t.told)

    pub side_stuck : (t : Name) (rest : Code) → StuckTells (side_of t rest) E ts → all_told P F false E ts ≡ true
    side_stuck t rest s = told_all (λ u m. s.told u (either (list_any (has_code E) (t ∷ [])) u m) (among_passed (is_movable E) u (thread_names E) m).1)
      where
        either : (b : Bool) (u : Name) → is_among (movable E) u ≡ true → is_among ((t ∷ []) ++ (if b then others (t ∷ []) E else others (t ∷ []) E)) u ≡ true
        either true u m = in_all E (t ∷ []) u m
        either false u m = in_all E (t ∷ []) u m
