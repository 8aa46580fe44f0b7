-- A round of the search at the top of a star: who goes, and through what.
use Rattle.std.proofs.Common.{◌≡◌, ◌≢◌, ◌⊎◌, inl, inr, ℕ, zero, suc, ◌+◌, ◌<◌, ◌≤◌, Bool, true, false, cond, List, [], ◌∷◌, ◌++◌, map, filter, length, Option, Some, None, refl, sym, ap, ◌∙◌, subst, arith, nat_eq}
use Rattle.std.specs.Prelude.{◌&&◌, ◌||◌, not, if◌then◌else◌, is_none, is_some, sum_by, ◌-◌}
use Rattle.std.specs.List.{AllByRecursion, list_all, list_any}
use Rattle.std.proofs.lemmas.Bool.{eqb-true, not-true}
use Rattle.std.proofs.lemmas.List.{append_assoc, append_cancel_right}
use Rattle.std.proofs.Math.Bool.{or-true}
use Rattle.brisk_values.specs.declared.value.Pid.{Pid}
use Rattle.brisk_values.specs.Names.{Name, same_name, single}
use Rattle.brisk_values.specs.Functions.{changed}
use Rattle.brisk_values.proofs.Changes.{both_true, both_hold, exact_name, name_laws, changed-same}
use Rattle.brisk_syntax.specs.declared.program.Program.{Program}
use Rattle.brisk_syntax.specs.Classes.{every, fits_star, has_no_loose, in_centre, is_local, all_local, is_named, is_star, is_straight, talks_to}
use Rattle.brisk_syntax.specs.Counts.{statements}
use Rattle.brisk_syntax.specs.Declarations.{code_in, role_named}
use Rattle.brisk_syntax.specs.Depths.{code_depth}
use Rattle.brisk_syntax.specs.Roles.{RoleText}
use Rattle.brisk_syntax.specs.Syntax.{Statement, Assign, Send, Recv, RecvAny, If, IfElse, For, Repeat, Code, done, ◌⨾◌, ◌then◌}
use Rattle.brisk_syntax.specs.Typing.{are_distinct, is_among}
use Rattle.brisk_syntax.specs.WellTyped.{all_unbegun, is_unbegun}
use Rattle.brisk_seq.specs.Items.{Items}
use Rattle.brisk_async.specs.Machine.{State}
use Rattle.brisk_async.specs.PlainRuns.{Gather}
use Rattle.brisk_state.specs.declared.thread.Mode.{Mode}
use Rattle.brisk_state.specs.declared.thread.Mode.TheVariants.{One, Each}
use Rattle.brisk_state.specs.declared.thread.Thread.{Thread}
use Rattle.brisk_state.specs.Same.{same_code}
use Rattle.brisk_state.specs.Symbolic.{Symbolic, code_at, first_thread, initial, numbers_at, thread_named, with_code}
use Rattle.brisk_state.proofs.Threads.{code_itself}
use Rattle.brisk_derivation.specs.Steps.{Step}
use Rattle.brisk_rules.specs.Derives.{first_unfinished}
use Rattle.brisk_rules.specs.Following.{nothing_follows}
use Rattle.brisk_rules.specs.Rules as rules
use Rattle.brisk_rules.specs.Standing.{has_code, is_movable, movable, resting, thread_names}
use Rattle.brisk_rules.proofs.Readings.{is_active}
use Rattle.brisk_rules.proofs.Threads.{modes, codes, names, codes_with_code, modes_with_code, moved}
use Rattle.brisk_sound.proofs.Control.{then_assoc}
use Rattle.brisk_sound.proofs.Starts.{first_code, first_mode, role_mode}
use Rattle.brisk_sound.proofs.Strict.{IsStrict}
use Rattle.brisk_straight.proofs.Ends.{none_loose}
use Rattle.brisk_straight.proofs.Places.{stands_at}
use Rattle.brisk_straight.proofs.Starts.{all_left}
use Rattle.brisk_straight.proofs.Events.{statements_then}
use Rattle.brisk_straight.proofs.States.{depth_then, left_in}
use Rattle.brisk_search.specs.Turns.{Failures, Goes, Stays, Turn, stay, where_it_stays, first_of}
use Rattle.brisk_search.specs.Drives.{Driven, Reached, Stuck, Way, in_turn, others, side_of, top}
use Rattle.brisk_search.specs.Drives as drive
use Rattle.brisk_search.specs.Advance.{Around, acts, acts_for, actor, advance, at_code, passed_on, several, threads_at, waits_for}
use Rattle.brisk_search.specs.Passes.{after_round, after_step, driver, enough, first_pass, here, longer, round, rounds, without_owners}
use Rattle.brisk_search.specs.Tries.{for_rule, gather_rule, nine_tries, repeat_rule}
use Rattle.brisk_search.proofs.Declared.{fit_first}
use Rattle.brisk_search.proofs.Heads.{for_another}
use Rattle.brisk_search.proofs.Lost.{fit_spared}
use Rattle.brisk_search.proofs.Simple.{fit_at_first}
use Rattle.brisk_search.proofs.Sparing.{AttemptKeeps, Kept, TurnKeeps, all_keep, drivers_keep}
use Rattle.brisk_search.proofs.Uncounted.{DriveGoesOn, drivers_go_on}
use Rattle.brisk_answered.proofs.Rounds.{kept_all}
use Rattle.brisk_answered.proofs.Sides.{BelowComes, LocalTurn, local_turn, own_sides, side_comes}
use Rattle.brisk_stars.specs.Overtaking.{IsLeftOver}
use Rattle.brisk_stars.specs.Rounds.{GoesOnAtTop, IsAtTop, IsLoopAt, at_for, at_gather, IsSmall, LeavesSome, leaves_over, leaves_unsaid, SetGoes}
use Rattle.brisk_stars.specs.Runs.{IsUnserved, members_in, served_in}
use Rattle.brisk_stars.specs.Searching.{IsAlone}
use Rattle.brisk_stars.specs.Serving.{Member, Served, Word, hears, messages, serve, settled}
use Rattle.brisk_stars.specs.Sources.{IsCentre, IsStarSource, plain_start}
use Rattle.brisk_stars.specs.Stars.{PassEnds, PassesEnd, reached, unserved, left_over}
use Rattle.brisk_stars.specs.Threads.{IsStarThreads, at_in, members_by, served_at}
use Rattle.brisk_stars.specs.Tops.{one_turn}
use Rattle.brisk_stars.specs.Words.{in_turns, runs_as_centre, words, words_to}
use Rattle.brisk_stars.proofs.AtTop.{loops_go_or_leave}
use Rattle.brisk_stars.proofs.Basics.{to_code, unbegun_then}
use Rattle.brisk_stars.proofs.Beginning.{member_is, same_start}
use Rattle.brisk_stars.proofs.Keeping.{messages_then, every_then, local_messages}
use Rattle.brisk_stars.proofs.Loops.{runs_behind, unbegun_behind, every_behind}
use Rattle.brisk_stars.proofs.Premises.{asked}
use Rattle.brisk_stars.proofs.Room.{HasRoom, Takes, alone_takes, depth_there}
use Rattle.brisk_stars.proofs.Running.{local_then, local_then_runs, local_says}
use Rattle.brisk_stars.proofs.Serving.{served_alike}
use Rattle.brisk_stars.proofs.Sets.{sets_go_or_leave}
use Rattle.brisk_stars.proofs.Small.{centre_here}
use Rattle.brisk_stars.proofs.Starting.{all_fit, each_named, found}
use Rattle.brisk_stars.proofs.Threaded.{members_same}

-- what holds of each that passes a test holds of each that is kept
only_passing : (A : Name → Type 0) (f : Name → Bool) (vs : List Name) → ((v : Name) → f v ≡ true → A v) → AllByRecursion A (filter f vs)
only_passing A f [] h = tt
only_passing A f (u ∷ us) h =
    elim (f u) as (λ b. f u ≡ b → AllByRecursion A (cond b (u ∷ filter f us) (filter f us))) [
      | true ↦ λ e. (h u e, only_passing A f us h)
      | false ↦ λ e. only_passing A f us h
    ] refl

still_all : (A : Name → Type 0) (f : Name → Bool) (vs : List Name) → AllByRecursion A vs → AllByRecursion A (filter f vs)
still_all A f [] all = tt
still_all A f (u ∷ us) all = elim (f u) as (λ b. AllByRecursion A (cond b (u ∷ filter f us) (filter f us))) [ true ↦ (all.0, still_all A f us all.1) | false ↦ still_all A f us all.1 ]

of_each : (A : Name → Type 0) (vs : List Name) (n : Name) → AllByRecursion A vs → is_among vs n ≡ true → A n
of_each A [] n all e = cc
of_each A (u ∷ us) n all e =
    elim (same_name n u) as (λ b. same_name n u ≡ b → (b || is_among us n) ≡ true → A n) [
      | true ↦ λ same g. subst A (sym (exact_name n u same)) all.0
      | false ↦ λ off g. of_each A us n all.1 g
    ] refl e

-- the words of the centre's code are those of its parts
pub words_then : (sizes : Name → ℕ) (a rest : Code) → every in_centre a ≡ true → words sizes (a then rest) ≡ words sizes a ++ words sizes rest
words_then sizes done rest h = refl
words_then sizes (x ⨾ a) rest h = let k = both_true (in_centre x) (every in_centre a) h in one x k.0 (words_then sizes a rest k.1)
  where
    one : (x : Statement) → in_centre x ≡ true → words sizes (a then rest) ≡ words sizes a ++ words sizes rest → words sizes (x ⨾ (a then rest)) ≡ words sizes (x ⨾ a) ++ words sizes rest
    one (Assign y e) c m = m
    one (If e b) c m = m
    one (IfElse e b d) c m = m
    one (For v s k b) c m =
        let ws = in_turns s (sizes s - k) k (λ w. words_to w (messages b)) in ap (λ vs. ws ++ vs) m ∙ sym (append_assoc ws (words sizes a) (words sizes rest))
    one (Repeat s k (RecvAny d xs v t b ⨾ done)) c m =
        let ws = in_turns s (sizes s - k) k (λ w. hears w d ∷ words_to w (messages b)) in ap (λ vs. ws ++ vs) m ∙ sym (append_assoc ws (words sizes a) (words sizes rest))
    one y c m = cc

-- who is unfinished has code, and is there
unfinished_is : (ts : List Thread) (n : Name) → are_distinct (names ts) ≡ true → first_unfinished ts ≡ Some n → (is_among (names ts) n ≡ true) × (not (same_code (codes ts n) done) ≡ true)
unfinished_is [] n d e = cc
unfinished_is (u ∷ us) n d e =
    let k = both_true (not (is_among (names us) u.name)) (are_distinct (names us)) d in
    elim (same_code u.code done) as (λ b. same_code u.code done ≡ b → (if b then first_unfinished us else Some u.name) ≡ Some n → (is_among (names (u ∷ us)) n ≡ true) × (not (same_code (codes (u ∷ us) n) done) ≡ true)) [
      | true ↦ λ at g.
          let more = unfinished_is us n k.1 g in
          elim (same_name n u.name) as (λ b. same_name n u.name ≡ b → ((b || is_among (names us) n) ≡ true) × (not (same_code (rules.code_in (if b then Some u else thread_named us n)) done) ≡ true)) [
            | true ↦ λ same. absurd (let none = not-true (is_among (names us) u.name) k.0 in let there = ap (is_among (names us)) (sym (exact_name n u.name same)) ∙ more.0 in let both = sym there ∙ none in cc)
            | false ↦ λ off. more
          ] refl
      | false ↦ λ at g.
          let is : u.name ≡ n = cc in
          let same : same_name n u.name ≡ true = ap (λ z. same_name z u.name) (sym is) ∙ name_laws.refl u.name in
          (ap (λ b. b || is_among (names us) n) same, ap (λ b. not (same_code (rules.code_in (if b then Some u else thread_named us n)) done)) same ∙ ap not at)
    ] refl e

module _ (P : Program) (strict : IsStrict P) (sizes : Name → ℕ) (M : Name) where
  -- what is around the turns at the top
  abbrev pub around : Around
  around = record { program = P; below = Some (driver P own_sides 255); side = side_of; follows = nothing_follows }

  -- the centre is the one thread that rules move
  its_turn : (S : Symbolic) → IsAlone M S → AllByRecursion (λ (t : Name). M ≡ t) (others [] S)
  its_turn S alone = still_all (λ t. M ≡ t) (λ t. not (is_among [] t)) (movable S) (only_passing (λ t. M ≡ t) (is_movable S) (thread_names S) (λ t h. by t (code_at S t) refl h))
    where
      by : (t : Name) (o : Option Code) → code_at S t ≡ o → is_some o ≡ true → M ≡ t
      by t None at h = cc
      by t (Some c) at h =
          elim (same_name M t) as (λ b. same_name M t ≡ b → M ≡ t) [
            | true ↦ λ same. exact_name M t same
            | false ↦ λ off. absurd (alone t c off at)
          ] refl

  -- it comes first
  record First (S : Symbolic) : Type 0 where
    more : List Name
    is : others [] S ≡ M ∷ more

  comes_first : (S : Symbolic) → IsStarThreads sizes M S → IsAlone M S → First S
  comes_first S st alone = by (others [] S) refl (its_turn S alone)
    where
      by : (ts : List Name) → others [] S ≡ ts → AllByRecursion (λ (t : Name). M ≡ t) ts → First S
      by [] e all = absurd (asked [] (λ t. ⊥) S M (at_in S M) refl (centre_here sizes M S st) (subst (AllByRecursion (λ (t : Name). ⊥)) (sym e) tt))
      by (t ∷ ts) e all = record { more = ts; is = e ∙ ap (λ z. z ∷ ts) (sym all.0) }

  -- a round in which it goes
  pub round_goes : (S : Symbolic) (step : Step) (items : Items) (next : Symbolic) → IsStarThreads sizes M S → IsAlone M S → advance around S M [] None ≡ Goes step items next None → round around top S [] None ≡ Goes step items next None
  round_goes S step items next st alone goes =
      let f = comes_first S st alone in
      ap (λ ts. where_it_stays (first_of (without_owners around S) (resting S)) (first_of (advance around S) ts [] None)) f.is
      ∙ ap (λ t. where_it_stays (first_of (without_owners around S) (resting S)) (where_it_stays (first_of (advance around S) f.more) t)) goes

  -- a round where it is at its end
  idles : (S : Symbolic) (ts : List Name) → code_at S M ≡ Some done → AllByRecursion (λ (t : Name). M ≡ t) ts → first_of (advance around S) ts [] None ≡ Stays [] None
  idles S [] here all = refl
  idles S (t ∷ ts) here all =
      let none : actor around (length S.threads) S [] t ≡ None = ap (actor around (length S.threads) S []) (sym all.0) ∙ nobody (length S.threads) in
      ap (where_it_stays (first_of (advance around S) ts)) (ap (λ o. acts_for around S o [] None) none) ∙ idles S ts here all.1
    where
      nobody : (room : ℕ) → actor around room S [] M ≡ None
      nobody zero = refl
      nobody (suc room) = ap (λ o. at_code o (λ code. passed_on (actor around room S (M ∷ [])) [] M (waits_for around S M code))) here

  pub round_of_sets : (S : Symbolic) (s : Name) (more : List Name) (step : Step) (items : Items) (next : Symbolic) → IsStarThreads sizes M S → IsAlone M S → at_in S M ≡ done → resting S ≡ s ∷ more →
      nine_tries P (Some (driver P own_sides 255)) S (for_rule nothing_follows S s s []) [] None ≡ Goes step items next None → round around top S [] None ≡ Goes step items next None
  round_of_sets S s more step items next st alone at rests goes =
      ap (where_it_stays (first_of (without_owners around S) (resting S))) (idles S (others [] S) (centre_here sizes M S st ∙ ap Some at) (its_turn S alone))
      ∙ ap (λ ts. first_of (without_owners around S) ts [] None) rests
      ∙ ap (where_it_stays (first_of (without_owners around S) more)) goes

  abbrev rests : Symbolic → Name → Bool
  rests S u = not (is_movable S u) && has_code S u

  -- where not all is at its end and the centre is, a set rests with code
  pub record Rests (S : Symbolic) : Type 0 where
    pub set : Name
    pub more : List Name
    pub is : resting S ≡ set ∷ more
    pub still : is_movable S set ≡ false
    pub has : has_code S set ≡ true

  pub some_rest : (S : Symbolic) → IsStarThreads sizes M S → IsAlone M S → at_in S M ≡ done → top.goal S ≡ false → Rests S
  some_rest S st alone at goal = by (first_unfinished S.threads) refl goal
    where
      listed : (n : Name) → is_among (names S.threads) n ≡ true → rests S n ≡ true → (us : List Name) → resting S ≡ us → AllByRecursion (λ (u : Name). rests S u ≡ true) us → Rests S
      listed n there rest_is [] e all =
          absurd (of_each (λ u. rests S u ≡ true → ⊥) (thread_names S) n (kept_all (λ u. ⊥) (rests S) (thread_names S) (subst (AllByRecursion (λ (u : Name). ⊥)) (sym e) tt)) there rest_is)
      listed n there rest_is (u ∷ us) e all =
          let k = both_true (not (is_movable S u)) (has_code S u) all.0 in
          record { set = u; more = us; is = e; still = not-true (is_movable S u) k.0; has = k.1 }

      stays : (n : Name) → has_code S n ≡ true → (o : Option Code) → code_at S n ≡ o → not (is_some o) ≡ true
      stays n has None here = refl
      stays n has (Some c) here =
          elim (same_name M n) as (λ b. same_name M n ≡ b → not true ≡ true) [
            | true ↦ λ same.
                let none : has_code S n ≡ false = ap (λ c. not (same_code c done)) (ap (at_in S) (sym (exact_name M n same)) ∙ at) ∙ ap not (code_itself done) in
                absurd (let both = sym has ∙ none in cc)
            | false ↦ λ off. absurd (alone n c off here)
          ] refl

      by : (o : Option Name) → first_unfinished S.threads ≡ o → is_none o ≡ false → Rests S
      by None e g = cc
      by (Some n) e g =
          let x = unfinished_is S.threads n st.apart e in
          listed n x.0 (both_hold (not (is_movable S n)) (has_code S n) (stays n x.1 (code_at S n) refl) x.1) (resting S) refl (only_passing (λ u. rests S u ≡ true) (rests S) (thread_names S) (λ u h. h))

  -- a step through local code
  pub record LocalGoes (S : Symbolic) (k : Code) : Type 0 where
    pub step : Step
    pub items : Items
    pub next : Symbolic
    pub after : Code
    pub is : advance around S M [] None ≡ Goes step items next None
    pub local : all_local after ≡ true
    pub stands : at_in next M ≡ after then k
    pub top : IsAtTop P sizes M next
    pub keeps : (more : List Word) → serve more (members_by M (at_in S) (numbers_at S.pending)) ≡ serve more (members_by M (at_in next) (numbers_at next.pending))

  pub local_goes : (S : Symbolic) (x : Statement) (k : Code) → IsAtTop P sizes M S → is_local x ≡ true → at_in S M ≡ x ⨾ k → LocalGoes S k
  local_goes S x k at_top l at = record {
    step = y.step;
    items = y.items;
    next = y.next;
    after = y.after;
    is = y.is;
    local = y.local;
    stands = ap (λ (f : Name → Code). f M) code ∙ changed-same name_laws (at_in S) M (y.after then k);
    top = record {
      threads = keeps.0;
      alone = λ u c far here_now.
          let m = moved y.next.threads u c here_now in
          at_top.alone u (codes S.threads u) far (stands_at S.threads u (ap (λ (f : Name → Option Mode). is_active (f u)) (sym (ap modes y.moves.threads ∙ modes_with_code M (y.after then k) S.threads)) ∙ m.active));
      fit = fit_spared P S y.next at_top.fit kept.0 kept.1;
      small = record { used = takes.room.used; uses = takes.room.uses; few = takes.room.few; shallow = takes.room.shallow };
    };
    keeps = λ more.
        sym ((λ i. serve more (members_by M (code i) (numbers_at (y.moves.pending i)))) ∙ ap (serve more) (λ i p. members_same sizes M (at_in S) (numbers_at S.pending) (y.after then k) p i));
  }
    where
      here_is : code_at S M ≡ Some (x ⨾ k)
      here_is = centre_here sizes M S at_top.threads ∙ ap Some at

      room : HasRoom 64 20000 S
      room = record { apart = at_top.threads.apart; used = at_top.small.used; uses = at_top.small.uses; few = at_top.small.few; shallow = at_top.small.shallow }

      deep : code_depth (x ⨾ k) ≤ 64
      deep = depth_there 64 20000 S M (x ⨾ k) room here_is

      below : BelowComes around.below 256
      below V T t a rest apart al less at_t = (driver P own_sides 255, refl, side_comes P 255 V T t a rest apart al (omega (arith, less)) at_t)

      one : all_local (x ⨾ done) ≡ true
      one = both_hold (is_local x) true l refl

      y : LocalTurn S M (x ⨾ done) k (advance around S M [] None)
      y = local_turn around 256 refl below S M x done k at_top.threads.apart l refl (omega (arith, deep)) here_is

      keeps : IsStarThreads sizes M y.next × (served_at sizes M y.next ≡ served_at sizes M S)
      keeps =
          to_code sizes M S at_top.threads y.next M (x ⨾ k) (y.after then k) here_is y.moves.threads y.moves.pending (local_then sizes y.after k y.local ∙ sym (local_says sizes x k l)) (messages_then y.after k y.local ∙ sym (local_messages x k l))
          (λ h. local_then_runs sizes M y.after k y.local (runs_behind sizes M (x ⨾ done) k one h)) (λ h. unbegun_then y.after k y.local (unbegun_behind (x ⨾ done) k h)) (λ h. every_then (is_named M) y.after k y.local (every_behind (talks_to (is_named M)) (x ⨾ done) k h))

      takes : Takes 64 20000 S y.next
      takes =
          let e = depth_then y.after k in
          let m = statements_then y.after k in
          alone_takes 64 20000 S y.next M (x ⨾ k) (y.after then k) room here_is (let a = y.shallow in omega (arith, deep, e, a)) (let f = y.fewer in omega (arith, f, m))
          (λ test h. every_then test y.after k y.local (every_behind (talks_to test) (x ⨾ done) k h)) y.moves.threads y.moves.pending

      kept : Kept S y.next
      kept = subst (TurnKeeps P S) y.is (for_another around (AttemptKeeps P) (all_keep P (Some (driver P own_sides 255)) (drivers_keep P own_sides 255) side_of nothing_follows) S (actor around (length S.threads) S [] M) at_top.fit [] None)

      code : at_in y.next ≡ changed same_name (at_in S) M (y.after then k)
      code = ap codes y.moves.threads ∙ codes_with_code M (y.after then k) S.threads One at_top.threads.one
