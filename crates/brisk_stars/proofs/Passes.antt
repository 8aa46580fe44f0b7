-- How pass one ends on a star.
use Rattle.std.proofs.Common.{◌≡◌, ◌≢◌, ◌⊎◌, inl, inr, ℕ, zero, suc, ◌+◌, ◌<◌, ◌≤◌, Bool, true, false, cond, List, [], ◌∷◌, ◌++◌, map, filter, length, Option, Some, None, refl, sym, ap, ◌∙◌, subst, arith, nat_eq}
use Rattle.std.specs.Prelude.{◌&&◌, ◌||◌, not, if◌then◌else◌, is_none, is_some, sum_by, ◌-◌}
use Rattle.std.specs.List.{AllByRecursion, list_all, list_any}
use Rattle.std.proofs.lemmas.Bool.{eqb-true, not-true}
use Rattle.std.proofs.lemmas.List.{append_assoc, append_cancel_right}
use Rattle.std.proofs.Math.Bool.{or-true}
use Rattle.brisk_values.specs.declared.value.Pid.{Pid}
use Rattle.brisk_values.specs.Names.{Name, same_name, single}
use Rattle.brisk_values.specs.Functions.{changed}
use Rattle.brisk_values.proofs.Changes.{both_true, both_hold, exact_name, name_laws, changed-same}
use Rattle.brisk_syntax.specs.declared.program.Program.{Program}
use Rattle.brisk_syntax.specs.Classes.{every, fits_star, has_no_loose, in_centre, is_local, all_local, is_named, is_star, is_straight, talks_to}
use Rattle.brisk_syntax.specs.Counts.{statements}
use Rattle.brisk_syntax.specs.Declarations.{code_in, role_named}
use Rattle.brisk_syntax.specs.Depths.{code_depth}
use Rattle.brisk_syntax.specs.Roles.{RoleText}
use Rattle.brisk_syntax.specs.Syntax.{Statement, Assign, Send, Recv, RecvAny, If, IfElse, For, Repeat, Code, done, ◌⨾◌, ◌then◌}
use Rattle.brisk_syntax.specs.Typing.{are_distinct, is_among}
use Rattle.brisk_syntax.specs.WellTyped.{all_unbegun, is_unbegun}
use Rattle.brisk_seq.specs.Items.{Items}
use Rattle.brisk_async.specs.Machine.{State}
use Rattle.brisk_async.specs.PlainRuns.{Gather}
use Rattle.brisk_state.specs.declared.thread.Mode.{Mode}
use Rattle.brisk_state.specs.declared.thread.Mode.TheVariants.{One, Each}
use Rattle.brisk_state.specs.declared.thread.Thread.{Thread}
use Rattle.brisk_state.specs.Same.{same_code}
use Rattle.brisk_state.specs.Symbolic.{Symbolic, code_at, first_thread, initial, numbers_at, thread_named, with_code}
use Rattle.brisk_state.proofs.Threads.{code_itself}
use Rattle.brisk_derivation.specs.Steps.{Step}
use Rattle.brisk_rules.specs.Derives.{first_unfinished}
use Rattle.brisk_rules.specs.Following.{nothing_follows}
use Rattle.brisk_rules.specs.Rules as rules
use Rattle.brisk_rules.specs.Standing.{has_code, is_movable, movable, resting, thread_names}
use Rattle.brisk_rules.proofs.Readings.{is_active}
use Rattle.brisk_rules.proofs.Threads.{modes, codes, names, codes_with_code, modes_with_code, moved}
use Rattle.brisk_sound.proofs.Control.{then_assoc}
use Rattle.brisk_sound.proofs.Starts.{first_code, first_mode, role_mode}
use Rattle.brisk_sound.proofs.Strict.{IsStrict}
use Rattle.brisk_straight.proofs.Ends.{none_loose}
use Rattle.brisk_straight.proofs.Places.{stands_at}
use Rattle.brisk_straight.proofs.Starts.{all_left}
use Rattle.brisk_straight.proofs.Events.{statements_then}
use Rattle.brisk_straight.proofs.States.{all_local_then, depth_then, left_in}
use Rattle.brisk_search.specs.Turns.{Attempt, RulesLeft, Failures, Goes, Stays, Turn, stay, where_it_stays, first_of}
use Rattle.brisk_search.specs.Drives.{Driven, Reached, Stuck, Way, in_turn, others, side_of, top}
use Rattle.brisk_search.specs.Drives as drive
use Rattle.brisk_search.specs.Advance.{Around, acts, acts_for, actor, advance, at_code, passed_on, several, threads_at, waits_for}
use Rattle.brisk_search.specs.Passes.{after_round, after_step, driver, enough, first_pass, here, longer, round, rounds, without_owners}
use Rattle.brisk_search.specs.Tries.{for_rule, gather_rule, nine_tries, repeat_rule}
use Rattle.brisk_search.proofs.Declared.{fit_first}
use Rattle.brisk_search.proofs.Heads.{for_another}
use Rattle.brisk_search.proofs.Lost.{fit_spared}
use Rattle.brisk_search.proofs.Simple.{fit_at_first}
use Rattle.brisk_search.proofs.Sparing.{AttemptKeeps, Kept, TurnKeeps, all_keep, drivers_keep}
use Rattle.brisk_search.proofs.Uncounted.{DriveGoesOn, drivers_go_on}
use Rattle.brisk_answered.proofs.Rounds.{kept_all}
use Rattle.brisk_answered.proofs.Sides.{advances, BelowComes, LocalTurn, local_turn, own_sides, side_comes}
use Rattle.brisk_stars.specs.Overtaking.{IsLeftOver}
use Rattle.brisk_stars.specs.Rounds.{GoesOnAtTop, IsAtTop, IsLoopAt, at_for, at_gather, IsSmall, LeavesSome, leaves_over, leaves_unsaid, SetGoes}
use Rattle.brisk_stars.specs.Runs.{IsUnserved, members_in, served_in}
use Rattle.brisk_stars.specs.Searching.{IsAlone}
use Rattle.brisk_stars.specs.Serving.{Member, Served, Word, hears, messages, serve, settled}
use Rattle.brisk_stars.specs.Sources.{IsCentre, IsStarSource, plain_start}
use Rattle.brisk_stars.specs.Stars.{PassEnds, PassesEnd, reached, unserved, left_over}
use Rattle.brisk_stars.specs.Threads.{IsStarThreads, at_in, members_by, served_at}
use Rattle.brisk_stars.specs.Tops.{one_turn}
use Rattle.brisk_stars.specs.Words.{in_turns, runs_as_centre, words, words_to}
use Rattle.brisk_stars.proofs.AtTop.{loops_go_or_leave}
use Rattle.brisk_stars.proofs.Basics.{to_code, unbegun_then}
use Rattle.brisk_stars.proofs.Beginning.{code_is, member_is, same_start}
use Rattle.brisk_stars.proofs.Fronts.{every_front}
use Rattle.brisk_stars.proofs.Keeping.{messages_then, every_then, local_messages}
use Rattle.brisk_stars.proofs.Loops.{runs_behind, unbegun_behind, every_behind}
use Rattle.brisk_stars.proofs.Premises.{asked}
use Rattle.brisk_stars.proofs.Room.{HasRoom, Takes, alone_takes, depth_there}
use Rattle.brisk_stars.proofs.Running.{local_then, local_then_runs, local_says}
use Rattle.brisk_stars.proofs.Serving.{served_alike}
use Rattle.brisk_stars.proofs.Sets.{sets_go_or_leave}
use Rattle.brisk_stars.proofs.Small.{centre_here}
use Rattle.brisk_stars.proofs.Starting.{all_fit, each_named, found}
use Rattle.brisk_stars.proofs.Threaded.{members_same}
use Rattle.brisk_stars.proofs.Rounding.{LocalGoes, Rests, around, local_goes, round_goes, round_of_sets, some_rest, words_then}

unbegun_turn : (k : ℕ) (b : Bool) → nat_eq k 0 && b ≡ true → k ≡ 0
unbegun_turn k b h = eqb-true k 0 (both_true (nat_eq k 0) b h).0

module _ (P : Program) (strict : IsStrict P) (r : RoleText) (source : IsStarSource P) (centre : IsCentre P r) where
  abbrev M : Name
  M = r.name

  abbrev s : State
  s = plain_start P 1

  abbrev sizes : Name → ℕ
  sizes = s.sizes

  abbrev ring : Around
  ring = around P strict sizes M

  abbrev first_members : Pid → Member
  first_members = members_in M s

  abbrev members_at : Symbolic → Pid → Member
  members_at S = members_by M (at_in S) (numbers_at S.pending)

  -- what is left at the start of the plain run
  abbrev Left : Type 0
  Left = IsUnserved (served_in M s) ⊎ IsLeftOver P r

  -- how a drive ends
  data Comes (o : Driven) : Type 0 where
    runs_out : o ≡ drive.Spent → Comes o
    ends : (w : Way) → o ≡ Reached w None → Comes o
    leaves : Left → Comes o

  after_turn : (go : Symbolic → RulesLeft → Driven) (S : Symbolic) (step : Step) (items : Items) (next : Symbolic) (turn : Turn) → turn ≡ Goes step items next None → Comes (go next None) → Comes (after_round go S turn)
  after_turn go S step items next turn is (runs_out e) = runs_out (ap (after_round go S) is ∙ ap (after_step step items) e)
  after_turn go S step items next turn is (ends w e) = ends (longer step items w) (ap (after_round go S) is ∙ ap (after_step step items) e)
  after_turn go S step items next turn is (leaves b) = leaves b

  abbrev go : ℕ → Symbolic → RulesLeft → Driven
  go m S left = rounds ring top m S left

  goal_or_turn : (m : ℕ) (S : Symbolic) → (top.goal S ≡ false → Comes (after_round (go m) S (round ring top S [] None))) → Comes (rounds ring top (suc m) S None)
  goal_or_turn m S h = by (top.goal S) h
    where
      by : (b : Bool) → (b ≡ false → Comes (after_round (go m) S (round ring top S [] None))) → Comes (if b then Reached (here S) None else after_round (go m) S (round ring top S [] None))
      by true h = ends (here S) refl
      by false h = h refl

  -- a round where the centre is at its end
  set_turn : (m : ℕ) (S : Symbolic) → IsAtTop P sizes M S → at_in S M ≡ done → served_at sizes M S ≡ served_in M s → top.goal S ≡ false →
      ((next : Symbolic) → IsAtTop P sizes M next → at_in next M ≡ done → served_at sizes M next ≡ served_in M s → Comes (rounds ring top m next None)) → Comes (after_round (go m) S (round ring top S [] None))
  set_turn m S t at served unmet later =
      let x = some_rest P strict sizes M S t.threads t.alone at unmet in
      elim (sets_go_or_leave P strict nothing_follows sizes M x.set S [] t at x.still x.has) [
        | inl g ↦ after_turn (go m) S g.step g.items g.next (round ring top S [] None) (round_of_sets P strict sizes M S x.set x.more g.step g.items g.next t.threads t.alone at x.is g.is) (later g.next g.top g.ended (g.served ∙ served))
        | inr u ↦ leaves (inl (subst IsUnserved served u))
      ]

  sets_come : (m : ℕ) (S : Symbolic) → IsAtTop P sizes M S → at_in S M ≡ done → served_at sizes M S ≡ served_in M s → Comes (rounds ring top m S None)
  sets_come zero S t at served = runs_out refl
  sets_come (suc m) S t at served = goal_or_turn m S (λ unmet. set_turn m S t at served unmet (λ n a b c. sets_come m n a b c))

  -- Where the centre stands on its way: some of its code is behind it, it is at local code, and the rest is ahead. Whatever is said after
  -- the words behind it comes to what it comes to from here.
  record Stands (S : Symbolic) : Type 0 where
    before : Code
    local : Code
    ahead : Code
    parts : r.code ≡ before then ahead
    at : at_in S M ≡ local then ahead
    is_all_local : all_local local ≡ true
    said : (more : List Word) → serve (words sizes before ++ more) first_members ≡ serve more (members_at S)

  all_centre : every in_centre r.code ≡ true
  all_centre =
      let f = found P r 1 (omega arith) source centre in
      ap (λ b. every (if b then talks_to (is_named M) else in_centre) r.code) (sym f.1) ∙ (each_named (fits_star M) P.roles M r (all_fit P r 1 (omega arith) source centre) f.0).0

  start_code : s.code (single M) ≡ r.code
  start_code = sym (code_is P r source centre M) ∙ first_code P M ∙ ap code_in (found P r 1 (omega arith) source centre).0

  served_is : (S : Symbolic) → Stands S → served_at sizes M S ≡ served_in M s
  served_is S st =
      ap (λ k. serve (words sizes k) (members_at S)) st.at
      ∙ ap (λ ws. serve ws (members_at S)) (local_then sizes st.local st.ahead st.is_all_local)
      ∙ sym (st.said (words sizes st.ahead))
      ∙ ap (λ ws. serve ws first_members) (sym (words_then sizes st.before st.ahead (every_front in_centre st.before st.ahead (ap (every in_centre) (sym st.parts) ∙ all_centre))) ∙ ap (words sizes) (sym st.parts ∙ sym start_code))

  -- a message that is left over
  over : (S : Symbolic) (st : Stands S) → st.local ≡ done → LeavesSome sizes M S → Left
  over S st none (leaves_unsaid h) = inl (inl (λ e. h (ap (λ (t : Served). t.left) (served_is S st) ∙ e)))
  over S st none (leaves_over a turn at is said more) = inr record {
    before = st.before;
    gather = record { channel = a.channel; variables = a.variables; binder = a.binder; set = a.set; body = a.body; rest = a.rest };
    parts = st.parts ∙ ap (λ k. st.before then k) (sym (st.at ∙ ap (λ l. l then st.ahead) none) ∙ at);
    served = turn;
    is = st.said (one_turn a) ∙ is;
    said = said;
    more = more;
  }

  -- one statement is behind the centre
  behind : (S next : Symbolic) (x : Statement) (k : Code) (st : Stands S) (l : Code) (ws : List Word) → st.ahead ≡ x ⨾ k → at_in next M ≡ l then k → all_local l ≡ true → words sizes (x ⨾ k) ≡ ws ++ words sizes k →
      ((more : List Word) → serve (ws ++ more) (members_at S) ≡ serve more (members_at next)) → Stands next
  behind S next x k st l ws ahead at is_local_l says keeps = record {
    before = st.before then (x ⨾ done);
    local = l;
    ahead = k;
    parts = parts;
    at = at;
    is_all_local = is_local_l;
    said = λ more.
        ap (λ vs. serve (vs ++ more) first_members) (words_then sizes st.before (x ⨾ done) (every_front in_centre st.before (x ⨾ k) fits) ∙ ap (λ vs. words sizes st.before ++ vs) one)
        ∙ ap (λ vs. serve vs first_members) (append_assoc (words sizes st.before) ws more)
        ∙ st.said (ws ++ more)
        ∙ keeps more;
  }
    where
      fits : every in_centre (st.before then (x ⨾ k)) ≡ true
      fits = ap (every in_centre) (ap (λ z. st.before then z) (sym ahead) ∙ sym st.parts) ∙ all_centre

      parts : r.code ≡ (st.before then (x ⨾ done)) then k
      parts = st.parts ∙ ap (λ z. st.before then z) ahead ∙ sym (then_assoc st.before (x ⨾ done) k)

      head_fits : every in_centre (x ⨾ done) ≡ true
      head_fits = every_front in_centre (x ⨾ done) k (every_behind in_centre st.before (x ⨾ k) fits)

      one : words sizes (x ⨾ done) ≡ ws
      one = append_cancel_right (words sizes (x ⨾ done)) ws (words sizes k) (sym (words_then sizes (x ⨾ done) k head_fits) ∙ says)

  -- a round
  module _ (m : ℕ) (S : Symbolic) (t : IsAtTop P sizes M S) (st : Stands S) (unmet : top.goal S ≡ false) (later : (next : Symbolic) → IsAtTop P sizes M next → Stands next → Comes (rounds ring top m next None)) where
    abbrev Then : Type 0
    Then = Comes (after_round (go m) S (round ring top S [] None))

    goes_to : (step : Step) (items : Items) (next : Symbolic) → advance ring S M [] None ≡ Goes step items next None → IsAtTop P sizes M next → Stands next → Then
    goes_to step items next goes t' st' =
        after_turn (go m) S step items next (round ring top S [] None) (round_goes P strict sizes M S step items next t.threads t.alone goes) (later next t' st')

    in_local : (x : Statement) (a : Code) → st.local ≡ x ⨾ a → Then
    in_local x a e =
        let k = both_true (is_local x) (all_local a) (ap all_local (sym e) ∙ st.is_all_local) in
        let g = local_goes P strict sizes M S x (a then st.ahead) t k.0 (st.at ∙ ap (λ l. l then st.ahead) e) in
        goes_to g.step g.items g.next g.is g.top record {
          before = st.before;
          local = g.after then a;
          ahead = st.ahead;
          parts = st.parts;
          at = g.stands ∙ sym (then_assoc g.after a st.ahead);
          is_all_local = all_local_then g.after a g.local k.1;
          said = λ more. st.said more ∙ g.keeps more;
        }

    module _ (e : st.local ≡ done) where
      at_head : at_in S M ≡ st.ahead
      at_head = st.at ∙ ap (λ l. l then st.ahead) e

      at_end : st.ahead ≡ done → Then
      at_end is = set_turn m S t (at_head ∙ is) (served_is S st) unmet (λ n a b c. sets_come m n a b c)

      module _ (x : Statement) (k : Code) (is : st.ahead ≡ x ⨾ k) where
        fits : in_centre x ≡ true
        fits = (both_true (in_centre x) (every in_centre k) (every_behind in_centre st.before (x ⨾ k) (ap (every in_centre) (ap (λ z. st.before then z) (sym is) ∙ sym st.parts) ∙ all_centre))).0

        here_is : code_at S M ≡ Some (x ⨾ k)
        here_is = centre_here sizes M S t.threads ∙ ap Some (at_head ∙ is)

        unbegun_head : is_unbegun x ≡ true
        unbegun_head = (both_true (is_unbegun x) (all_unbegun k) (ap all_unbegun (sym (at_head ∙ is)) ∙ t.threads.unbegun)).0

        local_one : is_local x ≡ true → Then
        local_one l =
            let g = local_goes P strict sizes M S x k t l (at_head ∙ is) in
            goes_to g.step g.items g.next g.is g.top (behind S g.next x k st g.after [] is g.stands g.local (local_says sizes x k l) g.keeps)

        loop_one : (another : Attempt) (one : Turn) → advance ring S M [] None ≡ where_it_stays another one → GoesOnAtTop P sizes M S k one ⊎ LeavesSome sizes M S → Then
        loop_one another one acts_so (inr left) = leaves (over S st e left)
        loop_one another one acts_so (inl g) =
            goes_to g.step g.items g.next (acts_so ∙ ap (where_it_stays another) g.is) g.top
            (behind S g.next x k st done g.said is g.stands refl (ap (words sizes) (sym (at_head ∙ is)) ∙ g.says) g.keeps)

      one_head : (x : Statement) (k : Code) → st.ahead ≡ x ⨾ k → in_centre x ≡ true → Then
      one_head (Assign y z) k is c = local_one (Assign y z) k is refl
      one_head (If y b) k is c = local_one (If y b) k is c
      one_head (IfElse y b d) k is c = local_one (IfElse y b d) k is c
      one_head (For v u j b) k is c =
          let zero_is : j ≡ 0 = unbegun_turn j (all_unbegun b) (unbegun_head (For v u j b) k is) in
          loop_one (For v u j b) k is (several (λ ts. nine_tries P (Some (driver P own_sides 255)) S (for_rule nothing_follows S M u ts)) (threads_at S u))
          (nine_tries P (Some (driver P own_sides 255)) S (for_rule nothing_follows S M u (M ∷ [])) [] None)
          (advances ring S M (For v u j b) k [] (here_is (For v u j b) k is) refl)
          (loops_go_or_leave P strict nothing_follows sizes M S k (for_rule nothing_follows S M u (M ∷ [])) [] t (at_for v u b (at_head ∙ is ∙ ap (λ n. For v u n b ⨾ k) zero_is)))
      one_head (Repeat u j (RecvAny d xs v w b ⨾ done)) k is c =
          let zero_is : j ≡ 0 = unbegun_turn j (all_unbegun (RecvAny d xs v w b ⨾ done)) (unbegun_head (Repeat u j (RecvAny d xs v w b ⨾ done)) k is) in
          let same : w ≡ u = sym (exact_name u w (both_true (same_name u w) (every (talks_to (is_named v)) b) c).0) in
          loop_one (Repeat u j (RecvAny d xs v w b ⨾ done)) k is (nine_tries P (Some (driver P own_sides 255)) S (repeat_rule nothing_follows S M))
          (nine_tries P (Some (driver P own_sides 255)) S (gather_rule nothing_follows S M) [] None)
          (advances ring S M (Repeat u j (RecvAny d xs v w b ⨾ done)) k [] (here_is (Repeat u j (RecvAny d xs v w b ⨾ done)) k is) refl)
          (loops_go_or_leave P strict nothing_follows sizes M S k (gather_rule nothing_follows S M) [] t (at_gather d xs v u b (at_head ∙ is ∙ (λ i. Repeat u (zero_is i) (RecvAny d xs v (same i) b ⨾ done) ⨾ k))))
      one_head x k is c = cc

      by_ahead : (c : Code) → st.ahead ≡ c → Then
      by_ahead done is = at_end is
      by_ahead (x ⨾ k) is = one_head x k is (fits x k is)

    a_turn : (l : Code) → st.local ≡ l → Then
    a_turn (x ⨾ a) e = in_local x a e
    a_turn done e = by_ahead e st.ahead refl

  all_come : (m : ℕ) (S : Symbolic) → IsAtTop P sizes M S → Stands S → Comes (rounds ring top m S None)
  all_come zero S t st = runs_out refl
  all_come (suc m) S t st = goal_or_turn m S (λ unmet. a_turn m S t st unmet (λ n a b. all_come m n a b) st.local refl)

  -- the start
  all_shallow : (roles : List RoleText) → AllByRecursion (λ (q : RoleText). code_depth q.code ≤ 64) roles → AllByRecursion (λ (u : Thread). code_depth u.code ≤ 64) (map first_thread roles)
  all_shallow [] all = tt
  all_shallow (q ∷ qs) all = (all.0, all_shallow qs all.1)

  alone_first : IsAlone M (initial P)
  alone_first u c far at =
      by (role_named P.roles u) (ap is_active (sym (first_mode P u)) ∙ (moved (initial P).threads u c at).active) (λ one. (same_start P r source centre).0.several u far (first_mode P u ∙ one))
    where
      by : (o : Option RoleText) → is_active (role_mode o) ≡ true → (role_mode o ≡ Some One → ⊥) → ⊥
      by None a several = cc
      by (Some q) a several = elim q.many as (λ b. is_active (Some (if b then Each else One)) ≡ true → (Some (if b then Each else One) ≡ Some One → ⊥) → ⊥) [ true ↦ λ f g. cc | false ↦ λ f g. g refl ] a several

  top_first : IsAtTop P sizes M (initial P)
  top_first = record {
    threads = (same_start P r source centre).0;
    alone = alone_first;
    fit = fit_first P source.typed;
    small = record {
      used = [];
      uses = λ m u. u;
      few = (let h = source.statements in let a = all_left P.roles in omega (arith, h, a));
      shallow = all_shallow P.roles source.nesting;
    };
  }

  stands_first : Stands (initial P)
  stands_first = record {
    before = done;
    local = done;
    ahead = r.code;
    parts = refl;
    at = first_code P M ∙ ap code_in (found P r 1 (omega arith) source centre).0;
    is_all_local = refl;
    said = λ more. sym (served_alike more (members_at (initial P)) first_members (λ p. ap settled (member_is P r source centre p)));
  }

  pass_ends : PassEnds P r
  pass_ends = by (first_pass P None) refl (drivers_go_on P (λ around t rest. side_of t rest) 256 0 refl nothing_follows top (initial P) (fit_at_first P source.typed simple)) comes
    where
      simple : (is_straight P || is_star P) ≡ true
      simple = ap (λ b. is_straight P || b) source.star ∙ or-true (is_straight P)

      comes : Comes (first_pass P None)
      comes = all_come (enough None (initial P)) (initial P) top_first stands_first

      by : (o : Driven) → first_pass P None ≡ o → DriveGoesOn P top o → Comes o → PassEnds P r
      by (Reached w left) e g c = reached w (e ∙ ap (Reached w) g.0)
      by (Stuck w tries left) e g (runs_out f) = cc
      by (Stuck w tries left) e g (ends v f) = cc
      by (Stuck w tries left) e g (leaves (inl u)) = unserved w tries (e ∙ ap (Stuck w tries) g) u
      by (Stuck w tries left) e g (leaves (inr o)) = left_over w tries (e ∙ ap (Stuck w tries) g) o
      by drive.Spent e g c = absurd g

pub passes_end : PassesEnd
passes_end P r source centre = pass_ends P (none_loose P.channels (both_true (has_no_loose P) _ source.star).0) r source centre
