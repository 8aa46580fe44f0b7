-- The turns of a gather at size two: the first member is taken first, and where it is taken again the plain run overtakes.
use Rattle.std.proofs.Common.{◌≡◌, ◌≢◌, ℕ, zero, suc, ◌+◌, ◌≤◌, Bool, true, false, List, [], ◌∷◌, ◌++◌, map, length, Option, Some, None, refl, sym, ap, ◌∙◌, subst, arith}
use Rattle.std.specs.Prelude.{◌&&◌, if◌then◌else◌, nat_lt, ◌-◌, option_and_then, option_map}
use Rattle.brisk_values.specs.declared.value.Pid.{Pid}
use Rattle.brisk_values.specs.Names.{Name, same_name, single, member}
use Rattle.brisk_values.proofs.Changes.{name_laws}
use Rattle.brisk_syntax.specs.declared.program.Program.{Program}
use Rattle.brisk_syntax.specs.declared.tree.Who.TheVariants as who
use Rattle.brisk_syntax.specs.Classes.{every, is_named, talks_to}
use Rattle.brisk_syntax.specs.Declarations.{is_loose}
use Rattle.brisk_syntax.specs.Instance.{Instance}
use Rattle.brisk_syntax.specs.Roles.{RoleText}
use Rattle.brisk_syntax.specs.Substitution.{code_with}
use Rattle.brisk_syntax.specs.Syntax.{RecvAny, Code, done, ◌⨾◌, ◌then◌}
use Rattle.brisk_async.specs.declared.event.Event.{Event}
use Rattle.brisk_async.specs.Machine.{State, Effect, Payload, taken, queue, payload_at, place_of, receives, takes as takes_from, effect, goes_to, seen_by, after, step}
use Rattle.brisk_async.specs.PlainRuns.{Gather, at_receive, at_turn, first_enabled, go_on, or_else, plain_events, plain_from, plain_instance, plain_next, plain_order, plain_place, plain_schedule}
use Rattle.brisk_instance.specs.Given.{members}
use Rattle.brisk_straight.proofs.Plain.{plain_comes}
use Rattle.brisk_stars.specs.Overtaking.{turn_words}
use Rattle.brisk_stars.specs.Runs.{members_in, nobody}
use Rattle.brisk_stars.specs.Serving.{Member, Served, Word, hears, messages, settled, serve}
use Rattle.brisk_stars.specs.Sources.{IsCentre, IsStarSource, PlainRunOvertakes, plain_start}
use Rattle.brisk_stars.specs.Words.{in_turns, words_to}
use Rattle.brisk_stars.proofs.Advances.{bodies, hears_some, same_words, takes_oldest, waiting}
use Rattle.brisk_stars.proofs.Ending.{one_spent}
use Rattle.brisk_stars.proofs.Histories as histories
use Rattle.brisk_stars.proofs.Histories.{code_there, not_at_first, since_begins, since_goes_on, taken_again}
use Rattle.brisk_stars.proofs.Orders.{found_leads}
use Rattle.brisk_stars.proofs.Running.{it_hears, no_turn, turn_first}
use Rattle.brisk_stars.proofs.SizeTwo.{two_of_some}
use Rattle.brisk_stars.proofs.Stages as stages
use Rattle.brisk_stars.proofs.Stages.{Free, enabled, moves, settles, silently}

-- a queue without messages has no oldest one
none_waits : (ms : List Payload) → length ms ≡ 0 → payload_at ms 0 ≡ None
none_waits [] e = refl
none_waits (m ∷ ms) e = cc

module _ (P : Program) (r : RoleText) (source : IsStarSource P) (centre : IsCentre P r) (V : Served) (said : V.left ≡ []) (g : Gather) (other : same_name r.name g.set ≡ false) (talks : every (talks_to (is_named g.binder)) g.body ≡ true)
    (some : nat_lt 0 ((plain_start P 2).sizes g.set) ≡ true) where
  abbrev M : Name
  M = r.name

  abbrev me : Pid
  me = single M

  abbrev i : Instance
  i = plain_instance P 2

  abbrev sizes : Name → ℕ
  sizes = (plain_start P 2).sizes

  abbrev Leads : (List Event → Type 0) → Code → List Word → Type 0
  Leads = stages.Leads P r source centre V

  abbrev Keeps : (List Event → Type 0) → Code → Type 0
  Keeps = stages.Keeps P r source centre V

  abbrev Stage : (List Event → Type 0) → Code → List Word → ℕ → List Event → State → Type 0
  Stage = stages.Stage P r source centre V

  abbrev IsSettled : State → Type 0
  IsSettled = stages.IsSettled P r source centre V

  abbrev Since : List Event → Type 0
  Since = histories.Since P i M g

  abbrev w : ℕ → Pid
  w k = member g.set k

  abbrev event : ℕ → Event
  event k = record { process = me; sender = Some (w k); place = None }

  abbrev receive : Code → Code
  receive a = RecvAny g.channel g.variables g.binder g.set g.body ⨾ a

  two : sizes g.set ≡ 2
  two = two_of_some P g.set some

  inside : (k : ℕ) → nat_lt k 2 ≡ true → nat_lt k (sizes g.set) ≡ true
  inside k h = ap (nat_lt k) two ∙ h

  freely : (L : Code) → Keeps Free L
  freely L past e q h = tt

  since : (x : Code) (k : ℕ) → Keeps Since (x then at_turn g (suc k))
  since x k past e h after = since_goes_on P i M g past e (x then at_turn g (suc k)) h after (not_at_first x g k)

  -- a turn begins
  begins : (Q : List Event → Type 0) (k : ℕ) (W : List Word) → nat_lt k 2 ≡ true → Keeps Q (at_turn g k) → Keeps Q (at_receive g k) → Leads Q (at_receive g k) W → Leads Q (at_turn g k) W
  begins Q k W h keeps later more =
      silently P r source centre V Q (at_turn g k) W keeps (λ s. refl) tt
      (λ s sized. (
        at_receive g k,
        [],
        [],
        ap (λ t. goes_to (if t then at_receive g k else g.rest)) (ap (λ (z : Name → ℕ). nat_lt k (z g.set)) sized ∙ inside k h),
        later,
        more,
      ))

  -- the events that are tried at the receive
  tried : (n : ℕ) (past : List Event) (s : State) (Q : List Event → Type 0) (L a : Code) (W : List Word) → Stage Q L W n past s → plain_events s me (receive a) ≡ event 0 ∷ event 1 ∷ []
  tried n past s Q L a W h =
      λ j. map (λ (p : Pid). record { process = me; sender = Some p; place = plain_place (h.base.star.strict g.channel j) }) (members g.set ((ap (λ (z : Name → ℕ). z g.set) h.base.sized ∙ two) j))

  -- what takes a member's message
  abbrev takes : ℕ → Code → Payload → Effect
  takes k a m = record { next = code_with g.binder (who.Pid (w k)) g.body then a; variables = g.variables; values = m; mail = taken (queue (w k) me g.channel) 0 }

  member_there : (s : State) (k : ℕ) (a : Code) → s.sizes ≡ sizes → nat_lt k 2 ≡ true →
      effect (seen_by s me) me (receive a) (Some (w k)) None ≡ receives (seen_by s me) (queue (w k) me g.channel) g.variables (code_with g.binder (who.Pid (w k)) g.body then a) None
  member_there s k a sized h =
      ap (λ b. if b then receives (seen_by s me) (queue (w k) me g.channel) g.variables (code_with g.binder (who.Pid (w k)) g.body then a) None else None)
      ((λ j. name_laws.refl g.set j && nat_lt k (sized j g.set)) ∙ inside k h)

  takes_it : (s : State) (k : ℕ) (a : Code) (m : Payload) → s.sizes ≡ sizes → nat_lt k 2 ≡ true → is_loose s.program.channels g.channel ≡ false → payload_at (s.mail (queue (w k) me g.channel)) 0 ≡ Some m →
      effect (seen_by s me) me (receive a) (Some (w k)) None ≡ Some (takes k a m)
  takes_it s k a m sized h strict waits =
      member_there s k a sized h ∙ takes_oldest P r source centre V said s (w k) g.channel g.variables (code_with g.binder (who.Pid (w k)) g.body then a) m strict waits

  takes_none : (s : State) (k : ℕ) (a : Code) → s.sizes ≡ sizes → nat_lt k 2 ≡ true → is_loose s.program.channels g.channel ≡ false → payload_at (s.mail (queue (w k) me g.channel)) 0 ≡ None →
      effect (seen_by s me) me (receive a) (Some (w k)) None ≡ None
  takes_none s k a sized h strict none =
      let next = code_with g.binder (who.Pid (w k)) g.body then a in
      member_there s k a sized h
      ∙ ap (λ l. option_and_then (λ k'. takes_from (queue (w k) me g.channel) g.variables next k' (payload_at (s.mail (queue (w k) me g.channel)) k')) (place_of l None)) strict
      ∙ ap (takes_from (queue (w k) me g.channel) g.variables next 0) none

  -- the first turn takes the first member, and from then on this is kept in mind
  first_turn : (W : List Word) → Leads Since (at_turn g 1) W → Leads Free (at_turn g 0) (turn_words g (w 0) ++ W)
  first_turn W more =
      begins Free 0 (turn_words g (w 0) ++ W) refl (freely (at_turn g 0)) (freely (at_receive g 0))
      (settles P r source centre V Free (at_receive g 0) (turn_words g (w 0) ++ W) (freely (at_receive g 0)) (λ n past s h st.
      let c = g.channel in
      let first = hears_some (w 0) c (words_to (w 0) (messages g.body) ++ W) (members_in M s) V h.served said in
      let m = waiting P r source centre V said s (w 0) c first.0 other (ap (λ (z : Member). z.up c) (sym (st.members (w 0))) ∙ first.1) in
      let x = takes 0 (at_turn g 1) m.0 in
      let acts : effect (seen_by s me) me (at_receive g 0) (Some (w 0)) None ≡ Some x = takes_it s 0 (at_turn g 1) m.0 h.base.sized refl (h.base.star.strict c) m.1 in
      moves P r source centre V Free Since (at_receive g 0) (turn_words g (w 0) ++ W) (words_to (w 0) (messages g.body) ++ W) (Some (w 0)) None n past s x h st acts refl
      (ap (first_enabled s) (tried n past s Free (at_receive g 0) (at_turn g 1) _ h) ∙ enabled s (event 0) (event 1 ∷ []) x (ap (λ L. effect (seen_by s me) me L (Some (w 0)) None) h.at ∙ acts))
      (it_hears (w 0) c m.0 other m.1 refl refl)
      (λ code. since_begins P i M g past (event 0) x.next 0 refl refl (code_there P i M past s (at_receive g 0) h.base.runs h.at) code (not_at_first (code_with g.binder (who.Pid (w 0)) g.body) g 0))
      (bodies P r source centre V said Since g.binder (w 0) g.body (at_turn g 1) W other talks (λ x. since x 0) more)))

  -- where the first member has a message again, it is taken again
  again : (W : List Word) (n : ℕ) (past : List Event) (s : State) → Stage Since (at_receive g 1) W n past s → IsSettled s → (k : ℕ) → (members_in M s (w 0)).up g.channel ≡ suc k → PlainRunOvertakes P
  again W n past s h st k more = by n h.base.room h.base.whole
    where
      m : (m : Payload) × (payload_at (s.mail (queue (w 0) me g.channel)) 0 ≡ Some m)
      m = waiting P r source centre V said s (w 0) g.channel k other more

      x : Effect
      x = takes 0 (at_turn g 2) m.0

      next : plain_next (plain_order P 2) s ≡ Some (event 0, after s me x)
      next =
          st.asked ∙ ap (λ L. first_enabled s (plain_events s me L)) h.at ∙ ap (first_enabled s) (tried n past s Since (at_receive g 1) (at_turn g 2) W h)
          ∙ enabled s (event 0) (event 1 ∷ []) x (ap (λ L. effect (seen_by s me) me L (Some (w 0)) None) h.at ∙ takes_it s 0 (at_turn g 2) m.0 h.base.sized refl (h.base.star.strict g.channel) m.1)

      by : (n : ℕ) → stages.left_to P r source centre V s ≤ n → plain_schedule P 2 ≡ past ++ plain_from n (plain_order P 2) s → PlainRunOvertakes P
      by zero room whole =
          let spent = (one_spent M (plain_order P 2) s (after s me x) (event 0) h.base.star h.base.none_else (found_leads s _ (event 0, after s me x) next)).1 in absurd (omega (arith, spent, room))
      by (suc j) room whole =
          let all = plain_comes 100000 (plain_order P 2) (plain_start P 2) in
          taken_again P i M g past (plain_from j (plain_order P 2) (after s me x)) (plain_schedule P 2) (event 0) all.end 1 h.kept (code_there P i M past s (at_receive g 1) h.base.runs h.at) refl refl
          (whole ∙ ap (λ o. past ++ go_on o (plain_from j (plain_order P 2))) next) all.runs

  -- the second turn takes the second member, or overtakes
  second_turn : (W : List Word) → Leads Free (at_turn g 2) W → Leads Since (at_turn g 1) (turn_words g (w 1) ++ W)
  second_turn W more =
      begins Since 1 (turn_words g (w 1) ++ W) refl (since done 0) (since (receive done) 1)
      (settles P r source centre V Since (at_receive g 1) (turn_words g (w 1) ++ W) (since (receive done) 1) (λ n past s h st. by n past s h st ((members_in M s (w 0)).up g.channel) refl))
    where
      by : (n : ℕ) (past : List Event) (s : State) → Stage Since (at_receive g 1) (turn_words g (w 1) ++ W) n past s → IsSettled s → (k : ℕ) → (members_in M s (w 0)).up g.channel ≡ k → PlainRunOvertakes P
      by n past s h st (suc k) up = again (turn_words g (w 1) ++ W) n past s h st k up
      by n past s h st zero up =
          let c = g.channel in
          let first = hears_some (w 1) c (words_to (w 1) (messages g.body) ++ W) (members_in M s) V h.served said in
          let m = waiting P r source centre V said s (w 1) c first.0 other (ap (λ (z : Member). z.up c) (sym (st.members (w 1))) ∙ first.1) in
          let x = takes 1 (at_turn g 2) m.0 in
          let acts : effect (seen_by s me) me (at_receive g 1) (Some (w 1)) None ≡ Some x = takes_it s 1 (at_turn g 2) m.0 h.base.sized refl (h.base.star.strict c) m.1 in
          let empty : length (s.mail (queue (w 0) me c)) ≡ 0 =
          ap (λ b. (if b then nobody else record { left = messages (s.code (w 0)); up = λ d. length (s.mail (queue (w 0) me d)); down = λ d. length (s.mail (queue me (w 0) d)) }).up c) (sym other) ∙ up in
          let not_first : step s (event 0) ≡ None =
          ap (option_map (after s me)) (ap (λ L. effect (seen_by s me) me L (Some (w 0)) None) h.at ∙ takes_none s 0 (at_turn g 2) h.base.sized refl (h.base.star.strict c) (none_waits (s.mail (queue (w 0) me c)) empty)) in
          moves P r source centre V Since Free (at_receive g 1) (turn_words g (w 1) ++ W) (words_to (w 1) (messages g.body) ++ W) (Some (w 1)) None n past s x h st acts refl
          (ap (first_enabled s) (tried n past s Since (at_receive g 1) (at_turn g 2) _ h) ∙ ap (λ o. or_else (event 0) o (first_enabled s (event 1 ∷ []))) not_first
          ∙ enabled s (event 1) [] x (ap (λ L. effect (seen_by s me) me L (Some (w 1)) None) h.at ∙ acts))
          (it_hears (w 1) c m.0 other m.1 refl refl) (λ code. tt)
          (bodies P r source centre V said Free g.binder (w 1) g.body (at_turn g 2) W other talks (λ x. freely (x then at_turn g 2)) more)

  -- then the gather is left
  ends : (W : List Word) → Leads Free g.rest W → Leads Free (at_turn g 2) W
  ends W more =
      silently P r source centre V Free (at_turn g 2) W (freely (at_turn g 2)) (λ s. refl) tt
      (λ s sized. (g.rest, [], [], ap (λ t. goes_to (if t then at_receive g 2 else g.rest)) (ap (λ (z : Name → ℕ). nat_lt 2 (z g.set)) sized ∙ ap (nat_lt 2) two), freely g.rest, more))

  -- all of a gather
  pub gathers : (W : List Word) → Leads Free g.rest W → Leads Free (at_turn g 0) (in_turns g.set (sizes g.set - 0) 0 (turn_words g) ++ W)
  gathers W more =
      same_words P r source centre V said Free (at_turn g 0) (in_turns g.set (sizes g.set - 0) 0 (turn_words g) ++ W) (turn_words g (w 0) ++ (turn_words g (w 1) ++ W))
      (turn_first sizes g.set 0 (turn_words g) W (inside 0 refl)
      ∙ ap (λ z. turn_words g (w 0) ++ z) (turn_first sizes g.set 1 (turn_words g) W (inside 1 refl) ∙ ap (λ z. turn_words g (w 1) ++ z) (no_turn sizes g.set 2 (turn_words g) W (ap (nat_lt 2) two))))
      (first_turn (turn_words g (w 1) ++ W) (second_turn W (ends W more)))

  -- a gather after whose first turn the first member has a message left
  pub leaves_over : (V.members (w 0)).up g.channel ≢ 0 → Leads Free (at_turn g 0) (turn_words g (w 0) ++ [])
  leaves_over left =
      first_turn [] (begins Since 1 [] refl (since done 0) (since (receive done) 1)
      (settles P r source centre V Since (at_receive g 1) [] (since (receive done) 1) (λ n past s h st. by n past s h st ((members_in M s (w 0)).up g.channel) refl)))
    where
      by : (n : ℕ) (past : List Event) (s : State) → Stage Since (at_receive g 1) [] n past s → IsSettled s → (k : ℕ) → (members_in M s (w 0)).up g.channel ≡ k → PlainRunOvertakes P
      by n past s h st (suc k) up = again [] n past s h st k up
      by n past s h st zero up = absurd (left (ap (λ (z : Served). (z.members (w 0)).up g.channel) (sym h.served) ∙ ap (λ (z : Member). z.up g.channel) (st.members (w 0)) ∙ up))
