-- How the drive of a premise of the centre ends.
use Rattle.std.proofs.Common.{◌≡◌, ◌≢◌, ◌⊎◌, inl, inr, ℕ, zero, suc, ◌+◌, ◌<◌, ◌≤◌, Bool, true, false, cond, List, [], ◌∷◌, ◌++◌, map, filter, length, Option, Some, None, refl, sym, ap, ◌∙◌, subst, arith}
use Rattle.std.specs.Prelude.{◌&&◌, ◌||◌, not, if◌then◌else◌, is_none, is_some, Result, Ok, Err}
use Rattle.std.specs.List.{AllByRecursion, list_any}
use Rattle.brisk_values.specs.Names.{Name, same_name, same_process, single}
use Rattle.brisk_values.specs.Functions.{changed}
use Rattle.brisk_quiet.specs.Quiet.{Counts, one_less}
use Rattle.brisk_values.proofs.Changes.{both_true, exact_name, name_laws, apart_symm, changed-same}
use Rattle.brisk_syntax.specs.declared.program.Program.{Program}
use Rattle.brisk_syntax.specs.declared.tree.Who.{Who}
use Rattle.brisk_syntax.specs.declared.tree.Who.TheVariants as who
use Rattle.brisk_syntax.specs.Classes.{every, is_named, talks_to}
use Rattle.brisk_syntax.specs.Syntax.{Statement, Recv, Code, done, ◌⨾◌}
use Rattle.brisk_syntax.specs.Typing.{is_among}
use Rattle.brisk_state.specs.declared.thread.Mode.{Mode}
use Rattle.brisk_state.specs.declared.thread.Mode.TheVariants.{One, At}
use Rattle.brisk_state.specs.declared.thread.Thread.{Thread}
use Rattle.brisk_state.specs.Same.{same_code}
use Rattle.brisk_state.specs.Symbolic.{Symbolic, key, code_at, active_code, is_active, numbers_at, thread_named, with_mode}
use Rattle.brisk_basic.specs.Basic.{Applied, apply}
use Rattle.brisk_basic.specs.declared.rule.Basic.TheVariants as rule
use Rattle.brisk_derivation.specs.Reports.{Tries, no_tries}
use Rattle.brisk_rules.specs.Following.{Follow}
use Rattle.brisk_basic.specs.Outcomes.{told_as}
use Rattle.brisk_basic.specs.declared.rule.RuleFault.{RuleFault}
use Rattle.brisk_rules.specs.declared.why.Why.{Why}
use Rattle.brisk_rules.specs.declared.why.Why.TheVariants as whys
use Rattle.brisk_rules.specs.Derives.{apply_quietly}
use Rattle.brisk_sound.proofs.Strict.{IsStrict, strict_applies}
use Rattle.brisk_rules.specs.Rules as rules
use Rattle.brisk_rules.specs.Rules.{Entered, Owner}
use Rattle.brisk_sound.proofs.Closing.{same_codes}
use Rattle.brisk_rules.proofs.Threads.{modes, codes, codes_with_code, codes_with_mode, modes_with_code, modes_with_mode, moved}
use Rattle.brisk_rules.specs.Standing.{has_code, fault_aside, owners_of, focus_of, is_movable, movable, thread_names}
use Rattle.brisk_search.specs.Turns.{stay, where_it_stays}
use Rattle.brisk_search.specs.Drives.{Drive, Way, Driven, Reached, Stuck, in_turn, must_end, others, or_others, premise_of}
use Rattle.brisk_search.specs.Advance.{actor, waits_for}
use Rattle.brisk_search.specs.Passes.{enough, after_round, after_step, here, last_tries, longer, round, rounds}
use Rattle.brisk_answered.proofs.Fuel.{enough_is}
use Rattle.brisk_straight.proofs.Places.{stands_at}
use Rattle.brisk_straight.proofs.States.{left_in}
use Rattle.brisk_answered.proofs.Rounds.{kept_all, nobody_acts, one_named}
use Rattle.brisk_stars.specs.Serving.{Member, Served, hears, heard, takes, if_none, settled, settled_from, messages, serve}
use Rattle.brisk_rules.proofs.Readings.{is_active as reads_active}
use Rattle.brisk_stars.specs.Runs.{nobody}
use Rattle.brisk_stars.specs.Threads.{at_in, member_by, members_by, served_at, IsCentresLoop, IsStarThreads}
use Rattle.brisk_stars.specs.Searching.{IsAlone, IsRoomy, PremiseEnds, PremisesEnd}
use Rattle.brisk_stars.proofs.Loops.{other_mode, premises_say_a_turn}
use Rattle.brisk_stars.specs.Words.{is_focus, words}
use Rattle.brisk_stars.proofs.Goals.{goal_is}
use Rattle.brisk_stars.proofs.Outside.{Still, still_then}
use Rattle.brisk_stars.proofs.Room.{HasRoom}
use Rattle.brisk_stars.proofs.Turns.{InPremise, Steps, around, first_steps, take_applies, unless_err, to_focus, to_centre}

-- who is asked of the threads but these
pub asked : (these : List Name) (Q : Name → Type 0) (S : Symbolic) (t : Name) (c : Code) → is_among these t ≡ false → code_at S t ≡ Some c → AllByRecursion Q (others these S) → Q t
asked these Q S t c free here all =
    one_named (λ v. is_movable S v ≡ true → not (is_among these v) ≡ true → Q v) S.threads t c here
    (kept_all (λ v. not (is_among these v) ≡ true → Q v) (is_movable S) (thread_names S) (kept_all Q (λ v. not (is_among these v)) (movable S) all)) (ap is_some here) (ap not free)

-- what is refused was refused as a basic rule
refused : (o : Result Applied RuleFault) (why : Why) → told_as whys.Rule o ≡ Err why → (fault : RuleFault) × (o ≡ Err fault)
refused (Ok r) why e = cc
refused (Err fault) why e = (fault, refl)

module _ (P : Program) (sizes : Name → ℕ) (M s : Name) (n depth most : ℕ) (deep : depth ≤ suc n) (few : most < 1000000) (strict : IsStrict P) (F : Follow) where
  abbrev Premise : Symbolic → Type 0
  Premise = InPremise P sizes M s n depth most deep few strict F

  -- the centre waits for the member
  record CentreWaits (S : Symbolic) : Type 0 where
    channel : Name
    xs : List Name
    rest : Code
    at : at_in S M ≡ Recv channel xs (who.At s) ⨾ rest
    none : numbers_at S.pending (key s M channel) ≡ []

  centre_waits : (S : Symbolic) (x : Statement) (k : Code) → Premise S → code_at S M ≡ Some (x ⨾ k) → actor (around P sizes M s n depth most deep few strict F) (length S.threads) S [] M ≡ None → CentreWaits S
  centre_waits S x k p here none =
      let w = nobody_acts (around P sizes M s n depth most deep few strict F) S M x k here none in
      let at = (moved S.threads M (x ⨾ k) here).stands in
      let talks = (both_true (talks_to (is_focus s) x) (every (talks_to (is_focus s)) k) (ap (every (talks_to (is_focus s))) (sym at) ∙ p.body)).0 in
      at_head x here at talks w.1
    where
      at_receive : (C : Name) (xs : List Name) (u : Who) → code_at S M ≡ Some (Recv C xs u ⨾ k) → at_in S M ≡ Recv C xs u ⨾ k → is_focus s u ≡ true → {v : Name} → waits_for (around P sizes M s n depth most deep few strict F) S M (Recv C xs u ⨾ k) ≡ Some v → CentreWaits S
      at_receive C xs (who.At r) here at t {v = v} w =
          let q = unless_err r v (apply_quietly P F S (rule.Take r M C)) w in
          let f = refused (apply S (rule.Take r M C)) q.0 (sym (strict_applies P strict F S (rule.Take r M C)) ∙ q.1) in
          let is = exact_name s r t in
          record {
            channel = C;
            xs = xs;
            rest = k;
            at = at ∙ ap (λ z. Recv C xs (who.At z) ⨾ k) (sym is);
            none = ap (λ z. numbers_at S.pending (key z M C)) is ∙ take_applies S M C r xs (who.At r) k f.0 (to_focus P sizes M s n depth most deep few strict F S p (who.At r) t) here f.1;
          }
      at_receive C xs (who.Name m) here at t w = cc
      at_receive C xs (who.Pid q) here at t w = cc

      at_head : (x : Statement) → code_at S M ≡ Some (x ⨾ k) → at_in S M ≡ x ⨾ k → talks_to (is_focus s) x ≡ true → {v : Name} → waits_for (around P sizes M s n depth most deep few strict F) S M (x ⨾ k) ≡ Some v → CentreWaits S
      at_head (Recv C xs u) here at t w = at_receive C xs u here at t w
      at_head x here at t w = cc

  -- the member has no code, or waits for the centre
  pub record MemberWaits (S : Symbolic) : Type 0 where
    pub channel : Name
    pub rest : Code
    pub at : messages (at_in S s) ≡ takes channel ∷ messages rest
    pub none : numbers_at S.pending (key M s channel) ≡ []

  pub member_waits : (S : Symbolic) (x : Statement) (k : Code) → Premise S → code_at S s ≡ Some (x ⨾ k) → actor (around P sizes M s n depth most deep few strict F) (length S.threads) S [] s ≡ None → MemberWaits S
  member_waits S x k p here none =
      let w = nobody_acts (around P sizes M s n depth most deep few strict F) S s x k here none in
      let at = (moved S.threads s (x ⨾ k) here).stands in
      let talks = (both_true (talks_to (is_named M) x) (every (talks_to (is_named M)) k) (ap (every (talks_to (is_named M))) (sym at) ∙ p.star.talk s p.other)).0 in
      at_head x here at talks w.1
    where
      at_receive : (C : Name) (xs : List Name) (u : Who) → code_at S s ≡ Some (Recv C xs u ⨾ k) → at_in S s ≡ Recv C xs u ⨾ k → is_named M u ≡ true → {v : Name} → waits_for (around P sizes M s n depth most deep few strict F) S s (Recv C xs u ⨾ k) ≡ Some v → MemberWaits S
      at_receive C xs (who.Name m) here at t {v = v} w =
          let q = unless_err m v (apply_quietly P F S (rule.Take m s C)) w in
          let f = refused (apply S (rule.Take m s C)) q.0 (sym (strict_applies P strict F S (rule.Take m s C)) ∙ q.1) in
          let is = exact_name M m t in
          record {
            channel = C;
            rest = k;
            at = ap messages at;
            none = ap (λ z. numbers_at S.pending (key z s C)) is ∙ take_applies S s C m xs (who.Name m) k f.0 (to_centre P sizes M s n depth most deep few strict F S p (who.Name m) t) here f.1;
          }
      at_receive C xs (who.At r) here at t w = cc
      at_receive C xs (who.Pid q) here at t w = cc

      at_head : (x : Statement) → code_at S s ≡ Some (x ⨾ k) → at_in S s ≡ x ⨾ k → talks_to (is_named M) x ≡ true → {v : Name} → waits_for (around P sizes M s n depth most deep few strict F) S s (x ⨾ k) ≡ Some v → MemberWaits S
      at_head (Recv C xs u) here at t w = at_receive C xs u here at t w
      at_head x here at t w = cc

  -- a member that has no code or waits is settled
  settled_done : (S : Symbolic) (c : Name) → at_in S s ≡ done → (settled (member_by M (at_in S) (numbers_at S.pending) s)).up c ≡ length (numbers_at S.pending (key s M c))
  settled_done S c e = ap (λ k. (settled record { left = messages k; up = λ d. length (numbers_at S.pending (key s M d)); down = λ d. length (numbers_at S.pending (key M s d)) }).up c) e

  settled_waits : (S : Symbolic) (c : Name) → MemberWaits S → (settled (member_by M (at_in S) (numbers_at S.pending) s)).up c ≡ length (numbers_at S.pending (key s M c))
  settled_waits S c w =
      let up : Counts = λ d. length (numbers_at S.pending (key s M d)) in
      let down : Counts = λ d. length (numbers_at S.pending (key M s d)) in
      ap (λ ms. (settled record { left = ms; up = up; down = down }).up c) w.at
      ∙ ap (λ ns. (if_none (length ns) record { left = takes w.channel ∷ messages w.rest; up = up; down = down } (settled_from (messages w.rest) up (one_less down w.channel))).up c) w.none

  -- so where both wait a word is left
  word_left : (S : Symbolic) → Premise S → (w : CentreWaits S) → (settled (member_by M (at_in S) (numbers_at S.pending) s)).up w.channel ≡ length (numbers_at S.pending (key s M w.channel)) → (served_at sizes M S).left ≢ []
  word_left S p w settled_is e =
      let members = members_by M (at_in S) (numbers_at S.pending) in
      let at : members (single s) ≡ member_by M (at_in S) (numbers_at S.pending) s = ap (λ b. if b then nobody else member_by M (at_in S) (numbers_at S.pending) s) p.other in
      let none : (settled (members (single s))).up w.channel ≡ 0 = ap (λ (z : Member). (settled z).up w.channel) at ∙ settled_is ∙ ap length w.none in
      let is = ap (λ k. (serve (words sizes k) members).left) w.at
      ∙ ap (λ m. (if_none m record { left = hears (single s) w.channel ∷ words sizes w.rest; members = λ k. settled (members k) }
      (serve (words sizes w.rest) (changed same_process members (single s) (heard w.channel (settled (members (single s))))))).left) none in
      (let both = sym is ∙ e in cc)

  -- a state of the premise at which the drive ends
  pub data IsEnd (S : Symbolic) : Type 0 where
    said : at_in S M ≡ done → IsEnd S
    unsaid : (served_at sizes M S).left ≢ [] → IsEnd S

  stuck_end : (S : Symbolic) (line : List Name) → Premise S → AllByRecursion (λ (t : Name). actor (around P sizes M s n depth most deep few strict F) (length S.threads) S [] t ≡ None) ((M ∷ []) ++ (if list_any (has_code S) (M ∷ []) then others (M ∷ []) S else line)) → IsEnd S
  stuck_end S line p all = by (at_in S M) refl
    where
      active : active_code (thread_named S.threads M) ≡ Some (codes S.threads M)
      active = stands_at S.threads M (ap reads_active p.star.one)

      focused : active_code (thread_named S.threads s) ≡ Some (codes S.threads s)
      focused = stands_at S.threads s (ap reads_active p.focused)

      free : is_among (M ∷ []) s ≡ false
      free = ap (λ b. b || false) (apart_symm name_laws M s p.other)

      member : (x : Statement) (k : Code) → at_in S M ≡ x ⨾ k → (c : Code) → at_in S s ≡ c → IsEnd S
      member x k e done f =
          let w = centre_waits S x k p (active ∙ ap Some e) all.0 in unsaid (word_left S p w (settled_done S w.channel f))
      member x k e (y ⨾ l) f =
          let w = centre_waits S x k p (active ∙ ap Some e) all.0 in
          let more : list_any (has_code S) (M ∷ []) ≡ true = ap (λ c. not (same_code c done) || false) e ∙ has_one x k in
          let rest = subst (λ (b : Bool). AllByRecursion (λ (t : Name). actor (around P sizes M s n depth most deep few strict F) (length S.threads) S [] t ≡ None) (if b then others (M ∷ []) S else line)) more all.1 in
          let none = asked (M ∷ []) (λ t. actor (around P sizes M s n depth most deep few strict F) (length S.threads) S [] t ≡ None) S s (codes S.threads s) free focused rest in
          unsaid (word_left S p w (settled_waits S w.channel (member_waits S y l p (focused ∙ ap Some f) none)))
        where
          has_one : (x : Statement) (k : Code) → (not (same_code (x ⨾ k) done) || false) ≡ true
          has_one x k = elim (same_code (x ⨾ k) done) as (λ b. same_code (x ⨾ k) done ≡ b → (not b || false) ≡ true) [
            | true ↦ λ same. absurd (let is = same_codes (x ⨾ k) done same in cc)
            | false ↦ λ other. refl
          ] refl

      by : (c : Code) → at_in S M ≡ c → IsEnd S
      by done e = said e
      by (x ⨾ k) e = member x k e (at_in S s) refl

  pub is_said : (S : Symbolic) → (served_at sizes M S).left ≡ [] → IsEnd S → at_in S M ≡ done
  is_said S none (said at) = at
  is_said S none (unsaid left) = absurd (left none)

  module _ (r : Entered) (owned : owners_of r ≡ M ∷ []) where
    abbrev d : Drive
    d = premise_of r

    -- how the drive ends from a state
    pub record Ends (S : Symbolic) (o : Driven) : Type 0 where
      pub way : Way
      pub tries : Tries
      pub is : (o ≡ Reached way None) ⊎ ((o ≡ Stuck way tries None) × (d.goal way.end ≡ false))
      pub premise : Premise way.end
      pub served : served_at sizes M way.end ≡ served_at sizes M S
      pub ends : IsEnd way.end
      pub still : Still M s S way.end

    goal_said : (S : Symbolic) → d.goal S ≡ true → at_in S M ≡ done
    goal_said S g =
        let h = (both_true (not (list_any (has_code S) (must_end r))) (is_none (fault_aside r S)) g).0 in
        let one : not (not (same_code (at_in S M) done) || false) ≡ true = ap (λ os. not (list_any (has_code S) (or_others os (focus_of (rules.looks r.kind))))) (sym owned) ∙ h in
        same_codes (at_in S M) done (twice (same_code (at_in S M) done) one)
      where
        twice : (b : Bool) → not (not b || false) ≡ true → b ≡ true
        twice true e = refl
        twice false e = cc

    goes_on : (m : ℕ) (S : Symbolic) (x : Steps P sizes M s n depth most deep few strict F S (round (around P sizes M s n depth most deep few strict F) d S [] None)) → Ends x.next (rounds (around P sizes M s n depth most deep few strict F) d m x.next None) → Ends S (after_round (rounds (around P sizes M s n depth most deep few strict F) d m) S (round (around P sizes M s n depth most deep few strict F) d S [] None))
    goes_on m S x e = record {
      way = longer x.step x.items e.way;
      tries = e.tries;
      is = elim e.is [
        | inl a ↦ inl (ap (after_round (rounds (around P sizes M s n depth most deep few strict F) d m) S) x.is ∙ ap (after_step x.step x.items) a)
        | inr a ↦ inr (ap (after_round (rounds (around P sizes M s n depth most deep few strict F) d m) S) x.is ∙ ap (after_step x.step x.items) a.0, a.1)
      ];
      premise = e.premise;
      served = e.served ∙ x.served;
      ends = e.ends;
      still = still_then M s S x.next e.way.end x.still e.still;
    }

    pub rounds_end : (m : ℕ) (S : Symbolic) → Premise S → left_in S.threads + 1 ≤ m → Ends S (rounds (around P sizes M s n depth most deep few strict F) d m S None)
    rounds_end zero S p less = absurd (omega (arith, less))
    rounds_end (suc m) S p less = by (λ E q l. rounds_end m E q l) (d.goal S) refl
      where
        by : ((E : Symbolic) → Premise E → left_in E.threads + 1 ≤ m → Ends E (rounds (around P sizes M s n depth most deep few strict F) d m E None)) → (b : Bool) → d.goal S ≡ b →
            Ends S (if b then Reached (here S) None else after_round (rounds (around P sizes M s n depth most deep few strict F) d m) S (round (around P sizes M s n depth most deep few strict F) d S [] None))
        by later true e = record { way = here S; tries = no_tries; is = inl refl; premise = p; served = refl; ends = said (goal_said S e); still = record { threads = refl; mail = refl } }
        by later false e =
            elim (first_steps P sizes M s n depth most deep few strict F S (in_turn d S) p) [
              | inl x ↦
                  let y : Steps P sizes M s n depth most deep few strict F S (round (around P sizes M s n depth most deep few strict F) d S [] None) = record { step = x.step; items = x.items; next = x.next; is = ap (where_it_stays stay) x.is; premise = x.premise; served = x.served; fewer = x.fewer; ended = x.ended; still = x.still } in
                  goes_on m S y (later x.next x.premise (let f = x.fewer in omega (arith, f, less)))
              | inr w ↦ record {
                way = here S;
                tries = last_tries [] S.threads;
                is = inr (ap (after_round (rounds (around P sizes M s n depth most deep few strict F) d m) S) (ap (where_it_stays stay) w.is), e);
                premise = p;
                served = refl;
                ends = stuck_end S (d.candidates S) p (subst (λ (os : List Name). AllByRecursion (λ (t : Name). actor (around P sizes M s n depth most deep few strict F) (length S.threads) S [] t ≡ None) (os ++ (if list_any (has_code S) os then others os S else d.candidates S))) owned w.each);
                still = record { threads = refl; mail = refl };
              }
            ]

-- the premise's start is a state of the premise
pub premise_begins : (n depth most : ℕ) (deep : depth ≤ suc n) (few : most < 1000000) (P : Program) (strict : IsStrict P) (F : Follow) (sizes : Name → ℕ) (M s : Name) (S : Symbolic) (r : Entered) → IsStarThreads sizes M S → IsAlone M S → (l : IsCentresLoop sizes M s S r) → HasRoom depth most r.start →
    InPremise P sizes M s n depth most deep few strict F r.start
premise_begins n depth most deep few P strict F sizes M s S r st alone l room = record {
  star = star;
  room = room;
  body = ap (λ (f : Name → Code). every (talks_to (is_focus s)) (f M)) code ∙ ap (every (talks_to (is_focus s))) (changed-same name_laws (at_in S) M l.body) ∙ l.talks;
  focused = ap (λ (f : Name → Option Mode). f s) mode ∙ its_mode s;
  other = l.other;
  still = λ u c far apart here.
      let m = moved r.start.threads u c here in
      alone u (codes S.threads u) far (stands_at S.threads u (ap reads_active (sym (ap (λ (f : Name → Option Mode). f u) mode ∙ other_mode s At S.threads u apart)) ∙ m.active));
}
  where
    star : IsStarThreads sizes M r.start
    star = (premises_say_a_turn sizes M s S r st l).0

    centre_mode : modes (with_mode s At S.threads) M ≡ Some One
    centre_mode = other_mode s At S.threads M (apart_symm name_laws M s l.other) ∙ st.one

    code : at_in r.start ≡ changed same_name (at_in S) M l.body
    code = ap codes l.threads ∙ codes_with_code M l.body (with_mode s At S.threads) One centre_mode ∙ ap (λ f. changed same_name f M l.body) (codes_with_mode s At S.threads)

    mode : modes r.start.threads ≡ modes (with_mode s At S.threads)
    mode = ap modes l.threads ∙ modes_with_code M l.body (with_mode s At S.threads)

    its_mode : (u : Name) → modes (with_mode s At S.threads) s ≡ Some At
    its_mode u = let t = st.there s l.members in ap (λ (f : Name → Option Mode). f s) (modes_with_mode s At S.threads t.0 t.1) ∙ changed-same name_laws (modes S.threads) s (Some At)

pub premise_starts : (n : ℕ) (deep : 65 ≤ suc n) (few : 999999 < 1000000) (P : Program) (strict : IsStrict P) (F : Follow) (sizes : Name → ℕ) (M s : Name) (S : Symbolic) (r : Entered) → IsStarThreads sizes M S → IsAlone M S → (l : IsCentresLoop sizes M s S r) → IsRoomy r.start →
    InPremise P sizes M s n 65 999999 deep few strict F r.start
premise_starts n deep few P strict F sizes M s S r st alone l room =
    premise_begins n 65 999999 deep few P strict F sizes M s S r st alone l record {
      apart = (premises_say_a_turn sizes M s S r st l).0.apart;
      used = room.used;
      uses = room.uses;
      few = (let f = room.few in omega (arith, f));
      shallow = room.shallow;
    }

-- how the drive of a premise ends, and that its end is a state of the premise
pub record EndsInside (P : Program) (sizes : Name → ℕ) (M s : Name) (n depth most : ℕ) (deep : depth ≤ suc n) (few : most < 1000000) (strict : IsStrict P) (F : Follow) (r : Entered) : Type 0 where
  pub ends : PremiseEnds P sizes M (suc n) F r
  pub inside : InPremise P sizes M s n depth most deep few strict F ends.way.end

pub ends_inside : (n depth most : ℕ) (deep : depth ≤ suc n) (few : most < 1000000) (P : Program) (strict : IsStrict P) (F : Follow) (sizes : Name → ℕ) (M s : Name) (S : Symbolic) (r : Entered) → (l : IsCentresLoop sizes M s S r) →
    InPremise P sizes M s n depth most deep few strict F r.start → EndsInside P sizes M s n depth most deep few strict F r
ends_inside n depth most deep few P strict F sizes M s S r l p =
    let owned : owners_of r ≡ M ∷ [] = ap (map (λ (o : Owner). o.name)) l.owners in
    let e = rounds_end P sizes M s n depth most deep few strict F r owned (enough None r.start) r.start p (let fuel = enough_is r.start p.room.apart in omega (arith, fuel)) in
    record {
      inside = e.premise;
      ends = record {
        way = e.way;
        tries = e.tries;
        is = e.is;
        threads = e.premise.star;
        served = e.served;
        body = (
          λ at. sym (ap (λ (t : Served). t.left) e.served) ∙ ap (λ c. (serve (words sizes c) (members_by M (at_in e.way.end) (numbers_at e.way.end.pending))).left) at,
          λ none. is_said P sizes M s n depth most deep few strict F e.way.end (ap (λ (t : Served). t.left) e.served ∙ none) e.ends,
        );
        goal = λ at. goal_is M s r l.rest l.owners l.looks e.way.end at e.still;
      };
    }

pub premises_end : PremisesEnd
premises_end P strict F sizes M s S r st alone l room =
    let deep : 65 ≤ suc 254 = omega arith in
    let few : 999999 < 1000000 = omega arith in
    (ends_inside 254 65 999999 deep few P strict F sizes M s S r l (premise_starts 254 deep few P strict F sizes M s S r st alone l room)).ends
