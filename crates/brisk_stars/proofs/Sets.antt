-- Where the centre is at its end, a set goes by itself, or is left with something to say.
use Rattle.std.proofs.Common.{◌≡◌, ◌⊎◌, inl, inr, ℕ, zero, suc, ◌+◌, ◌<◌, ◌≤◌, Bool, true, false, List, [], ◌∷◌, ◌++◌, map, length, Option, Some, None, refl, sym, ap, ◌∙◌, subst, arith}
use Rattle.std.specs.Prelude.{◌&&◌, ◌||◌, not, if◌then◌else◌, is_none, is_some, Ok, Err}
use Rattle.std.specs.List.{AllByRecursion, list_any}
use Rattle.brisk_values.specs.Names.{Name, same_name, single}
use Rattle.brisk_values.proofs.Changes.{both_true, exact_name, name_laws, changed-same}
use Rattle.brisk_syntax.specs.declared.program.Program.{Program}
use Rattle.brisk_syntax.specs.Classes.{every, talks_to}
use Rattle.brisk_syntax.specs.Depths.{code_depth}
use Rattle.brisk_syntax.specs.Syntax.{Statement, Code, done, ◌⨾◌}
use Rattle.brisk_syntax.specs.Typing.{are_distinct, is_among}
use Rattle.brisk_state.specs.declared.thread.Mode.{Mode}
use Rattle.brisk_state.specs.declared.thread.Mode.TheVariants.{One, At, Each}
use Rattle.brisk_state.specs.declared.thread.Thread.{Thread}
use Rattle.brisk_state.specs.Same.{same_code}
use Rattle.brisk_state.specs.Symbolic as symbolic
use Rattle.brisk_state.specs.Symbolic.{Symbolic, active_code, code_at, is_in_use, numbers_at, pending_where, same_pending, thread_named, with_code, with_mode}
use Rattle.brisk_state.proofs.Threads.{code_itself}
use Rattle.brisk_derivation.specs.declared.fault.SideFault.{SideFault}
use Rattle.brisk_derivation.specs.declared.fault.SideFault.TheVariants.{FactLost, MailChanged, NotRestored}
use Rattle.brisk_derivation.specs.declared.steps.Fact.{Fact}
use Rattle.brisk_derivation.specs.Reports.{Tries, no_tries}
use Rattle.brisk_rules.specs.Following.{Follow}
use Rattle.brisk_rules.specs.declared.why.Why.{Why}
use Rattle.brisk_rules.specs.Rules as rules
use Rattle.brisk_rules.specs.Rules.{Entered, Outside, can_focus, close, first_fault, looks_at, looks_at_code, looks_at_key, mode_of, not_restored, unfocused, unless, without_drops}
use Rattle.brisk_rules.specs.Standing.{fault_aside, has_code, is_movable}
use Rattle.brisk_rules.proofs.Fulfilled.{same_ok}
use Rattle.brisk_rules.proofs.Readings.{is_active}
use Rattle.brisk_rules.proofs.Threads.{modes, codes, names, codes_with_mode, names_with_mode, modes_with_mode, moved}
use Rattle.brisk_sound.proofs.Closing.{closed}
use Rattle.brisk_sound.proofs.Strict.{IsStrict}
use Rattle.brisk_straight.proofs.Local.{in_place, pending_itself}
use Rattle.brisk_straight.proofs.Places.{stands_at}
use Rattle.brisk_straight.proofs.States.{left_in}
use Rattle.brisk_search.specs.Turns.{Failures, Goes, Turn, stay, where_it_stays}
use Rattle.brisk_search.specs.Drives.{Drive, Driven, Reached, Stuck, Way, in_turn, others, premise_of, side_of}
use Rattle.brisk_search.specs.Advance.{Around, actor}
use Rattle.brisk_search.specs.Passes.{after_round, after_step, driver, enough, here, last_tries, longer, round, rounds}
use Rattle.brisk_search.specs.Tries.{Rule, for_rule, nine_tries}
use Rattle.brisk_search.proofs.Heads.{IsRule, is_for}
use Rattle.brisk_search.proofs.Lost.{fit_spared}
use Rattle.brisk_search.proofs.Sparing.{Kept, TurnKeeps, all_keep, drivers_keep}
use Rattle.brisk_answered.proofs.Fuel.{enough_is}
use Rattle.brisk_answered.proofs.Sides.{own_sides}
use Rattle.brisk_stars.specs.Rounds.{IsAtTop, SetGoes, SetsGoOrLeave}
use Rattle.brisk_stars.specs.Runs.{IsUnserved, nobody}
use Rattle.brisk_stars.specs.Serving.{Member, Served, takes, if_none, settled, settled_from, messages, serve}
use Rattle.brisk_quiet.specs.Quiet.{Counts, one_less}
use Rattle.brisk_stars.specs.Threads.{IsStarThreads, at_in, member_by, members_by, served_at, served_by}
use Rattle.brisk_stars.specs.Tries.{ATryCloses, ComesToEnds, NoTryCloses, refused, stuck, loses}
use Rattle.brisk_stars.specs.Words.{is_focus, words}
use Rattle.brisk_stars.proofs.AtTop.{alone_after, each_one}
use Rattle.brisk_stars.proofs.Last.{last_tries_close}
use Rattle.brisk_stars.proofs.Loops.{goes_over, other_mode}
use Rattle.brisk_stars.proofs.Nine.{nine_tries_go_or_stay}
use Rattle.brisk_stars.proofs.Outside.{Still, blank, blanked, mail_outside, still_then}
use Rattle.brisk_stars.proofs.Premises.{MemberWaits, member_waits}
use Rattle.brisk_stars.proofs.Room.{HasRoom}
use Rattle.brisk_stars.proofs.Small.{centre_active, left_moded, shallow_moded}
use Rattle.brisk_stars.proofs.Tops.{never_both, same_reached}
use Rattle.brisk_stars.proofs.Turns.{InPremise, Steps, around, first_steps}
use Rattle.std.proofs.lemmas.Bool.{not-true}

at_one : At ≡ One → ⊥
at_one e = cc

-- threads that are the same but for two, of which one is at its end, are restored but for the other
module _ (M s : Name) (looks : Name → Bool) (not_this : (u : Name) → looks u ≡ true → same_name s u ≡ false) where
  abbrev Ended : Thread → Type 0
  Ended t = same_name M t.name ≡ true → t.code ≡ done

  kept_name : (b : Bool) (t : Thread) → (if b then record t { code = done } else t).name ≡ t.name
  kept_name true t = refl
  kept_name false t = refl

  one_restored : (t u : Thread) → blank M s t ≡ blank M s u → Ended t → Ended u → (if looks t.name then unless (same_code t.code u.code) (NotRestored t.name) else None) ≡ None
  one_restored t u e f g =
      elim (looks t.name) as (λ b. looks t.name ≡ b → (if b then unless (same_code t.code u.code) (NotRestored t.name) else None) ≡ None) [
        | false ↦ λ l. refl
        | true ↦ λ l. ap (λ b. unless b (NotRestored t.name)) (same (not_this t.name l))
      ] refl
    where
      name : t.name ≡ u.name
      name = sym (kept_name (same_name M t.name || same_name s t.name) t) ∙ ap (λ (z : Thread). z.name) e ∙ kept_name (same_name M u.name || same_name s u.name) u

      same : same_name s t.name ≡ false → same_code t.code u.code ≡ true
      same off =
          elim (same_name M t.name) as (λ b. same_name M t.name ≡ b → same_code t.code u.code ≡ true) [
            | true ↦ λ h. let a = f h in let c = g (ap (same_name M) (sym name) ∙ h) in (λ i. same_code (a i) (c i)) ∙ code_itself done
            | false ↦ λ h.
                let far : (same_name M t.name || same_name s t.name) ≡ false = (λ i. h i || off i) in
                let far' : (same_name M u.name || same_name s u.name) ≡ false = ap (λ n. same_name M n || same_name s n) (sym name) ∙ far in
                let is : t ≡ u = sym (ap (λ b. if b then record t { code = done } else t) far) ∙ e ∙ ap (λ b. if b then record u { code = done } else u) far' in
                ap (same_code t.code) (ap (λ (z : Thread). z.code) (sym is)) ∙ code_itself t.code
          ] refl

  restored : (ts us : List Thread) → blanked M s ts ≡ blanked M s us → AllByRecursion Ended ts → AllByRecursion Ended us → not_restored looks ts us ≡ None
  restored [] us e f g = refl
  restored (t ∷ ts) [] e f g = refl
  restored (t ∷ ts) (u ∷ us) e f g =
      let h : blank M s t ≡ blank M s u = head_same e in
      let k : blanked M s ts ≡ blanked M s us = tail_same e in
      (λ i. first_fault (one_restored t u h f.0 g.0 i ∷ restored ts us k f.1 g.1 i ∷ []))
    where
      head_same : {x y : Thread} {xs ys : List Thread} → x ∷ xs ≡ y ∷ ys → x ≡ y
      head_same e = cc

      tail_same : {x y : Thread} {xs ys : List Thread} → x ∷ xs ≡ y ∷ ys → xs ≡ ys
      tail_same e = cc

  none_named : (ts : List Thread) → is_among (names ts) M ≡ false → AllByRecursion Ended ts
  none_named [] h = tt
  none_named (t ∷ ts) h =
      elim (same_name M t.name) as (λ b. same_name M t.name ≡ b → (b || is_among (names ts) M) ≡ false → Ended t × AllByRecursion Ended ts) [
        | true ↦ λ e g. cc
        | false ↦ λ e g. (λ f. (let both = sym e ∙ f in cc), none_named ts g)
      ] refl h

  all_ended : (ts : List Thread) → are_distinct (names ts) ≡ true → codes ts M ≡ done → AllByRecursion Ended ts
  all_ended [] d e = tt
  all_ended (t ∷ ts) d e =
      let k = both_true (not (is_among (names ts) t.name)) (are_distinct (names ts)) d in
      elim (same_name M t.name) as (λ b. same_name M t.name ≡ b → rules.code_in (if b then Some t else thread_named ts M) ≡ done → Ended t × AllByRecursion Ended ts) [
        | true ↦ λ same g. (λ f. g, none_named ts (ap (is_among (names ts)) (exact_name M t.name same) ∙ not-true (is_among (names ts) t.name) k.0))
        | false ↦ λ off g. (λ f. (let both = sym off ∙ f in cc), all_ended ts k.1 g)
      ] refl e

module _ (P : Program) (strict : IsStrict P) (F : Follow) (sizes : Name → ℕ) (M s : Name) (S : Symbolic) (top : IsAtTop P sizes M S) (ended : at_in S M ≡ done) (resting : is_movable S s ≡ false) (has : has_code S s ≡ true) where
  other : same_name M s ≡ false
  other = by (same_name M s) refl
    where
      by : (b : Bool) → same_name M s ≡ b → b ≡ false
      by false e = refl
      by true e =
          let at : at_in S s ≡ done = ap (at_in S) (sym (exact_name M s e)) ∙ ended in
          let none : has_code S s ≡ false = ap (λ c. not (same_code c done)) at ∙ ap not (code_itself done) in
          let both = sym has ∙ none in cc

  each : modes S.threads s ≡ Some Each
  each = by (thread_named S.threads s) resting has (top.threads.several s other)
    where
      by_mode : (m : Mode) (c : Code) → is_some (if symbolic.is_active m then Some c else None) ≡ false → (Some m ≡ Some One → ⊥) → Some m ≡ Some Each
      by_mode One c h g = absurd (g refl)
      by_mode At c h g = cc
      by_mode Each c h g = refl

      by : (o : Option Thread) → is_some (active_code o) ≡ false → not (same_code (rules.code_in o) done) ≡ true → (mode_of o ≡ Some One → ⊥) → mode_of o ≡ Some Each
      by None h k g = absurd (let none = ap not (code_itself done) in let both = sym k ∙ none in cc)
      by (Some u) h k g = by_mode u.mode u.code h g

  abbrev rule : Rule
  rule = for_rule F S s s []

  is_rule : IsRule P F S rule
  is_rule = is_for s s [] has

  abbrev entry : List Fact → Entered
  entry drops = record {
    start = record S { threads = with_mode s At S.threads; facts = without_drops drops S.facts };
    known = without_drops drops S.facts;
    owners = [];
    kind = rules.For s;
  }

  enters : (drops : List Fact) → rule.enter drops ≡ Ok (entry drops)
  enters drops = ap (λ m. can_focus m (Ok (entry drops))) each

  deep : 64 ≤ suc 254
  deep = omega arith

  few : 20000 < 1000000
  few = omega arith

  -- where threads stand as they do, the centre at its end
  as_it_is : (E : Symbolic) → IsStarThreads sizes M E → at_in E M ≡ done → (m : Mode) → with_mode s m E.threads ≡ with_code M done (with_mode s m E.threads)
  as_it_is E st at m =
      let G : Symbolic = record E { threads = with_mode s m E.threads } in
      (in_place G done (ap are_distinct (names_with_mode s m E.threads) ∙ st.apart) (centre_active sizes M s E st other m ∙ ap Some at)).threads

  module _ (drops : List Fact) where
    abbrev r : Entered
    r = entry drops

    abbrev FF : Follow
    FF = rule.follows r

    abbrev Inside : Symbolic → Type 0
    Inside E = InPremise P sizes M s 254 64 20000 deep few strict FF E

    abbrev here_around : Around
    here_around = around P sizes M s 254 64 20000 deep few strict FF

    abbrev d : Drive
    d = premise_of r

    at_start : at_in r.start M ≡ done
    at_start = ap (λ (f : Name → Code). f M) (codes_with_mode s At S.threads) ∙ ended

    star : IsStarThreads sizes M r.start
    star = goes_over sizes M s other S top.threads At at_one done refl refl r.start (as_it_is S top.threads ended At)

    starts : Inside r.start
    starts = record {
      star = star;
      room = record {
        apart = star.apart;
        used = top.small.used;
        uses = top.small.uses;
        few = (let f = top.small.few in let l = left_moded s At S.threads in omega (arith, f, l));
        shallow = shallow_moded s At S.threads top.small.shallow;
      };
      body = ap (every (talks_to (is_focus s))) at_start;
      focused = ap (λ (f : Name → Option Mode). f s) (modes_with_mode s At S.threads Each each) ∙ changed-same name_laws (modes S.threads) s (Some At);
      other = other;
      still = λ u c far apart here.
          let m = moved r.start.threads u c here in
          top.alone u (codes S.threads u) far (stands_at S.threads u (ap is_active (sym (other_mode s At S.threads u apart)) ∙ m.active));
    }

    -- the goal is reached where the set is at its end
    goal_true : (E : Symbolic) → Inside E → at_in E M ≡ done → Still M s r.start E → at_in E s ≡ done → d.goal E ≡ true
    goal_true E p at still at_end =
        let all : (not (has_code E s || false)) ≡ true = ap (λ c. not (not (same_code c done) || false)) at_end ∙ ap (λ b. not (not b || false)) (code_itself done) in
        let back : not_restored (looks_at_code r) r.start.threads E.threads ≡ None =
        restored M s (looks_at_code r) looks_elsewhere r.start.threads E.threads (sym still.threads)
        (all_ended M s (looks_at_code r) looks_elsewhere r.start.threads star.apart at_start) (all_ended M s (looks_at_code r) looks_elsewhere E.threads p.star.apart at) in
        let mail : same_pending (pending_where (looks_at_key (Outside s)) r.start.pending) (pending_where (looks_at_key (Outside s)) E.pending) ≡ true =
        ap (same_pending (mail_outside M s r.start.pending)) still.mail ∙ pending_itself (mail_outside M s r.start.pending) in
        let fault : fault_aside r E ≡ None = (λ i. first_fault (None ∷ back i ∷ unless (mail i) MailChanged ∷ unless true FactLost ∷ [])) in
        (λ i. all i && is_none (fault i))
      where
        looks_elsewhere : (u : Name) → looks_at_code r u ≡ true → same_name s u ≡ false
        looks_elsewhere u h = not-true (same_name s u) (both_true (not (same_name s u)) true h).0

    -- a member that waits is left with something to say
    waits_unserved : (E : Symbolic) → at_in E M ≡ done → MemberWaits P sizes M s 254 64 20000 deep few strict FF E → IsUnserved (served_at sizes M E)
    waits_unserved E at w =
        let members = members_by M (at_in E) (numbers_at E.pending) in
        let up : Counts = λ c. length (numbers_at E.pending (symbolic.key s M c)) in
        let down : Counts = λ c. length (numbers_at E.pending (symbolic.key M s c)) in
        let at_end : served_at sizes M E ≡ record { left = []; members = λ k. settled (members k) } = ap (λ k. serve (words sizes k) members) at in
        let member : members (single s) ≡ member_by M (at_in E) (numbers_at E.pending) s = ap (λ b. if b then nobody else member_by M (at_in E) (numbers_at E.pending) s) other in
        let left : (settled (members (single s))).left ≡ takes w.channel ∷ messages w.rest =
        ap (λ m. (settled m).left) member
        ∙ ap (λ ms. (settled record { left = ms; up = up; down = down }).left) w.at
        ∙ ap (λ ns. (if_none (length ns) record { left = takes w.channel ∷ messages w.rest; up = up; down = down } (settled_from (messages w.rest) up (one_less down w.channel))).left) w.none in
        inr (single s, λ none. let both = sym left ∙ sym (ap (λ (t : Served). (t.members (single s)).left) at_end) ∙ none in cc)

    -- how the drive of the premise ends
    record SetEnds (E : Symbolic) (o : Driven) : Type 0 where
      way : Way
      tries : Tries
      is : (o ≡ Reached way None) ⊎ ((o ≡ Stuck way tries None) × IsUnserved (served_at sizes M way.end))
      inside : Inside way.end
      served : served_at sizes M way.end ≡ served_at sizes M E
      stays : at_in way.end M ≡ done

    abbrev go : ℕ → Symbolic → Driven
    go m E = rounds here_around d m E None

    stuck_there : (E : Symbolic) → Inside E → at_in E M ≡ done → Still M s r.start E → d.goal E ≡ false → actor here_around (length E.threads) E [] s ≡ None → IsUnserved (served_at sizes M E)
    stuck_there E p at still unmet none = by (at_in E s) refl
      where
        by : (c : Code) → at_in E s ≡ c → IsUnserved (served_at sizes M E)
        by done e = absurd (let met = goal_true E p at still e in let both = sym met ∙ unmet in cc)
        by (x ⨾ k) e =
            let at_s = stands_at E.threads s (ap is_active p.focused) ∙ ap Some e in
            waits_unserved E at (member_waits P sizes M s 254 64 20000 deep few strict FF E x k p at_s none)

    set_rounds : (m : ℕ) (E : Symbolic) → Inside E → at_in E M ≡ done → Still M s r.start E → left_in E.threads + 1 ≤ m → SetEnds E (go m E)
    set_rounds zero E p at still less = absurd (omega (arith, less))
    set_rounds (suc m) E p at still less = by (λ G q a t l. set_rounds m G q a t l) (d.goal E) refl
      where
        by : ((G : Symbolic) → Inside G → at_in G M ≡ done → Still M s r.start G → left_in G.threads + 1 ≤ m → SetEnds G (go m G)) → (b : Bool) → d.goal E ≡ b →
            SetEnds E (if b then Reached (here E) None else after_round (λ G left. rounds here_around d m G left) E (round here_around d E [] None))
        by later true e = record { way = here E; tries = no_tries; is = inl refl; inside = p; served = refl; stays = at }
        by later false e =
            elim (first_steps P sizes M s 254 64 20000 deep few strict FF E (in_turn d E) p) [
              | inl x ↦
                  let y = later x.next x.premise (x.ended M at) (still_then M s r.start E x.next still x.still) (let f = x.fewer in omega (arith, f, less)) in
                  let goes : round here_around d E [] None ≡ Goes x.step x.items x.next None = ap (where_it_stays stay) x.is in
                  record {
                    way = longer x.step x.items y.way;
                    tries = y.tries;
                    is = elim y.is [
                      | inl a ↦ inl (ap (after_round (λ G left. rounds here_around d m G left) E) goes ∙ ap (after_step x.step x.items) a)
                      | inr a ↦ inr (ap (after_round (λ G left. rounds here_around d m G left) E) goes ∙ ap (after_step x.step x.items) a.0, a.1)
                    ];
                    inside = y.inside;
                    served = y.served ∙ x.served;
                    stays = y.stays;
                  }
              | inr w ↦ record {
                way = here E;
                tries = last_tries [] E.threads;
                is = inr (ap (after_round (λ G left. rounds here_around d m G left) E) (ap (where_it_stays stay) w.is), stuck_there E p at still e w.each.0);
                inside = p;
                served = refl;
                stays = at;
              }
            ]

    set_ends : SetEnds r.start (driver P own_sides 255 FF d r.start None)
    set_ends = set_rounds (enough None r.start) r.start starts at_start record { threads = refl; mail = refl } (let fuel = enough_is r.start star.apart in omega (arith, fuel))

    served_start : served_at sizes M r.start ≡ served_at sizes M S
    served_start = ap (λ (f : Name → Code). served_by sizes M f (numbers_at S.pending)) (codes_with_mode s At S.threads)

  same_entry : (drops : List Fact) (r : Entered) → rule.enter drops ≡ Ok r → entry drops ≡ r
  same_entry drops r e = same_ok _ r (sym (enters drops) ∙ e)

  comes : ComesToEnds (driver P own_sides 255) rule
  comes drops r e =
      subst (λ (z : Entered). ((w : Way) × (driver P own_sides 255 (rule.follows z) (premise_of z) z.start None ≡ Reached w None)) ⊎ ((w : Way) × (tries : Tries) × (driver P own_sides 255 (rule.follows z) (premise_of z) z.start None ≡ Stuck w tries None)))
      (same_entry drops r e)
      (let x = set_ends drops in
      elim x.is [
        | inl a ↦ inl (x.way, a)
        | inr a ↦ inr (x.way, x.tries, a.0)
      ])

  module _ (drops : List Fact) (next : Symbolic) (closes : close (entry drops) (set_ends drops).way.end ≡ Ok next) where
    abbrev E : Symbolic
    E = (set_ends drops).way.end

    threads : next.threads ≡ with_mode s Each E.threads
    threads = ap (λ (z : Symbolic). z.threads) (sym (closed (entry drops) E next closes).next)

    pending : next.pending ≡ E.pending
    pending = ap (λ (z : Symbolic). z.pending) (sym (closed (entry drops) E next closes).next)

    code : at_in next ≡ at_in E
    code = ap codes threads ∙ codes_with_mode s Each E.threads

    whole : next.threads ≡ with_code M done (with_mode s Each E.threads)
    whole = threads ∙ as_it_is E (set_ends drops).inside.star (set_ends drops).stays Each

    at_top : Kept S next → IsAtTop P sizes M next
    at_top kept =
        let x = set_ends drops in
        record {
          threads = goes_over sizes M s other E x.inside.star Each each_one done refl refl next whole;
          alone = alone_after P sizes M s 254 64 20000 deep few strict (rule.follows (entry drops)) E next done x.inside whole;
          fit = fit_spared P S next top.fit kept.0 kept.1;
          small = record {
            used = x.inside.room.used;
            uses = λ m u. x.inside.room.uses m (ap (λ p. is_in_use p m) (sym pending) ∙ u);
            few = (let f = x.inside.room.few in let l = ap left_in threads ∙ left_moded s Each E.threads in omega (arith, f, l));
            shallow = subst (AllByRecursion (λ (u : Thread). code_depth u.code ≤ 64)) (sym threads) (shallow_moded s Each E.threads x.inside.room.shallow);
          };
        }

    same : served_at sizes M next ≡ served_at sizes M S
    same = (λ i. served_by sizes M (code i) (numbers_at (pending i))) ∙ (set_ends drops).served ∙ served_start drops

  goes : (failures : Failures) → ATryCloses (driver P own_sides 255) rule (nine_tries P (Some (driver P own_sides 255)) S rule failures None) → SetGoes P sizes M S (nine_tries P (Some (driver P own_sides 255)) S rule failures None)
  goes failures c =
      let x = set_ends c.drops in
      let same_r = same_entry c.drops c.entered c.enters in
      let reached : driver P own_sides 255 (rule.follows (entry c.drops)) (premise_of (entry c.drops)) (entry c.drops).start None ≡ Reached c.way None =
      ap (λ (z : Entered). driver P own_sides 255 (rule.follows z) (premise_of z) z.start None) same_r ∙ c.reached in
      let way : x.way ≡ c.way = elim x.is [
        | inl a ↦ same_reached x.way c.way (sym a ∙ reached)
        | inr a ↦ absurd (never_both c.way x.way x.tries (sym reached ∙ a.0))
      ] in
      let closes : close (entry c.drops) x.way.end ≡ Ok c.next = (λ i. close (same_r i) (way i).end) ∙ c.closes in
      let kept : Kept S c.next = subst (TurnKeeps P S) c.is.2 ((all_keep P (Some (driver P own_sides 255)) (drivers_keep P own_sides 255) side_of F).nine S rule is_rule top.fit failures None) in
      record {
        step = c.is.0;
        items = c.is.1;
        next = c.next;
        is = c.is.2;
        top = at_top c.drops c.next closes kept;
        ended = ap (λ (f : Name → Code). f M) (code c.drops c.next closes) ∙ x.stays;
        served = same c.drops c.next closes;
      }

  leaves : NoTryCloses P (driver P own_sides 255) S rule → IsUnserved (served_at sizes M S)
  leaves (refused drops why e) = absurd (let both = sym (enters drops) ∙ e in cc)
  leaves (loses r w why e reached c) = absurd (last_tries_close P F S rule r w why is_rule top.fit e reached c)
  leaves (stuck drops r w tries e is_stuck) =
      let x = set_ends drops in
      let there = ap (λ (z : Entered). driver P own_sides 255 (rule.follows z) (premise_of z) z.start None) (same_entry drops r e) ∙ is_stuck in
      elim x.is [
        | inl a ↦ absurd (never_both x.way w tries (sym a ∙ there))
        | inr a ↦ subst IsUnserved (x.served ∙ served_start drops) a.1
      ]

pub sets_go_or_leave : SetsGoOrLeave
sets_go_or_leave P strict F sizes M s S failures top ended resting has =
    elim (nine_tries_go_or_stay P (driver P own_sides 255) S (for_rule F S s s []) failures (comes P strict F sizes M s S top ended resting has)) [
      | inl c ↦ inl (goes P strict F sizes M s S top ended resting has failures c)
      | inr x ↦ inr (leaves P strict F sizes M s S top ended resting has x.1)
    ]
