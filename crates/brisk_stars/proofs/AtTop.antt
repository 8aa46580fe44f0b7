-- At the top the centre's loop goes on, or something is left.
use Rattle.std.proofs.Common.{◌≡◌, ◌⊎◌, inl, inr, ℕ, suc, ◌<◌, ◌≤◌, true, false, List, [], ◌∷◌, ◌++◌, map, Option, Some, None, refl, sym, ap, ◌∙◌, subst, arith}
use Rattle.std.specs.Prelude.{Ok, Err, if◌then◌else◌}
use Rattle.brisk_values.specs.Names.{Name, same_name}
use Rattle.brisk_values.specs.Functions.{changed}
use Rattle.brisk_values.proofs.Changes.{name_laws, changed-same}
use Rattle.brisk_syntax.specs.declared.program.Program.{Program}
use Rattle.brisk_syntax.specs.Syntax.{Statement, For, RecvAny, Repeat, Code, done, ◌⨾◌}
use Rattle.brisk_state.specs.declared.thread.Mode.{Mode}
use Rattle.brisk_state.specs.declared.thread.Mode.TheVariants.{One, At, Each}
use Rattle.brisk_state.specs.Symbolic.{Symbolic, code_at, numbers_at, with_code, with_mode}
use Rattle.brisk_derivation.specs.declared.steps.Fact.{Fact}
use Rattle.brisk_derivation.specs.Reports.{Tries}
use Rattle.brisk_rules.specs.Following.{Follow}
use Rattle.brisk_rules.specs.declared.why.Why.{Why}
use Rattle.brisk_rules.specs.Rules as rules
use Rattle.brisk_rules.specs.Rules.{Entered, Owner, at_rests, close, enter_for, enter_gather, first_fault, unfinished, unfocused}
use Rattle.brisk_rules.proofs.Readings.{is_active}
use Rattle.brisk_rules.proofs.Threads.{modes, codes, modes_with_code, modes_with_mode, moved}
use Rattle.brisk_sound.proofs.Closing.{closed, finished, first_none}
use Rattle.brisk_sound.proofs.Strict.{IsStrict}
use Rattle.brisk_straight.proofs.Places.{stands_at}
use Rattle.brisk_search.specs.Turns.{Failures, Goes, Turn}
use Rattle.brisk_search.specs.Drives.{Reached, Stuck, Way, premise_of, side_of}
use Rattle.brisk_search.specs.Passes.{driver}
use Rattle.brisk_search.specs.Tries.{Rule, nine_tries}
use Rattle.brisk_search.proofs.Heads.{IsRule, is_for, is_gather}
use Rattle.brisk_search.proofs.Lost.{fit_spared}
use Rattle.brisk_search.proofs.Sparing.{Kept, TurnKeeps, all_keep, drivers_keep}
use Rattle.brisk_answered.proofs.Sides.{own_sides}
use Rattle.brisk_stars.specs.Rounds.{GoesOnAtTop, IsAtTop, IsLoopAt, at_for, at_gather, LeavesSome, leaves_over, leaves_unsaid, LoopsGoOrLeave, PremisesAreRoomy}
use Rattle.brisk_stars.specs.Searching.{IsAlone, IsRoomy, PremiseEnds}
use Rattle.brisk_stars.specs.Serving.{Served, Word, followed, serve, settled}
use Rattle.brisk_stars.specs.Threads.{IsCentresLoop, IsStarThreads, at_in, members_by, served_at}
use Rattle.brisk_stars.specs.Tops.{IsLoopRule, a_for, a_gather, StaysAt, refused, unserved, left_over, loses}
use Rattle.brisk_stars.specs.Tries.{ATryCloses}
use Rattle.brisk_stars.specs.Words.{words}
use Rattle.brisk_stars.proofs.Entries.{loops_are_entered}
use Rattle.brisk_stars.proofs.Last.{last_tries_close}
use Rattle.brisk_stars.proofs.Loops.{all_codes, closes_keep_serving, fors_are_entered, gathers_are_entered, other_mode, turn_is}
use Rattle.brisk_stars.proofs.Nine.{nine_tries_go_or_stay}
use Rattle.brisk_stars.proofs.Premises.{EndsInside, ends_inside, premise_begins}
use Rattle.brisk_stars.proofs.Serving.{served_alike, serving_appends, settled_once}
use Rattle.brisk_stars.proofs.Small.{bounded, in_premise, premise_room, premise_roomy, small_after}
use Rattle.brisk_stars.proofs.Threaded.{members_same}
use Rattle.brisk_stars.proofs.Tops.{comes, same_reached, never_both, stays_on}
use Rattle.brisk_stars.proofs.Turns.{InPremise}

pub each_one : Each ≡ One → ⊥
each_one e = cc

-- where a set that was in focus is closed, and the centre goes on, no set is in focus
pub alone_after : (P : Program) (sizes : Name → ℕ) (M s : Name) (n depth most : ℕ) (deep : depth ≤ suc n) (few : most < 1000000) (strict : IsStrict P) (F : Follow) (E next : Symbolic) (k : Code) → InPremise P sizes M s n depth most deep few strict F E →
    next.threads ≡ with_code M k (with_mode s Each E.threads) → IsAlone M next
alone_after P sizes M s n depth most deep few strict F E next k p threads u c far here =
    let m = moved next.threads u c here in
    let mode : modes next.threads ≡ modes (with_mode s Each E.threads) = ap modes threads ∙ modes_with_code M k (with_mode s Each E.threads) in
    elim (same_name s u) as (λ b. same_name s u ≡ b → ⊥) [
      | true ↦ λ same.
          let each : modes next.threads u ≡ Some Each =
          ap (λ (f : Name → Option Mode). f u) (mode ∙ modes_with_mode s Each E.threads At p.focused)
          ∙ ap (λ b. if b then Some Each else modes E.threads u) same in
          let both = sym m.active ∙ ap is_active each in cc
      | false ↦ λ apart. p.still u (codes E.threads u) far apart (stands_at E.threads u (ap is_active (sym (ap (λ (f : Name → Option Mode). f u) mode ∙ other_mode s Each E.threads u apart)) ∙ m.active))
    ] refl

module _ (P : Program) (strict : IsStrict P) (F : Follow) (sizes : Name → ℕ) (M : Name) (S : Symbolic) (rest : Code) (rule : Rule) (top : IsAtTop P sizes M S) (is : IsLoopAt M F S rest rule) where
  loop_rule : IsLoopRule M F S rule
  loop_rule = by rule is
    where
      by : (z : Rule) → IsLoopAt M F S rest z → IsLoopRule M F S z
      by _ (at_for v s b at) = a_for s
      by _ (at_gather c xs v s b at) = a_gather

  any_rule : IsRule P F S rule
  any_rule = by rule is
    where
      by : (z : Rule) → IsLoopAt M F S rest z → IsRule P F S z
      by _ (at_for v s b at) = is_for M s (M ∷ []) tt
      by _ (at_gather c xs v s b at) = is_gather M

  head : (x : Statement) × (at_in S M ≡ x ⨾ rest)
  head = by rule is
    where
      by : (z : Rule) → IsLoopAt M F S rest z → (x : Statement) × (at_in S M ≡ x ⨾ rest)
      by _ (at_for v s b at) = (For v s 0 b, at)
      by _ (at_gather c xs v s b at) = (Repeat s 0 (RecvAny c xs v s b ⨾ done), at)

  entered_loop : (drops : List Fact) (r : Entered) → rule.enter drops ≡ Ok r → (s : Name) × IsCentresLoop sizes M s S r
  entered_loop drops r e = by rule is e
    where
      by : (z : Rule) → IsLoopAt M F S rest z → z.enter drops ≡ Ok r → (s : Name) × IsCentresLoop sizes M s S r
      by _ (at_for v s b at) e = (s, fors_are_entered sizes M s S r drops top.threads e)
      by _ (at_gather c xs v s b at) e = gathers_are_entered sizes M S r drops top.threads e

  never_refused : (drops : List Fact) (why : Why) → rule.enter drops ≡ Err why → ⊥
  never_refused drops why e = by rule is e
    where
      by : (z : Rule) → IsLoopAt M F S rest z → z.enter drops ≡ Err why → ⊥
      by _ (at_for v s b at) e = let x = (loops_are_entered sizes M S drops rest top.threads top.alone).0 v s b at in let both = sym x.1 ∙ e in cc
      by _ (at_gather c xs v s b at) e = let x = (loops_are_entered sizes M S drops rest top.threads top.alone).1 c xs v s b at in let both = sym x.1 ∙ e in cc

  roomy : (drops : List Fact) (r : Entered) → rule.enter drops ≡ Ok r → IsRoomy r.start
  roomy drops r e = let l = entered_loop drops r e in premise_roomy sizes M l.0 S r top.threads l.1 top.small

  -- what is so after a try that closes
  module _ (s : Name) (r : Entered) (l : IsCentresLoop sizes M s S r) where
    abbrev most : ℕ
    most = in_premise sizes M s S r top.threads l top.small

    deep : 64 ≤ suc 254
    deep = omega arith

    few : most < 1000000
    few = let b = bounded sizes M s S r top.threads l top.small in omega (arith, b)

    inside : EndsInside P sizes M s 254 64 most deep few strict (rule.follows r) r
    inside =
        ends_inside 254 64 most deep few P strict (rule.follows r) sizes M s S r l
        (premise_begins 254 64 most deep few P strict (rule.follows r) sizes M s S r top.threads top.alone l (premise_room sizes M s S r top.threads l top.small))

    abbrev E : Symbolic
    E = inside.ends.way.end

    same_rest : l.rest ≡ rest
    same_rest = let both = sym l.behind.1 ∙ head.1 in cc

    module _ (next : Symbolic) (closes : close r E ≡ Ok next) where
      ended : at_in E M ≡ done
      ended = finished E record { name = M; rest = l.rest } (first_none _ _ (ap (λ (os : List Owner). first_fault (map (unfinished E) os)) (sym l.owners) ∙ (closed r E next closes).finished)).0

      threads : next.threads ≡ with_code M l.rest (with_mode s Each E.threads)
      threads = ap (λ (z : Symbolic). z.threads) (sym (closed r E next closes).next) ∙ (λ i. at_rests (l.owners i) (unfocused (l.looks i) E.threads))

      pending : next.pending ≡ E.pending
      pending = ap (λ (z : Symbolic). z.pending) (sym (closed r E next closes).next)

      code : at_in next ≡ changed same_name (at_in E) M l.rest
      code = ap codes threads ∙ all_codes sizes M s l.other E inside.ends.threads Each each_one l.rest l.runs_on l.fresh_on

      says_on : (more : List Word) → serve (words sizes l.body ++ more) (members_by M (at_in S) (numbers_at S.pending)) ≡ serve more (members_by M (at_in next) (numbers_at next.pending))
      says_on more =
          let before = members_by M (at_in S) (numbers_at S.pending) in
          let middle = members_by M (at_in E) (numbers_at E.pending) in
          let all : serve (words sizes l.body) before ≡ record { left = []; members = λ k. settled (middle k) } =
          sym (turn_is sizes M s S r top.threads l) ∙ sym inside.ends.served ∙ ap (λ k. serve (words sizes k) middle) ended in
          serving_appends (words sizes l.body) more before
          ∙ ap (λ (t : Served). followed t.left more t.members) all
          ∙ served_alike more (λ k. settled (middle k)) middle (λ k. let m = middle k in settled_once m.left m.up m.down)
          ∙ sym ((λ i. serve more (members_by M (code i) (numbers_at (pending i)))) ∙ ap (serve more) (λ i p. members_same sizes M (at_in E) (numbers_at E.pending) l.rest p i))

      at_top : Kept S next → IsAtTop P sizes M next
      at_top kept = record {
        threads = (closes_keep_serving sizes M s S E next r top.threads l inside.ends.threads inside.ends.served closes).0;
        alone = alone_after P sizes M s 254 64 most deep few strict (rule.follows r) E next l.rest inside.inside threads;
        fit = fit_spared P S next top.fit kept.0 kept.1;
        small = small_after sizes M s S r top.threads l top.small E next inside.ends.threads inside.inside.room ended threads pending;
      }

      stands : at_in next M ≡ rest
      stands = ap (λ (f : Name → Code). f M) code ∙ changed-same name_laws (at_in E) M l.rest ∙ same_rest

  goes : (failures : Failures) → ATryCloses (driver P own_sides 255) rule (nine_tries P (Some (driver P own_sides 255)) S rule failures None) → GoesOnAtTop P sizes M S rest (nine_tries P (Some (driver P own_sides 255)) S rule failures None)
  goes failures c =
      let l = entered_loop c.drops c.entered c.enters in
      let x = inside l.0 c.entered l.1 in
      let way : x.ends.way ≡ c.way = elim x.ends.is [
        | inl a ↦ same_reached x.ends.way c.way (sym a ∙ c.reached)
        | inr a ↦ absurd (never_both c.way x.ends.way x.ends.tries (sym c.reached ∙ a.0))
      ] in
      let closes = ap (λ (w : Way). close c.entered w.end) way ∙ c.closes in
      let kept : Kept S c.next = subst (TurnKeeps P S) c.is.2 ((all_keep P (Some (driver P own_sides 255)) (drivers_keep P own_sides 255) side_of F).nine S rule any_rule top.fit failures None) in
      record {
        step = c.is.0;
        items = c.is.1;
        next = c.next;
        is = c.is.2;
        top = at_top l.0 c.entered l.1 c.next closes kept;
        stands = stands l.0 c.entered l.1 c.next closes;
        said = words sizes l.1.body;
        says = l.1.says ∙ ap (λ k. words sizes l.1.body ++ words sizes k) (same_rest l.0 c.entered l.1);
        keeps = says_on l.0 c.entered l.1 c.next closes;
      }

  leaves : StaysAt P sizes M S rule → LeavesSome sizes M S
  leaves (refused drops why e) = absurd (never_refused drops why e)
  leaves (unserved h) = leaves_unsaid h
  leaves (left_over a turn at is none more) = leaves_over a turn at is none more
  leaves (loses r w why e reached c) = absurd (last_tries_close P F S rule r w why any_rule top.fit e reached c)

  goes_or_leaves : (failures : Failures) → GoesOnAtTop P sizes M S rest (nine_tries P (Some (driver P own_sides 255)) S rule failures None) ⊎ LeavesSome sizes M S
  goes_or_leaves failures =
      elim (nine_tries_go_or_stay P (driver P own_sides 255) S rule failures (comes P strict F sizes M S top.threads top.alone rule loop_rule roomy)) [
        | inl c ↦ inl (goes failures c)
        | inr x ↦ inr (leaves (stays_on P strict F sizes M S top.threads top.alone rule loop_rule roomy x.1))
      ]

pub premises_are_roomy : PremisesAreRoomy
premises_are_roomy P F sizes M S rest rule drops r top is e = by rule is e
  where
    by : (z : Rule) → IsLoopAt M F S rest z → z.enter drops ≡ Ok r → IsRoomy r.start
    by _ (at_for v s b at) e = premise_roomy sizes M s S r top.threads (fors_are_entered sizes M s S r drops top.threads e) top.small
    by _ (at_gather c xs v s b at) e = let l = gathers_are_entered sizes M S r drops top.threads e in premise_roomy sizes M l.0 S r top.threads l.1 top.small

pub loops_go_or_leave : LoopsGoOrLeave
loops_go_or_leave P strict F sizes M S rest rule failures top is = goes_or_leaves P strict F sizes M S rest rule top is failures
