-- What the centre does at the top, at a loop over a set.
use Rattle.std.proofs.Common.{◌≡◌, ◌≢◌, inl, inr, ℕ, true, List, [], ◌∷◌, None, refl, sym, ap, ◌∙◌, subst}
use Rattle.std.specs.Prelude.{Ok, is_none, if◌then◌else◌}
use Rattle.brisk_values.specs.declared.value.Pid.{Pid}
use Rattle.brisk_values.specs.Names.{Name, same_name, single}
use Rattle.brisk_syntax.specs.declared.program.Program.{Program}
use Rattle.brisk_syntax.specs.Syntax.{Code, done, ◌⨾◌}
use Rattle.brisk_state.specs.Symbolic.{Symbolic, numbers_at}
use Rattle.brisk_derivation.specs.declared.steps.Fact.{Fact}
use Rattle.brisk_derivation.specs.Reports.{Tries}
use Rattle.brisk_rules.specs.Following.{Follow}
use Rattle.brisk_sound.proofs.Strict.{IsStrict}
use Rattle.brisk_rules.specs.Rules as rules
use Rattle.brisk_rules.specs.Rules.{Entered, first_fault}
use Rattle.brisk_search.specs.Turns.{Turn}
use Rattle.brisk_search.specs.Drives.{Reached, Stuck, Way, premise_of}
use Rattle.brisk_search.specs.Passes.{driver}
use Rattle.brisk_search.specs.Tries.{Rule}
use Rattle.brisk_answered.proofs.Sides.{own_sides}
use Rattle.brisk_stars.specs.Searching.{IsAlone, IsRoomy, PremiseEnds}
use Rattle.brisk_stars.specs.Serving.{Member, Served, Word, followed, serve, settled}
use Rattle.brisk_stars.specs.Runs.{nobody}
use Rattle.brisk_stars.specs.Threads.{IsCentresLoop, IsStarThreads, at_in, member_by, members_by, served_at}
use Rattle.brisk_stars.specs.Tops.{GoesOn, IsLoopRule, a_for, a_gather, LoopsGoOrStay, StaysAt, one_turn}
use Rattle.brisk_stars.specs.Tops as tops
use Rattle.brisk_stars.specs.Tries.{ATryCloses, ComesToEnds, NoTryCloses, refused, stuck, loses}
use Rattle.brisk_stars.specs.Words.{words}
use Rattle.brisk_stars.proofs.Loops.{closes_keep_serving, for_tests, fors_are_entered, gather_parts, gathers_are_entered, premises_say_a_turn, turn_is}
use Rattle.brisk_stars.proofs.Quietly.{nothing_is_left_over}
use Rattle.brisk_stars.proofs.Nine.{nine_tries_go_or_stay}
use Rattle.brisk_stars.proofs.Premises.{premises_end}

pub same_reached : (v w : Way) → Reached v None ≡ Reached w None → v ≡ w
same_reached v w e = cc

same_stuck : (v w : Way) (t u : Tries) → Stuck v t None ≡ Stuck w u None → v ≡ w
same_stuck v w t u e = cc

pub never_both : (v w : Way) (t : Tries) → Reached v None ≡ Stuck w t None → ⊥
never_both v w t e = cc

-- what is left unsaid is left
still_left : (words : List Word) (more : List Word) (m : Pid → Member) → words ≢ [] → (followed words more m).left ≢ []
still_left [] more m h e = h refl
still_left (w ∷ words) more m h e = cc

module _ (P : Program) (strict : IsStrict P) (F : Follow) (sizes : Name → ℕ) (M : Name) (S : Symbolic) (st : IsStarThreads sizes M S) (alone : IsAlone M S) (rule : Rule) (is : IsLoopRule M F S rule)
    (roomy : (drops : List Fact) (r : Entered) → rule.enter drops ≡ Ok r → IsRoomy r.start) where
  the_loop : (drops : List Fact) (r : Entered) → rule.enter drops ≡ Ok r → (s : Name) × IsCentresLoop sizes M s S r
  the_loop drops r e = by rule is e
    where
      by : (rule : Rule) → IsLoopRule M F S rule → rule.enter drops ≡ Ok r → (s : Name) × IsCentresLoop sizes M s S r
      by _ (a_for s) e = (s, fors_are_entered sizes M s S r drops st e)
      by _ a_gather e = gathers_are_entered sizes M S r drops st e

  ends : (drops : List Fact) (r : Entered) → rule.enter drops ≡ Ok r → PremiseEnds P sizes M 255 (rule.follows r) r
  ends drops r e = let l = the_loop drops r e in premises_end P strict (rule.follows r) sizes M l.0 S r st alone l.1 (roomy drops r e)

  pub comes : ComesToEnds (driver P own_sides 255) rule
  comes drops r e =
      let x = ends drops r e in
      elim x.is [
        | inl a ↦ inl (x.way, a)
        | inr a ↦ inr (x.way, x.tries, a.0)
      ]

  -- where a turn's words aren't all said, some are left
  unsaid : (s : Name) (r : Entered) → IsCentresLoop sizes M s S r → (served_at sizes M r.start).left ≢ [] → (served_at sizes M S).left ≢ []
  unsaid s r l h e =
      let t = served_at sizes M r.start in
      still_left t.left (words sizes l.rest) t.members h (sym (ap (λ (z : Served). z.left) (premises_say_a_turn sizes M s S r st l).1) ∙ e)

  closes_on : {turn : Turn} → ATryCloses (driver P own_sides 255) rule turn → GoesOn sizes M S turn
  closes_on c =
      let l = the_loop c.drops c.entered c.enters in
      let x = ends c.drops c.entered c.enters in
      let way : x.way ≡ c.way = elim x.is [
        | inl a ↦ same_reached x.way c.way (sym a ∙ c.reached)
        | inr a ↦ absurd (never_both c.way x.way x.tries (sym c.reached ∙ a.0))
      ] in
      let keeps = closes_keep_serving sizes M l.0 S c.way.end c.next c.entered st l.1 (subst (λ (w : Way). IsStarThreads sizes M w.end) way x.threads) (ap (λ (w : Way). served_at sizes M w.end) (sym way) ∙ x.served) c.closes in
      record { next = c.next; is = c.is; threads = keeps.0; served = keeps.1 }

  -- where the body is said and the drive stuck, a last test fails
  last_fails : (r : Entered) (x : PremiseEnds P sizes M 255 (rule.follows r) r) (w : Way) (t : Tries) → driver P own_sides 255 (rule.follows r) (premise_of r) r.start None ≡ Stuck w t None → at_in x.way.end M ≡ done → first_fault ((rules.last_tests r.kind x.way.end)) ≡ None → ⊥
  last_fails r x w t is_stuck at none =
      elim x.is [
        | inl a ↦ never_both x.way w t (sym a ∙ is_stuck)
        | inr a ↦ let goal = x.goal at ∙ ap is_none none in let both = sym goal ∙ a.1 in cc
      ]

  pub stays_on : NoTryCloses P (driver P own_sides 255) S rule → StaysAt P sizes M S rule
  stays_on (refused drops why e) = tops.refused drops why e
  stays_on (loses r w why e reached c) = tops.loses r w why e reached c
  stays_on (stuck drops r w tries e is_stuck) = by (at_in (ends drops r e).way.end M) refl
    where
      over : (z : Rule) → IsLoopRule M F S z → z.enter drops ≡ Ok r → at_in (ends drops r e).way.end M ≡ done → StaysAt P sizes M S rule
      over _ (a_for s) f at = absurd (last_fails r (ends drops r e) w tries is_stuck at (ap first_fault (for_tests S M s r drops f (ends drops r e).way.end)))
      over _ a_gather f at =
          let y = ends drops r e in
          let g = gather_parts sizes M S r drops st f in
          let a = g.gather in
          let E = y.way.end in
          let turn = served_at sizes M r.start in
          let is : serve (one_turn a) (members_by M (at_in S) (numbers_at S.pending)) ≡ turn = ap (λ ws. serve ws (members_by M (at_in S) (numbers_at S.pending))) (sym g.turn) ∙ sym (turn_is sizes M a.set S r st g.loop) in
          let other : same_name M a.set ≢ true = λ same. (let both = sym g.loop.other ∙ same in cc) in
          let members = members_by M (at_in E) (numbers_at E.pending) in
          let at_end : served_at sizes M E ≡ record { left = []; members = λ k. settled (members k) } = ap (λ k. serve (words sizes k) members) at in
          let member : (turn.members (single a.set)).up a.channel ≡ (settled (member_by M (at_in E) (numbers_at E.pending) a.set)).up a.channel =
          ap (λ (t : Served). (t.members (single a.set)).up a.channel) (sym y.served ∙ at_end)
          ∙ ap (λ b. (settled (if b then nobody else member_by M (at_in E) (numbers_at E.pending) a.set)).up a.channel) g.loop.other in
          tops.left_over a turn g.head is (y.body.0 at)
          (λ zero_is. last_fails r y w tries is_stuck at (ap first_fault (g.tests E) ∙ (nothing_is_left_over sizes M E a y.threads other).1 (sym member ∙ zero_is)))

      by : (c : Code) → at_in (ends drops r e).way.end M ≡ c → StaysAt P sizes M S rule
      by done at = over rule is e at
      by (y ⨾ k) at = let l = the_loop drops r e in tops.unserved (unsaid l.0 r l.1 (λ none. let is_done = (ends drops r e).body.1 none in let both = sym at ∙ is_done in cc))

pub loops_go_or_stay : LoopsGoOrStay
loops_go_or_stay P strict F sizes M S rule failures st alone is roomy =
    elim (nine_tries_go_or_stay P (driver P own_sides 255) S rule failures (comes P strict F sizes M S st alone rule is roomy)) [
      | inl c ↦ inl (closes_on P strict F sizes M S st alone rule is roomy c)
      | inr x ↦ inr (x.0, stays_on P strict F sizes M S st alone rule is roomy x.1)
    ]
