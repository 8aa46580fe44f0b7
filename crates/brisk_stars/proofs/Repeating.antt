-- The repeat after a gather stays.
use Rattle.std.proofs.Common.{◌≡◌, inl, inr, ℕ, zero, suc, length, Bool, true, false, List, [], ◌∷◌, Option, Some, None, refl, sym, ap, ◌∙◌, subst, arith, nat_eq}
use Rattle.std.specs.Prelude.{◌&&◌, ◌||◌, not, if◌then◌else◌, is_none, Ok, nat_lt}
use Rattle.std.specs.List.{list_any}
use Rattle.brisk_values.specs.Functions.{changed}
use Rattle.brisk_values.specs.Names.{Name, same_name}
use Rattle.brisk_values.proofs.Changes.{both_true, exact_name, name_laws, changed-same, both_hold}
use Rattle.brisk_syntax.specs.declared.program.Program.{Program}
use Rattle.brisk_syntax.specs.Syntax.{Code, RecvAny, Repeat, done, ◌⨾◌}
use Rattle.brisk_syntax.specs.WellTyped.{all_unbegun}
use Rattle.brisk_syntax.specs.Classes.{every, is_named, talks_to}
use Rattle.brisk_state.specs.declared.thread.Mode.{Mode}
use Rattle.brisk_state.specs.declared.thread.Mode.TheVariants.{One}
use Rattle.brisk_state.specs.Same.{same_code}
use Rattle.brisk_state.specs.Symbolic.{Symbolic, code_at, with_code}
use Rattle.brisk_derivation.specs.Reports.{Tries}
use Rattle.brisk_derivation.specs.declared.steps.Fact.{Fact}
use Rattle.brisk_rules.specs.Following.{Follow, follows_in}
use Rattle.brisk_sound.proofs.Strict.{IsStrict}
use Rattle.brisk_rules.specs.Rules as rules
use Rattle.brisk_rules.specs.Heads.{repeat_of}
use Rattle.brisk_rules.specs.Rules.{Entered, enter_pick, enter_repeat}
use Rattle.brisk_sound.proofs.Closing.{same_codes}
use Rattle.brisk_rules.proofs.Fulfilled.{at_head_ok, repeat_is, same_ok}
use Rattle.brisk_rules.proofs.Readings.{is_active}
use Rattle.brisk_rules.proofs.Threads.{codes, modes, names, codes_with_code, modes_with_code, names_with_code, moved}
use Rattle.brisk_rules.specs.Standing.{fault_aside, focus_of, has_code, owners_of}
use Rattle.brisk_search.specs.Turns.{Failures, Stays, first_of, stay, where_it_stays}
use Rattle.brisk_search.specs.Drives.{Reached, Stuck, Way, in_turn, must_end, or_others, premise_of, side_of}
use Rattle.brisk_search.specs.Tries.{nine_tries, pick_rule, repeat_rule}
use Rattle.brisk_search.specs.Advance.{Around, acts_for, actor, advance, at_code, passed_on, waits_for}
use Rattle.brisk_search.specs.Passes.{after_round, driver, here, round, rounds}
use Rattle.brisk_answered.proofs.Sides.{own_sides, advances}
use Rattle.brisk_answered.proofs.Fuel.{enough_is}
use Rattle.brisk_straight.proofs.Places.{stands_at}
use Rattle.brisk_straight.proofs.States.{left_in}
use Rattle.brisk_stars.specs.Picks.{RepeatsStay}
use Rattle.brisk_stars.specs.Searching.{IsAlone, IsRoomy}
use Rattle.brisk_stars.specs.Threads.{IsStarThreads, at_in}
use Rattle.brisk_stars.specs.Tries.{ComesToEnds}
use Rattle.brisk_stars.specs.Words.{runs_as_centre, serves}
use Rattle.brisk_stars.proofs.Basics.{star_with_centre}
use Rattle.brisk_stars.proofs.Nine.{nine_tries_go_or_stay}
use Rattle.brisk_stars.proofs.Picking.{pick_ends, picks_never_close}

never_both : (v w : Way) (t : Tries) → Reached v None ≡ Stuck w t None → ⊥
never_both v w t e = cc

module _ (P : Program) (strict : IsStrict P) (F : Follow) (sizes : Name → ℕ) (M : Name) (S : Symbolic) (st : IsStarThreads sizes M S) (alone : IsAlone M S) (c : Name) (xs : List Name) (v s : Name) (b rest : Code)
    (at : at_in S M ≡ RecvAny c xs v s b ⨾ rest) (roomy : (more : List Fact) (q : Entered) → enter_pick P S M more ≡ Ok q → IsRoomy q.start) where
  abbrev around : Around
  around = record { program = P; below = Some (driver P own_sides 254); side = side_of; follows = F }

  -- the nine tries of the pick stay
  pick_stays : (failures : Failures) → (more : Failures) × (nine_tries P (Some (driver P own_sides 254)) S (pick_rule P F S M) failures None ≡ Stays more None)
  pick_stays failures =
      let comes : ComesToEnds (driver P own_sides 254) (pick_rule P F S M) = λ drops q e. pick_ends P strict (follows_in S q F) sizes M 253 S drops q (omega arith) st alone e (roomy drops q e) in
      elim (nine_tries_go_or_stay P (driver P own_sides 254) S (pick_rule P F S M) failures comes) [
        | inl t ↦ absurd (picks_never_close P strict (follows_in S t.entered F) sizes M 253 S t.next t.drops t.entered t.way (omega arith) st alone t.enters (roomy t.drops t.entered t.enters) t.reached t.closes)
        | inr x ↦ x.0
      ]

  -- each turn stays
  turn_stays : (t : Name) (failures : Failures) → (more : Failures) × (advance around S t failures None ≡ Stays more None)
  turn_stays t failures =
      elim (same_name M t) as (λ z. same_name M t ≡ z → (more : Failures) × (advance around S t failures None ≡ Stays more None)) [
        | true ↦ λ same.
            let is = exact_name M t same in
            let here = stands_at S.threads M (ap is_active st.one) ∙ ap Some at in
            let x = pick_stays failures in
            subst (λ (z : Name). (more : Failures) × (advance around S z failures None ≡ Stays more None)) is (x.0, advances around S M (RecvAny c xs v s b) rest failures here refl ∙ x.1)
        | false ↦ λ other. no_code other (code_at S t) refl
      ] refl
    where
      no_code : same_name M t ≡ false → (o : Option Code) → code_at S t ≡ o → (more : Failures) × (advance around S t failures None ≡ Stays more None)
      no_code other None e = (failures, ap (λ a. acts_for around S a failures None) (nobody (length S.threads)))
        where
          nobody : (room : ℕ) → actor around room S [] t ≡ None
          nobody zero = refl
          nobody (suc room) = ap (λ o. at_code o (λ code. passed_on (actor around room S (t ∷ [])) [] t (waits_for around S t code))) e
      no_code other (Some k) e = absurd (alone t k other e)

  turns_stay : (ts : List Name) (failures : Failures) → (more : Failures) × (first_of (advance around S) ts failures None ≡ Stays more None)
  turns_stay [] failures = (failures, refl)
  turns_stay (t ∷ ts) failures =
      let x = turn_stays t failures in
      let y = turns_stay ts x.0 in
      (y.0, ap (where_it_stays (first_of (advance around S) ts)) x.1 ∙ y.1)

  -- so a drive with the centre as owner is stuck
  stuck_at_once : (r : Entered) → owners_of r ≡ M ∷ [] → (m : ℕ) → (tries : Tries) × (rounds around (premise_of r) (suc m) S None ≡ Stuck (here S) tries None)
  stuck_at_once r owned m =
      let d = premise_of r in
      let x = turns_stay (in_turn d S) [] in
      let busy : not (list_any (has_code S) (must_end r)) ≡ false =
      ap (λ os. not (list_any (has_code S) (or_others os (focus_of (rules.looks r.kind))))) owned ∙ ap (λ k. not (not (same_code k done) || false)) at ∙ busy_code (same_code (RecvAny c xs v s b ⨾ rest) done) refl in (
        _,
        ap (λ g. if g then Reached (here S) None else after_round (rounds around d m) S (round around d S [] None)) (ap (λ z. z && is_none (fault_aside r S)) busy)
            ∙ ap (after_round (rounds around d m) S) (ap (where_it_stays stay) x.1),
      )
    where
      busy_code : (z : Bool) → same_code (RecvAny c xs v s b ⨾ rest) done ≡ z → not (not z || false) ≡ false
      busy_code false e = refl
      busy_code true e = absurd (let is = same_codes (RecvAny c xs v s b ⨾ rest) done e in cc)

same_body : (s r : Name) (b d rest more : Code) → Repeat s 0 b ⨾ rest ≡ Repeat r 0 d ⨾ more → d ≡ b
same_body s r b d rest more e = cc

module _ (P : Program) (strict : IsStrict P) (F : Follow) (sizes : Name → ℕ) (M : Name) (S : Symbolic) (st : IsStarThreads sizes M S) (alone : IsAlone M S) (c : Name) (xs : List Name) (v s : Name) (b rest : Code)
    (at : at_in S M ≡ Repeat s 0 (RecvAny c xs v s b ⨾ done) ⨾ rest)
    (roomy : (drops more : List Fact) (r q : Entered) → enter_repeat S M drops ≡ Ok r → enter_pick P r.start M more ≡ Ok q → IsRoomy q.start) where
  abbrev body : Code
  body = RecvAny c xs v s b ⨾ done

  is_stuck : (drops : List Fact) (r : Entered) → enter_repeat S M drops ≡ Ok r → (w : Way) × (tries : Tries) × (driver P own_sides 255 (follows_in S r F) (premise_of r) r.start None ≡ Stuck w tries None)
  is_stuck drops r e =
      let y = at_head_ok S M repeat_of _ r e in
      let l = y.0 in
      let is : _ ≡ r = same_ok _ r y.4 in
      let its : l.body ≡ body = same_body s l.set body l.body rest l.rest (sym at ∙ y.2.stands ∙ repeat_is y.1 l y.3) in
      let threads : r.start.threads ≡ with_code M body S.threads = ap (λ (z : Entered). z.start.threads) (sym is) ∙ ap (λ k. with_code M k S.threads) its in
      let code : at_in r.start ≡ changed same_name (at_in S) M body = ap codes threads ∙ codes_with_code M body S.threads One st.one in
      let mode : modes r.start.threads ≡ modes S.threads = ap modes threads ∙ modes_with_code M body S.threads in
      let runs = both_true (same_name s s && serves sizes M v s b) (runs_as_centre sizes M rest) (ap (runs_as_centre sizes M) (sym at) ∙ st.centre) in
      let serving = (both_true (same_name s s) (serves sizes M v s b) runs.0).1 in
      let some = (both_true (nat_lt 0 (sizes s)) (every (talks_to (is_named v)) b) (both_true (not (same_name M s)) (nat_lt 0 (sizes s) && every (talks_to (is_named v)) b) serving).1).0 in
      let fresh = both_true (nat_eq 0 0 && (all_unbegun b && true)) (all_unbegun rest) (ap all_unbegun (sym at) ∙ st.unbegun) in
      let star = star_with_centre sizes M S st r.start body code mode (ap names threads ∙ names_with_code M body S.threads)
      (both_hold (serves sizes M v s b && nat_lt 0 (sizes s)) true (both_hold (serves sizes M v s b) (nat_lt 0 (sizes s)) serving some) refl)
      (both_true (nat_eq 0 0) (all_unbegun b && true) fresh.0).1 in
      let still : IsAlone M r.start = λ u k far here. let m = moved r.start.threads u k here in alone u (codes S.threads u) far (stands_at S.threads u (ap (λ (f : Name → Option Mode). is_active (f u)) (sym mode) ∙ m.active)) in
      let there : at_in r.start M ≡ body = ap (λ (f : Name → Code). f M) code ∙ changed-same name_laws (at_in S) M body in
      let owned : owners_of r ≡ M ∷ [] = ap (λ (z : Entered). owners_of z) (sym is) in
      let V : Follow = follows_in S r F in
      let x = stuck_at_once P strict V sizes M r.start star still c xs v s b done there (λ more q f. roomy drops more r q e f) r owned (left_in r.start.threads) in
      (here r.start, x.0, ap (λ k. rounds record { program = P; below = Some (driver P own_sides 254); side = side_of; follows = V } (premise_of r) k r.start None) (enough_is r.start star.apart) ∙ x.1)

  pub stays : (failures : Failures) → (more : Failures) × (nine_tries P (Some (driver P own_sides 255)) S (repeat_rule F S M) failures None ≡ Stays more None)
  stays failures =
      elim (nine_tries_go_or_stay P (driver P own_sides 255) S (repeat_rule F S M) failures (λ drops r e. inr (is_stuck drops r e))) [
        | inl t ↦ absurd (let x = is_stuck t.drops t.entered t.enters in never_both t.way x.0 x.1 (sym t.reached ∙ x.2))
        | inr x ↦ x.0
      ]

pub repeats_stay : RepeatsStay
repeats_stay P strict F sizes M S c xs v s b rest failures st alone at roomy = stays P strict F sizes M S st alone c xs v s b rest at roomy failures
