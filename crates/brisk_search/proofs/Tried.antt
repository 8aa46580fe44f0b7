-- One try of a rule on a walk, as the code makes it: entered, driven, and closed or given up.
use Rattle.std.proofs.Common.{◌≡◌, ℕ, suc, ◌+◌, ◌≤◌, Option, Some, List, ◌∷◌, length, refl, sym, ap, ◌∙◌, subst, arith}
use Rattle.std.specs.Prelude.{Ok}
use Rattle.brisk_derivation.specs.declared.steps.Fact.{Fact}
use Rattle.brisk_derivation.specs.Reports.{Tries, TryEnd, Tried as tried}
use Rattle.brisk_derivation.specs.Steps.{Step, Steps, no_steps}
use Rattle.brisk_loops.specs.LeaveSeen.{Closes}
use Rattle.brisk_loops.specs.Walk.{Premise as in_premise, Open, Walked, back, enter, follows, inside, opened, premise_at, premise_in}
use Rattle.brisk_loops.specs.WalkKept.{capped}
use Rattle.brisk_loops.specs.WalkSeen.{Gives, refused_by}
use Rattle.brisk_rules.specs.declared.why.Why.{Why}
use Rattle.brisk_rules.specs.Rules.{Entered}
use Rattle.brisk_state.specs.Symbolic.{Symbolic}
use Rattle.brisk_search.specs.declared.closing.Premise.{Premise}
use Rattle.brisk_search.specs.declared.compound.Compound.{Compound}
use Rattle.brisk_search.specs.declared.drive.Drive.{Drive as Asked}
use Rattle.brisk_search.specs.declared.drive.Drive.TheVariants as asked
use Rattle.brisk_search.specs.declared.limits.Pass.{Pass}
use Rattle.brisk_search.specs.declared.turn.Came.{Came}
use Rattle.brisk_search.specs.declared.turn.Driven.{Driven}
use Rattle.brisk_search.specs.declared.turn.Driven.TheVariants as drive
use Rattle.brisk_search.specs.declared.turn.Turn.TheVariants as turn
use Rattle.brisk_search.specs.Met.{Alike, CameBy, MeetsDrive, MeetsTry, MeetsTurn, drive_at, try_at}
use Rattle.brisk_search.specs.Tries.{end_of}
use Rattle.brisk_search.specs.Turns as turns
use Rattle.brisk_search.specs.Turns.{Failures, Attempt}
use Rattle.brisk_search.specs.Views.{Fits, IsDriveOf, IsPremiseOf, IsWithin, failures_told, left_of, rule_seen, with_premise}
use Rattle.brisk_search.proofs.Meeting.{alike_self, within_kept}
use Rattle.brisk_search.proofs.Premises.{innermost_at}
use Rattle.brisk_search.proofs.Trial.{drive_closed, drive_spent, drive_stuck, premise_there, try_entered, try_refused}

-- it is driven in a premise
drives : (around : ℕ) (drops : List Fact) (r : Entered) (a : Asked) → IsDriveOf around drops r a → (p : Premise) × (a ≡ asked.Premise p) × (p.around ≡ around) × (p.drops ≡ drops) × Closes p.closing r
drives around drops r asked.Top h = absurd h
drives around drops r (asked.Side t rest) h = absurd h
drives around drops r (asked.Premise p) h = (p, refl, h.0, h.1, h.2)

module _ (budget : Option ℕ) (pass : Pass) (room : ℕ) (c : Compound) (drops : List Fact) (fs : Failures) (w : Walked) (within : IsWithin budget w.applied) (deep : length w.entered + (room + 1) ≤ 256) (A : Step) (step : A ≡ (rule_seen w.program (follows w.entered) w.state c).step drops no_steps) where
  -- it is refused at once
  pub one_refused : (v : Walked) (why : Why) (gs : Failures) → v ≡ w → refused_by (enter w A) ≡ Some why → gs ≡ failures_told c.at A why fs → (again : Entered → Symbolic → Attempt) → MeetsTurn budget (try_at budget pass room c drops fs w again) turn.Stays gs w v
  one_refused v why gs same refuses told again = (
    subst (λ (z : Walked). Alike budget w z) (sym same) (alike_self budget w within),
    try_refused budget pass room c drops fs w within deep why (ap (λ B. refused_by (enter w B)) (sym step) ∙ refuses) again
        ∙ (λ i. turns.Stays (failures_told c.at (sym step i) why fs) (left_of budget w.applied)) ∙ (λ i. turns.Stays (sym told i) (left_of budget (sym same i).applied)),
  )

  module _ (v : Walked) (gives : Gives (enter w A) v) (around : ℕ) (depth : around ≡ length w.entered) (a : Asked) (asks : (r : Entered) → premise_at v.entered around ≡ Some r → IsDriveOf around drops r a) where
    entry : (r : Entered) × ((rule_seen w.program (follows w.entered) w.state c).enter drops ≡ Ok r) × (v ≡ capped (inside w ((rule_seen w.program (follows w.entered) w.state c).step drops no_steps) (in_premise r)))
    entry = try_entered budget pass room c drops fs w within deep v (subst (λ B. Gives (enter w B) v) step gives)

    abbrev r : Entered
    r = entry.0

    abbrev B : Step
    B = (rule_seen w.program (follows w.entered) w.state c).step drops no_steps

    abbrev v' : Walked
    v' = capped (inside w B (in_premise r))

    at_premise : premise_at v.entered around ≡ Some r
    at_premise = (λ i. premise_at (entry.2 i).entered (depth i)) ∙ ap premise_in (innermost_at (opened w B (in_premise r)) w.entered)

    driving : (p : Premise) × (a ≡ asked.Premise p) × (p.around ≡ around) × (p.drops ≡ drops) × Closes p.closing r
    driving = drives around drops r a (asks r at_premise)

    there : IsPremiseOf r driving.0 v'.entered
    there = premise_there budget pass room c drops fs w within deep r entry.1 driving.0 (driving.2 ∙ depth) driving.3 driving.4

    pub try_ready : Fits a v.entered × (length v.entered + room ≤ 256) × IsWithin budget v.applied
    try_ready =
        let less : suc (length w.entered) + room ≤ 256 = omega (arith, deep) in
        subst (λ (z : Asked × Walked). Fits z.0 z.1.entered × (length z.1.entered + room ≤ 256) × IsWithin budget z.1.applied) (λ i. (sym driving.1 i, sym entry.2 i)) ((r, there), less, within_kept budget w.applied within)

    -- what the drive comes to, from where the rule was entered
    met : (u : Walked) (d : Driven) → MeetsDrive budget (drive_at budget pass room a v) d v u → MeetsDrive budget (drive_at budget pass room (asked.Premise driving.0) v') d v' u
    met u d m = subst (λ (z : Asked × Walked). MeetsDrive budget (drive_at budget pass room z.0 z.1) d z.1 u) (λ i. (driving.1 i, entry.2 i)) m

    module _ (u : Walked) where
      pub try_spent : MeetsDrive budget (drive_at budget pass room a v) drive.Spent v u → (again : Entered → Symbolic → Attempt) → MeetsTurn budget (try_at budget pass room c drops fs w again) turn.Spent fs w u
      try_spent m again = drive_spent budget pass room c drops fs w within deep r entry.1 u driving.0 there (met u drive.Spent m) again

      module _ (D : Steps) where
        pub try_closes : (came : Came) (x : Walked) → MeetsDrive budget (drive_at budget pass room a v) (drive.Reached D) v u →
            ((p : Premise) (q : Entered) → a ≡ asked.Premise p → IsPremiseOf q p u.entered → CameBy budget q p.drops came (with_premise A D) u x) → MeetsTry budget w.program drops (try_at budget pass room c drops fs w) came fs w x
        try_closes came x m k =
            let (X, adds, reached) = met u (drive.Reached D) m in
            drive_closed budget pass room c drops fs w within deep r entry.1 u D X adds came x driving.0 there driving.3 reached
            (subst (λ S. CameBy budget r driving.0.drops came (with_premise S D) u x) step (k driving.0 r driving.1 (subst (λ (os : List Open). IsPremiseOf r driving.0 os) (sym adds.0.1) there)))

        pub try_stuck : (tries : Tries) (x : Walked) (end : TryEnd) (s : Step) → MeetsDrive budget (drive_at budget pass room a v) (drive.Stuck D tries) v u →
            ((p : Premise) (q : Entered) → a ≡ asked.Premise p → IsPremiseOf q p u.entered → end ≡ end_of q u.state tries) → s ≡ with_premise A D → x ≡ back u → (again : Entered → Symbolic → Attempt) →
            MeetsTurn budget (try_at budget pass room c drops fs w again) turn.Stays ((c.at, tried s end) ∷ fs) w x
        try_stuck tries x end s m ends is same again =
            let (X, adds, stuck) = met u (drive.Stuck D tries) m in
            drive_stuck budget pass room c drops fs w within deep r entry.1 u D X adds x driving.0 tries end s there stuck
            (ends driving.0 r driving.1 (subst (λ (os : List Open). IsPremiseOf r driving.0 os) (sym adds.0.1) there)) (is ∙ ap (λ S. with_premise S D) step) same again
