-- Choices of an unfolding in code.
use Rattle.std.proofs.Common.{◌≡◌, ℕ, ◌+◌, ◌-◌, ◌<◌, ◌≤◌, List, [], ◌∷◌, Bool, true, false, Ok, Err, refl, ap, ◌∙◌, nat_eq}
use Rattle.std.specs.Prelude.{◌&&◌, if◌then◌else◌, nat_lt, not}
use Rattle.std.specs.List.{list_any}
use Rattle.std.proofs.lemmas.Bool.{eqb-true}
use Rattle.std.proofs.lemmas.Cmp.{nat_eq_equiv}
use Rattle.brisk_seq.specs.declared.evaluator.Running.{Running}
use Rattle.brisk_seq.specs.declared.fault.SeqFault.{SeqFault}
use Rattle.brisk_seq.specs.Running.{HasMade, run_of}
use Rattle.brisk_seq.specs.Running as seq
use Rattle.brisk_seq.specs.Sequential as spec
use Rattle.brisk_seq.specs.Sequential.{Ended, Run, Stop, choose}
use Rattle.brisk_basic.specs.Outcomes.{and_then}
use Rattle.brisk_rules.specs.Unfolding.{Unfolding, Unfolded, chooses, turns_any}
use Rattle.brisk_unfold.specs.declared.progress.Progress.{Progress}
use Rattle.brisk_unfold.specs.Going.{Goes, Leads, Marks, Stops, unfolding_of}
use Rattle.brisk_unfold.proofs.Looping.{less_one, none_left}
use Rattle.brisk_unfold.proofs.Leading.{leads_by, leads_marks, leads_on, stops_last, stops_on, tells_alike}

-- goes on where this member is chosen
abbrev pub picked : ℕ → ℕ → Run → Ended
picked k j r = if nat_eq j k then Ok r else Err spec.Turns

ran : {x y : Run} → ◌≡◌ {A = Ended} (Ok x) (Ok y) → x ≡ y
ran e = cc

stopped : {x y : Stop} → ◌≡◌ {A = Ended} (Err x) (Err y) → x ≡ y
stopped e = cc

module _ (size : ℕ) (us : List ℕ) (u : Unfolding) (go : ℕ → Unfolding → Unfolded) where
  -- the test of a choice, and what comes then
  if_chosen : (k j : ℕ) (next r : Run) (why : Stop) (fits : Bool) → ◌≡◌ {A = Ended} (if fits then picked k j next else Err why) (Ok r) →
      ◌≡◌ {A = Unfolded} (if fits then go j (record u { run = next }) else Err why) (go k (record u { run = r }))
  if_chosen k j next r why false e = cc
  if_chosen k j next r why true e =
      elim (nat_eq j k) as (λ z. nat_eq j k ≡ z → ◌≡◌ {A = Ended} (if z then Ok next else Err spec.Turns) (Ok r) → go j (record u { run = next }) ≡ go k (record u { run = r })) [
        | true ↦ λ is f i. go (eqb-true j k is i) (record u { run = ran f i })
        | false ↦ λ is f. cc
      ] refl e

  chose : (k : ℕ) (r : Run) (cs : List ℕ) → choose size us u.run cs (picked k) ≡ Ok r → chooses size us cs u go ≡ go k (record u { run = r })
  chose k r [] e = cc
  chose k r (j ∷ js) e = if_chosen k j (record u.run { choices = js; asked = u.run.asked + 1 }) r (spec.BadChoice (u.run.asked + 1)) (nat_lt j size && not (list_any (nat_eq j) us)) e

  if_refused : (j : ℕ) (next : Run) (why other : Stop) (fits : Bool) → ◌≡◌ {A = Ended} (if fits then Ok next else Err other) (Err why) →
      ◌≡◌ {A = Unfolded} (if fits then go j (record u { run = next }) else Err other) (Err why)
  if_refused j next why other true e = cc
  if_refused j next why other false e = ap (λ (w : Stop). Err w) (stopped e)

  refused : (why : Stop) (cs : List ℕ) → choose size us u.run cs (λ k r. Ok r) ≡ Err why → chooses size us cs u go ≡ Err why
  refused why [] e = ap (λ (w : Stop). Err w) (stopped e)
  refused why (j ∷ js) e = if_refused j (record u.run { choices = js; asked = u.run.asked + 1 }) why (spec.BadChoice (u.run.asked + 1)) (nat_lt j size && not (list_any (nat_eq j) us)) e

module _ (choices : List ℕ) (b : Progress) (size : ℕ) (us : List ℕ) where
  -- a choice in code is one of the unfolding
  pub choice_leads : (run : Running) (k : ℕ) (go : ℕ → Unfolding → Unfolded) →
      ((f : ℕ → Run → Ended) → seq.Leads choices b.run run (λ r. choose size us r r.choices f) (f k)) →
      Leads choices b (record b { run = run }) (λ u. chooses size us u.run.choices u go) (go k)
  choice_leads run k go leads = λ n h.
      let l = leads (picked k) n h in let u = unfolding_of choices n b in
      (l.0, l.1, chose size us u go k (run_of choices l.0 run) u.run.choices (l.2 ∙ ap (λ z. if z then Ok (run_of choices l.0 run) else Err spec.Turns) (nat_eq_equiv.refl k)))

  pub choice_stops : (go : ℕ → Unfolding → Unfolded) (f : SeqFault) → ((g : ℕ → Run → Ended) → seq.Stops choices b.run (λ r. choose size us r r.choices g) f) → Stops choices b (λ u. chooses size us u.run.choices u go) f
  choice_stops go f stops = λ n h.
      let u = unfolding_of choices n b in
      tells_alike (choose size us u.run u.run.choices (λ k r. Ok r)) (chooses size us u.run.choices u go) (λ why e. refused size us u go why u.run.choices e) f (stops (λ k r. Ok r) n h)

-- turns, each with a choice
module _ (choices : List ℕ) (a b : Progress) (size k : ℕ) (us : List ℕ) (move : Unfolding → Unfolding) (act : ℕ → Unfolding → Unfolded)
    (leads : Leads choices a b (turns_any size size [] move act) (turns_any (size - k) size us move act)) where
  abbrev after : ℕ → Unfolding → Unfolded
  after j v = and_then (act j (move v)) (turns_any (size - (k + 1)) size (j ∷ us) move act)

  at_choice : k < size → Leads choices a b (turns_any size size [] move act) (λ u. chooses size us u.run.choices u after)
  at_choice h =
      leads_by choices a b (turns_any size size [] move act) (turns_any (size - k) size us move act) (λ u. chooses size us u.run.choices u after) leads
      (λ n. ap (λ j. turns_any j size us move act (unfolding_of choices n b)) (less_one size k h))

  pub any_choice_stops : k < size → (f : SeqFault) → ((g : ℕ → Run → Ended) → seq.Stops choices b.run (λ r. choose size us r r.choices g) f) → Stops choices a (turns_any size size [] move act) f
  any_choice_stops h f stops =
      stops_last choices a b (turns_any size size [] move act) (λ u. chooses size us u.run.choices u after) f (at_choice h) (choice_stops choices b size us after f stops)

  module _ (h : k < size) (run : Running) (j : ℕ) (chosen : (f : ℕ → Run → Ended) → seq.Leads choices b.run run (λ r. choose size us r r.choices f) (f j))
      (c : Progress) (m : Marks (record b { run = run }) c move) where
    any_moved : Leads choices a c (turns_any size size [] move act) (λ u. and_then (act j u) (turns_any (size - (k + 1)) size (j ∷ us) move act))
    any_moved =
        leads_marks choices a (record b { run = run }) c (turns_any size size [] move act) (λ u. and_then (act j u) (turns_any (size - (k + 1)) size (j ∷ us) move act)) move
        (λ n x. let l = at_choice h n x in let g = choice_leads choices b size us run j after chosen l.0 l.1 in (g.0, g.1, l.2 ∙ g.2)) m

    pub any_goes : (d : Progress) → Goes choices c d (act j) → Leads choices a d (turns_any size size [] move act) (turns_any (size - (k + 1)) size (j ∷ us) move act)
    any_goes d goes = leads_on choices a c d (turns_any size size [] move act) (act j) (turns_any (size - (k + 1)) size (j ∷ us) move act) any_moved goes

    pub any_stops : (f : SeqFault) → Stops choices c (act j) f → Stops choices a (turns_any size size [] move act) f
    any_stops f stops = stops_on choices a c (turns_any size size [] move act) (act j) (turns_any (size - (k + 1)) size (j ∷ us) move act) f any_moved stops

  pub any_ends : (c : Progress) → size ≤ k → Marks b c move → Goes choices a c (turns_any size size [] move act)
  any_ends c h m =
      leads_marks choices a b c (turns_any size size [] move act) (λ u. Ok u) move
      (leads_by choices a b (turns_any size size [] move act) (turns_any (size - k) size us move act) (λ u. Ok (move u)) leads
      (λ n. ap (λ j. turns_any j size us move act (unfolding_of choices n b)) (none_left size k h))) m
