-- Unfoldings in code and the definition's unfoldings.
use Rattle.std.proofs.Common.{◌≡◌, ℕ, List, Result, Err, refl, sym, ap, subst, ◌∙◌}
use Rattle.std.specs.Prelude.{IfErr}
use Rattle.std.specs.Result.{IsErrAnd}
use Rattle.std.proofs.lemmas.Result.{err_from_is_err_and}
use Rattle.brisk_seq.specs.declared.evaluator.Running.{Running}
use Rattle.brisk_seq.specs.declared.fault.SeqFault.{SeqFault}
use Rattle.brisk_seq.specs.declared.fault.SeqFault.TheVariants as fault
use Rattle.brisk_seq.proofs.Evaluating.{tells_by}
use Rattle.brisk_seq.specs.Running.{HasMade, Tells, run_of}
use Rattle.brisk_seq.specs.Sequential.{Stop}
use Rattle.brisk_basic.specs.Outcomes.{and_then}
use Rattle.brisk_rules.specs.Unfolding.{Unfolding, Unfolded}
use Rattle.brisk_unfold.specs.declared.progress.Progress.{Progress}
use Rattle.brisk_unfold.specs.Going.{Goes, Leads, Marks, Stops, shown, unfolding_of}

-- a fault that tells what stopped the one tells what stopped the other, where that stops alike
pub tells_alike : {X Y : Type 0} (d : Result X Stop) (e : Result Y Stop) → ((why : Stop) → d ≡ Err why → e ≡ Err why) → (f : SeqFault) → Tells d f → Tells e f
tells_alike d e alike fault.NoMemory t = t
tells_alike d e alike (fault.BadChoice k) t = alike _ t
tells_alike d e alike fault.ChoicesLeft t = alike _ t
tells_alike d e alike fault.Turns t = alike _ t
tells_alike d e alike (fault.BadBox k) t = (t.0, t.1, alike _ t.2)
tells_alike d e alike fault.BadInstance t = absurd t
tells_alike d e alike fault.TooLarge t = absurd t

-- what stopped an action stops what would follow
pub tells_then : {X Y : Type 0} (e : Result X Stop) (go : X → Result Y Stop) (f : SeqFault) → Tells e f → Tells (and_then e go) f
tells_then e go = tells_alike e (and_then e go) (λ why h. ap (λ d. and_then d go) h)

-- what a `?` passes on
pub told : {T : Type 0} (choices : List ℕ) (old : Progress) (action : Unfolding → Unfolded) (r : Result T SeqFault) (f : SeqFault) → IsErrAnd r (λ g. g ≡ f) → Stops choices old action f → IfErr r (λ g. Stops choices old action g)
told choices old action r f is stops =
    let p = err_from_is_err_and r is in
    subst (λ x. IfErr x (λ g. Stops choices old action g)) (sym p.1) (subst (λ g. Stops choices old action g) (sym p.2) stops)

module _ (choices : List ℕ) where
  pub leads_self : (a : Progress) (action : Unfolding → Unfolded) → Leads choices a a action action
  leads_self a action = λ n h. (n, h, refl)

  pub leads_by : (a b : Progress) (action rest other : Unfolding → Unfolded) → Leads choices a b action rest → ((n : ℕ) → rest (unfolding_of choices n b) ≡ other (unfolding_of choices n b)) → Leads choices a b action other
  leads_by a b action rest other leads same = λ n h. let l = leads n h in (l.0, l.1, l.2 ∙ same l.0)

  -- an action, and then the next
  pub leads_on : (a b c : Progress) (action act other : Unfolding → Unfolded) → Leads choices a b action (λ u. and_then (act u) other) → Goes choices b c act → Leads choices a c action other
  leads_on a b c action act other leads goes = λ n h.
      let l = leads n h in let g = goes l.0 l.1 in (g.0, g.1, l.2 ∙ ap (λ e. and_then e other) g.2)

  -- events and senders
  made : (a b : Progress) (f : Unfolding → Unfolding) → Marks a b f → (n : ℕ) → HasMade choices n a.run → HasMade choices n b.run
  made a b f m n h = subst (λ (r : Running). HasMade choices n r) (sym m.run) h

  marked : (a b : Progress) (f : Unfolding → Unfolding) → Marks a b f → (n : ℕ) → f (unfolding_of choices n a) ≡ unfolding_of choices n b
  marked a b f m n = sym (ap (λ (r : Running). shown b (run_of choices n r)) m.run ∙ m.differs (run_of choices n a.run))

  pub leads_marks : (a b c : Progress) (action other : Unfolding → Unfolded) (f : Unfolding → Unfolding) → Leads choices a b action (λ u. other (f u)) → Marks b c f → Leads choices a c action other
  leads_marks a b c action other f leads m = λ n h.
      let l = leads n h in (l.0, made b c f m l.0 l.1, l.2 ∙ ap other (marked b c f m l.0))

  pub goes_last : (a b c : Progress) (action rest : Unfolding → Unfolded) → Leads choices a b action rest → Goes choices b c rest → Goes choices a c action
  goes_last a b c action rest leads goes = λ n h.
      let l = leads n h in let g = goes l.0 l.1 in (g.0, g.1, l.2 ∙ g.2)

  pub stops_last : (a b : Progress) (action rest : Unfolding → Unfolded) (f : SeqFault) → Leads choices a b action rest → Stops choices b rest f → Stops choices a action f
  stops_last a b action rest f leads stops = λ n h. let l = leads n h in tells_by _ _ f l.2 (stops l.0 l.1)

  pub stops_on : (a b : Progress) (action act other : Unfolding → Unfolded) (f : SeqFault) → Leads choices a b action (λ u. and_then (act u) other) → Stops choices b act f → Stops choices a action f
  stops_on a b action act other f leads stops = λ n h.
      let l = leads n h in
      tells_by _ _ f l.2 (tells_then (act (unfolding_of choices l.0 b)) other f (stops l.0 l.1))
