-- A walk by the steps of a report comes to the state to which the report's text refers.
use Rattle.std.proofs.Common.{◌≡◌, ℕ, [], map, refl, sym, ap, ◌∙◌, subst}
use Rattle.std.specs.Prelude.{Result, Ok, Err}
use Rattle.brisk_basic.specs.Outcomes.{and_then, told_as}
use Rattle.brisk_syntax.specs.declared.program.Program.{Program}
use Rattle.brisk_state.specs.Symbolic.{initial}
use Rattle.brisk_derivation.specs.declared.report.Report.{Report}
use Rattle.brisk_derivation.specs.Counts.{steps_among}
use Rattle.brisk_rules.specs.declared.why.Why.{Why}
use Rattle.brisk_rules.specs.Following.{nothing_follows}
use Rattle.brisk_rules.specs.Derives.{Derived, Failure, derive_all}
use Rattle.brisk_rules.proofs.Fulfilled.{same_ok}
use Rattle.brisk_loops.specs.Walk.{Open, Walked, Called, start, made_all, calls_of}
use Rattle.brisk_loops.specs.WalkKept.{kept, kept_all, kept_failure}
use Rattle.brisk_loops.specs.WalkSeen.{Tells}
use Rattle.brisk_loops.specs.declared.fault.AcceptFault.{AcceptFault}
use Rattle.brisk_loops.specs.declared.fault.AcceptFault.TheVariants.{Bad}
use Rattle.brisk_loops.proofs.Numbers.{made_all_kept}
use Rattle.brisk_loops.proofs.Walking.{Does, steps_follow}
use Rattle.brisk_report.specs.Printing.{report_text, text_at, text_of}

-- what calls give, with all numbers that are kept
abbrev told : Called → Called
told call =
    and_then (told_as kept_failure call) (λ w.
    Ok record w { entered = map (λ (o : Open). record o { counted = kept o.counted }) w.entered; applied = kept w.applied; counted = kept w.counted })

module _ (P : Program) (R : Report) (begun : Walked) (begins : begun ≡ start P) where
  -- the calls of its steps, from the start
  calls_from : kept_all (calls_of R.steps) begun ≡ told (made_all (calls_of R.steps) (start P))
  calls_from = ap (kept_all (calls_of R.steps)) begins ∙ made_all_kept (calls_of R.steps) (start P)

  pub leads : (w : Walked) → kept_all (calls_of R.steps) begun ≡ Ok w → report_text P R ≡ text_at P R w.state
  leads w e = by (derive_all P 0 nothing_follows R.steps 2 (initial P)) (steps_follow R.steps (start P))
    where
      by : (x : Result Derived Failure) → Does (start P) (steps_among R.steps) (made_all (calls_of R.steps) (start P)) x → text_of P R x ≡ text_at P R w.state
      by (Err failure) h = let z = sym e ∙ calls_from ∙ ap told h in cc
      by (Ok d) h = ap (λ (v : Walked). text_at P R v.state) (same_ok _ w (sym (sym e ∙ calls_from ∙ ap told h.2)))

  pub leads_nowhere : (f : AcceptFault) (at : ℕ) (why : Why) → f ≡ Bad at why → Tells (kept_all (calls_of R.steps) begun) f → report_text P R ≡ []
  leads_nowhere f at why is tells = by (derive_all P 0 nothing_follows R.steps 2 (initial P)) (steps_follow R.steps (start P))
    where
      by : (x : Result Derived Failure) → Does (start P) (steps_among R.steps) (made_all (calls_of R.steps) (start P)) x → text_of P R x ≡ []
      by (Err failure) h = refl
      by (Ok d) h = let z = sym (subst (Tells (kept_all (calls_of R.steps) begun)) is tells) ∙ calls_from ∙ ap told h.2 in cc
