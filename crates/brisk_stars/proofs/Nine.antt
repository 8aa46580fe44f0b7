-- What the nine tries of a rule come to.
use Rattle.std.proofs.Common.{◌≡◌, ◌⊎◌, inl, inr, ℕ, zero, suc, List, [], Some, None, refl, sym, ap, subst}
use Rattle.std.specs.Prelude.{Ok, Err}
use Rattle.brisk_syntax.specs.declared.program.Program.{Program}
use Rattle.brisk_seq.specs.Items.{nothing, ◌⨟◌}
use Rattle.brisk_state.specs.Symbolic.{Symbolic}
use Rattle.brisk_derivation.specs.declared.steps.Fact.{Fact}
use Rattle.brisk_derivation.specs.Steps.{no_steps}
use Rattle.brisk_rules.specs.Rules as rules
use Rattle.brisk_rules.specs.declared.why.Why.{Why}
use Rattle.brisk_rules.specs.declared.why.Why.TheVariants.{Rule as BasicFault, Side}
use Rattle.brisk_rules.specs.Rules.{Entered, Outcome, close}
use Rattle.brisk_search.specs.Turns.{Attempt, Failures, Stays, Turn, stay}
use Rattle.brisk_search.specs.Drives.{Driver, Reached, Way, premise_of}
use Rattle.brisk_search.specs.Tries.{Rule, at_risk, closed, driven, end_of, entered, nine_tries, once, tries, with_lost}
use Rattle.brisk_search.specs.Tries as search
use Rattle.brisk_stars.specs.Tries.{ATryCloses, ComesToEnds, NineTriesGoOrStay, NoTryCloses, refused, stuck, loses}

module _ (P : Program) (driver : Driver) (S : Symbolic) (rule : Rule) (comes : ComesToEnds driver rule) where
  abbrev Comes : Turn → Type 0
  Comes turn = ATryCloses driver rule turn ⊎ (((more : Failures) × (turn ≡ Stays more None)) × NoTryCloses P driver S rule)

  refused_stays : (drops : List Fact) (why : Why) (failures : Failures) → (more : Failures) × (search.refused rule.at (rule.step drops no_steps) why failures None ≡ Stays more None)
  refused_stays drops (Side why) failures = (_, refl)
  refused_stays drops (BasicFault why) failures = (_, refl)

  -- one try, where what comes after it comes to an end
  one : (again : Entered → Symbolic → Attempt) (drops : List Fact) (failures : Failures) →
      ((r : Entered) (w : Way) (why : Why) → rule.enter drops ≡ Ok r → driver (rule.follows r) (premise_of r) r.start None ≡ Reached w None → close r w.end ≡ Err why → Comes (again r w.end failures None)) →
      Comes (once (Some driver) again rule drops failures None)
  one again drops failures later = by (rule.enter drops) refl
    where
      by : (o : Outcome Entered) → rule.enter drops ≡ o →
          Comes (entered (Some driver) o (λ why. search.refused rule.at (rule.step drops no_steps) why failures None) (λ driver r. driven again rule drops r (driver (rule.follows r) (premise_of r) r.start None) failures))
      by (Err why) e = inr (refused_stays drops why failures, refused drops why e)
      by (Ok r) e =
          elim (comes drops r e) [
            | inl x ↦
                let at = ap (λ o. driven again rule drops r o failures) x.1 in
                subst Comes (sym at) (close_it r x.0 e x.1 (close r x.0.end) refl)
            | inr x ↦
                let at = ap (λ o. driven again rule drops r o failures) x.2 in
                subst Comes (sym at) (inr ((_, refl), stuck drops r x.0 x.1 e x.2))
          ]
        where
          close_it : (r : Entered) (w : Way) → rule.enter drops ≡ Ok r → driver (rule.follows r) (premise_of r) r.start None ≡ Reached w None → (o : Outcome Symbolic) → close r w.end ≡ o →
              Comes (closed (again r w.end) (rule.step drops w.steps) (rules.around r.kind w.items ⨟ nothing) o failures None)
          close_it r w e reached (Ok next) c = inl record { drops = drops; entered = r; enters = e; way = w; reached = reached; next = next; closes = c; is = (_, _, refl) }
          close_it r w e reached (Err why) c = later r w why e reached c

  all_tries : (n : ℕ) (drops : List Fact) (failures : Failures) → Comes (tries P (Some driver) S rule n drops failures None)
  all_tries zero drops failures = one (λ r E. stay) (at_risk P S) failures (λ r w why e reached c. inr ((failures, refl), loses r w why e reached c))
  all_tries (suc n) drops failures = one (λ r E. tries P (Some driver) S rule n (with_lost P r E drops)) drops failures (λ r w why e reached c. all_tries n (with_lost P r w.end drops) failures)

pub nine_tries_go_or_stay : NineTriesGoOrStay
nine_tries_go_or_stay P driver S rule failures comes = all_tries P driver S rule comes 8 [] failures
