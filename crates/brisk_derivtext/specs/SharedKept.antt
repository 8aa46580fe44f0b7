-- How the parts of a derivation are kept.
use Rattle.std.specs.Borrow.{Bor}
use Rattle.std.specs.Prelude.{List, map}
use Rattle.brisk_derivation.specs.declared.steps.Step as kept
use Rattle.brisk_derivation.specs.Seen.{step_of}
use Rattle.brisk_derivation.specs.Steps.{Step}
use Rattle.brisk_derivtext.specs.declared.sharing.Met as kept_met
use Rattle.brisk_derivtext.specs.Shared.{Met}

-- the steps that are borrowed
abbrev pub steps_at : List (Bor kept.Step) → List Step
steps_at = map (λ (p : Bor kept.Step). step_of p.now)

-- a step that was met
abbrev pub met_of : kept_met.Met → Met
met_of m = record { step = step_of m.step.now; again = m.again }
