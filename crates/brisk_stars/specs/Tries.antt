-- What the nine tries of a rule come to, where rules aren't counted.
use Rattle.std.specs.Prelude.{◌≡◌, ◌⊎◌, List, Some, None, Ok, Err}
use Rattle.brisk_syntax.specs.declared.program.Program.{Program}
use Rattle.brisk_seq.specs.Items.{Items}
use Rattle.brisk_state.specs.Symbolic.{Symbolic}
use Rattle.brisk_derivation.specs.declared.steps.Fact.{Fact}
use Rattle.brisk_derivation.specs.Reports.{Tries}
use Rattle.brisk_derivation.specs.Steps.{Step}
use Rattle.brisk_rules.specs.declared.why.Why.{Why}
use Rattle.brisk_rules.specs.Rules.{Entered, close}
use Rattle.brisk_search.specs.Turns.{Failures, Goes, Stays, Turn}
use Rattle.brisk_search.specs.Drives.{Driver, Reached, Stuck, Way, premise_of}
use Rattle.brisk_search.specs.Tries.{Rule, at_risk, nine_tries}

-- a try that closes: its premise was driven to its goal, and the close's tests hold there
pub record ATryCloses (driver : Driver) (rule : Rule) (turn : Turn) : Type 0 where
  pub drops : List Fact
  pub entered : Entered
  pub enters : rule.enter drops ≡ Ok entered
  pub way : Way
  pub reached : driver (rule.follows entered) (premise_of entered) entered.start None ≡ Reached way None
  pub next : Symbolic
  pub closes : close entered way.end ≡ Ok next
  pub is : (step : Step) × (items : Items) × (turn ≡ Goes step items next None)

-- why no try closes: one isn't entered; or its premise is stuck; or even the last, without all that may be lost, loses something
pub data NoTryCloses (P : Program) (driver : Driver) (S : Symbolic) (rule : Rule) : Type 0 where
  refused : (drops : List Fact) (why : Why) → rule.enter drops ≡ Err why → NoTryCloses P driver S rule
  stuck : (drops : List Fact) (r : Entered) (w : Way) (tries : Tries) → rule.enter drops ≡ Ok r → driver (rule.follows r) (premise_of r) r.start None ≡ Stuck w tries None → NoTryCloses P driver S rule
  loses : (r : Entered) (w : Way) (why : Why) → rule.enter (at_risk P S) ≡ Ok r → driver (rule.follows r) (premise_of r) r.start None ≡ Reached w None → close r w.end ≡ Err why → NoTryCloses P driver S rule

-- a driver comes to an end in each premise of the rule
abbrev pub ComesToEnds : Driver → Rule → Type 0
ComesToEnds driver rule =
    (drops : List Fact) (r : Entered) → rule.enter drops ≡ Ok r →
    ((w : Way) × (driver (rule.follows r) (premise_of r) r.start None ≡ Reached w None)) ⊎ ((w : Way) × (tries : Tries) × (driver (rule.follows r) (premise_of r) r.start None ≡ Stuck w tries None))

-- so the nine tries go by one that closes, or stay, and no try closes
abbrev pub NineTriesGoOrStay : Type 0
NineTriesGoOrStay =
    (P : Program) (driver : Driver) (S : Symbolic) (rule : Rule) (failures : Failures) → ComesToEnds driver rule →
    let turn = nine_tries P (Some driver) S rule failures None in
    ATryCloses driver rule turn ⊎ (((more : Failures) × (turn ≡ Stays more None)) × NoTryCloses P driver S rule)
