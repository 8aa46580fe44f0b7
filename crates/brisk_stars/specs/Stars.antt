-- Stars are never refused emptily.
use Rattle.std.specs.Prelude.{◌≡◌, ◌⊎◌, ℕ, None}
use Rattle.brisk_syntax.specs.declared.program.Program.{Program}
use Rattle.brisk_syntax.specs.Roles.{RoleText}
use Rattle.brisk_seq.specs.declared.tree.SeqProgram.{SeqProgram}
use Rattle.brisk_derivation.specs.declared.report.Report.{Report}
use Rattle.brisk_derivation.specs.Reports.{Tries}
use Rattle.brisk_derivation.specs.Steps.{Steps}
use Rattle.brisk_search.specs.Drives as drive
use Rattle.brisk_search.specs.Drives.{Way}
use Rattle.brisk_search.specs.Passes.{first_pass}
use Rattle.brisk_search.specs.Searched.{Sequenced, Stuck, searched}
use Rattle.brisk_stars.specs.Overtaking.{IsLeftOver}
use Rattle.brisk_stars.specs.Runs.{IsUnserved, served_in}
use Rattle.brisk_stars.specs.Sources.{IsCentre, IsStarSource, PlainRunDeadlocks, PlainRunOvertakes, plain_start}

-- how pass one ends on a star: it reaches the end; or it is stuck, and the star is left unserved at its start, or something is left over
pub data PassEnds (P : Program) (r : RoleText) : Type 0 where
  reached : (w : Way) → first_pass P None ≡ drive.Reached w None → PassEnds P r
  unserved : (w : Way) (tries : Tries) → first_pass P None ≡ drive.Stuck w tries None → IsUnserved (served_in r.name (plain_start P 1)) → PassEnds P r
  left_over : (w : Way) (tries : Tries) → first_pass P None ≡ drive.Stuck w tries None → IsLeftOver P r → PassEnds P r

abbrev pub PassesEnd : Type 0
PassesEnd = (P : Program) (r : RoleText) → IsStarSource P → IsCentre P r → PassEnds P r

-- the search finds a derivation and its program
abbrev pub IsSequenced : Program → ℕ → Type 0
IsSequenced P budget = (D : Steps) × (Q : SeqProgram) × (searched P budget ≡ Sequenced D Q)

-- the search is stuck, and a plain run shows why
abbrev pub IsRefused : Program → ℕ → Type 0
IsRefused P budget = (R : Report) × (searched P budget ≡ Stuck R) × (PlainRunDeadlocks P ⊎ PlainRunOvertakes P)

-- stars are never refused emptily, whatever the budget
abbrev pub StarsAreNeverRefusedEmptily : Type 0
StarsAreNeverRefusedEmptily = (P : Program) (budget : ℕ) → IsStarSource P → IsSequenced P budget ⊎ IsRefused P budget
