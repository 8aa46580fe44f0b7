-- The search for a derivation.
use Rattle.std.specs.Prelude.{ℕ, Bool, true, false, ◌||◌, Some, None}
use Rattle.brisk_syntax.specs.declared.program.Program.{Program}
use Rattle.brisk_syntax.specs.Classes.{is_straight, is_star}
use Rattle.brisk_seq.specs.declared.tree.SeqProgram.{SeqProgram}
use Rattle.brisk_derivation.specs.declared.report.Report.{Report}
use Rattle.brisk_derivation.specs.Reports.{Tries}
use Rattle.brisk_derivation.specs.Steps.{Steps}
use Rattle.brisk_rules.specs.Derives.{sequential}
use Rattle.brisk_search.specs.Drives.{Way, Driven}
use Rattle.brisk_search.specs.Drives as drive
use Rattle.brisk_search.specs.Passes.{first_pass, second_pass}

-- A derivation and its sequential program; or a report of where the search is stuck; or the budget is spent.
pub data Searched : Type 0 where
  Sequenced : (D : Steps) (Q : SeqProgram) → Searched
  Stuck : (report : Report) → Searched
  Spent : Searched

-- straight programs and stars have one pass, and their rules aren't counted
abbrev pub is_simple : Program → Bool
is_simple P = is_straight P || is_star P

-- where pass two is stuck as well, the report is that of pass one
abbrev pub after_second : Way → Tries → Driven → Driven
after_second w tries (drive.Reached v left) = drive.Reached v left
after_second w tries (drive.Stuck v others left) = drive.Stuck w tries left
after_second w tries drive.Spent = drive.Spent

-- pass two is made where pass one is stuck
abbrev pub after_first : Program → Driven → Driven
after_first P (drive.Stuck w tries left) = after_second w tries (second_pass P left)
after_first P (drive.Reached w left) = drive.Reached w left
after_first P drive.Spent = drive.Spent

-- the search, with so many rules to apply; it also tells how many are left
abbrev pub passes : Bool → Program → ℕ → Driven
passes true P budget = first_pass P None
passes false P budget = after_first P (first_pass P (Some budget))

-- what is answered
abbrev pub answer : Program → Driven → Searched
answer P (drive.Reached w left) = Sequenced w.steps (sequential P w.items)
answer P (drive.Stuck w tries left) = Stuck record { steps = w.steps; tries = tries }
answer P drive.Spent = Spent

-- what the search answers with this budget
abbrev pub searched : Program → ℕ → Searched
searched P budget = answer P (passes (is_simple P) P budget)
