-- What the search answers for a straight program.
use Rattle.std.specs.Prelude.{◌≡◌, ◌⊎◌, ◌↔◌, ℕ}
use Rattle.brisk_syntax.specs.declared.program.Program.{Program}
use Rattle.brisk_seq.specs.declared.tree.SeqProgram.{SeqProgram}
use Rattle.brisk_async.specs.PlainRuns.{Deadlocks, plain_instance, plain_schedule}
use Rattle.brisk_derivation.specs.declared.report.Report.{Report}
use Rattle.brisk_derivation.specs.Steps.{Steps}
use Rattle.brisk_rules.specs.Derives.{Valid}
use Rattle.brisk_search.specs.Searched.{Sequenced, Stuck, searched}
use Rattle.brisk_straight.specs.Sources.{IsStraightSource}

-- the schedule of the plain run at size one deadlocks
abbrev pub PlainRunDeadlocks : Program → Type 0
PlainRunDeadlocks P = Deadlocks P (plain_instance P 1) (plain_schedule P 1)

-- the search finds a derivation and its program
abbrev pub IsSequenced : Program → ℕ → Type 0
IsSequenced P budget = (D : Steps) × (Q : SeqProgram) × (searched P budget ≡ Sequenced D Q)

-- the search is stuck, and the plain run shows why
abbrev pub IsRefused : Program → ℕ → Type 0
IsRefused P budget = (R : Report) × (searched P budget ≡ Stuck R) × PlainRunDeadlocks P

-- straight programs are never refused emptily, whatever the budget
abbrev pub NeverRefusedEmptily : Type 0
NeverRefusedEmptily = (P : Program) (budget : ℕ) → IsStraightSource P → IsSequenced P budget ⊎ IsRefused P budget

-- so a straight program has a valid derivation exactly where its plain run at size one doesn't deadlock
abbrev pub DerivableExactly : Type 0
DerivableExactly = (P : Program) → IsStraightSource P → ((D : Steps) × (Q : SeqProgram) × Valid P D Q) ↔ (PlainRunDeadlocks P → ⊥)
