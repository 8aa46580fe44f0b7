-- Laws of the search.
use Rattle.std.specs.Prelude.{◌≡◌, ◌≢◌, ℕ, suc, ◌+◌, ◌<◌, true, Some, Ok}
use Rattle.brisk_syntax.specs.declared.program.Program.{Program}
use Rattle.brisk_syntax.specs.WellTyped.{IsProgramWellTyped}
use Rattle.brisk_seq.specs.declared.tree.SeqProgram.{SeqProgram}
use Rattle.brisk_state.specs.Pending.{IsLeastFree}
use Rattle.brisk_state.specs.Symbolic.{Symbolic, Pending, initial}
use Rattle.brisk_derivation.specs.declared.report.Report.{Report}
use Rattle.brisk_derivation.specs.Steps.{Steps}
use Rattle.brisk_rules.specs.Derives.{Derived, derive_all, Valid}
use Rattle.brisk_rules.specs.Following.{Follow, nothing_follows}
use Rattle.brisk_rules.specs.Reports.{Reports}
use Rattle.brisk_rules.specs.Standing.{least_free}
use Rattle.brisk_search.specs.Drives.{Drive}
use Rattle.brisk_search.specs.Passes.{Sides, driver, rounds, first_pass}
use Rattle.brisk_search.specs.Searched.{Sequenced, Stuck, Spent, is_simple, answer, searched}

-- the derivation that the search finds is valid, and has the sequential program that is answered
abbrev pub SearchIsValid : Type 0
SearchIsValid = (P : Program) (budget : ℕ) (D : Steps) (Q : SeqProgram) → searched P budget ≡ Sequenced D Q → Valid P D Q

-- the steps of a report are the beginning of a derivation
abbrev pub ReportsLead : Type 0
ReportsLead = (P : Program) (budget : ℕ) (r : Report) → searched P budget ≡ Stuck r → (d : Derived) × (derive_all P 0 nothing_follows r.steps 2 (initial P) ≡ Ok d)

-- a drive with n rules left comes to the same in any number of rounds that is greater than n
abbrev pub RoundsAreEnough : Type 0
RoundsAreEnough =
    (P : Program) (sides : Sides) (k : ℕ) (F : Follow) (d : Drive) (S : Symbolic) (n m : ℕ) → n < m →
    rounds record { program = P; below = Some (driver P sides k); side = sides d; follows = F } d m S (Some n) ≡ driver P sides (suc k) F d S (Some n)

-- the search is never spent in a well-typed program that is straight or a star, whatever the budget
abbrev pub SimpleIsNeverSpent : Type 0
SimpleIsNeverSpent = (P : Program) (budget : ℕ) → IsProgramWellTyped P → is_simple P ≡ true → searched P budget ≢ Spent

-- a larger budget gives the same answer, unless the smaller one was spent
abbrev pub BudgetsAgree : Type 0
BudgetsAgree = (P : Program) (budget more : ℕ) → searched P budget ≢ Spent → searched P (budget + more) ≡ searched P budget

-- a straight program or a star is answered as its one pass comes out with each budget that is large enough
abbrev pub LargeBudgetsAgree : Type 0
LargeBudgetsAgree =
    (P : Program) → IsProgramWellTyped P → is_simple P ≡ true → (least : ℕ) × ((more any : ℕ) → searched P any ≡ answer P (first_pass P (Some (least + more))))

-- the number for a fill is the least that pends nowhere
abbrev pub FillsTheLeast : Type 0
FillsTheLeast = (pending : Pending) → IsLeastFree pending (least_free pending)

-- the report of a stuck search holds, where the program is well typed
abbrev pub ReportsHold : Type 0
ReportsHold = (P : Program) (budget : ℕ) (R : Report) → IsProgramWellTyped P → searched P budget ≡ Stuck R → Reports P R
