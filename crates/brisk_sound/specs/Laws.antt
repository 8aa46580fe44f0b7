-- Laws of derivations.
use Rattle.std.specs.Prelude.{◌≡◌, ◌≢◌, ◌↔◌, ℕ, List, Some, Ok, Err}
use Rattle.brisk_syntax.specs.declared.program.Program.{Program}
use Rattle.brisk_syntax.specs.Instance.{Instance, Fits}
use Rattle.brisk_syntax.specs.WellTyped.{IsProgramWellTyped}
use Rattle.brisk_seq.specs.declared.tree.SeqProgram.{SeqProgram}
use Rattle.brisk_seq.specs.Sequential.{Stop, BadBox, seq}
use Rattle.brisk_seq.specs.WellTyped.{IsSeqWellTyped}
use Rattle.brisk_async.specs.declared.event.Event.{Event}
use Rattle.brisk_async.specs.Machine.{State, start, run, IsHalted}
use Rattle.brisk_derivation.specs.Steps.{Steps}
use Rattle.brisk_rules.specs.Derives.{Valid}
use Rattle.brisk_rules.specs.Faithful.{Faithful}
use Rattle.brisk_rules.specs.Unfolding.{unfolded}

-- the sequential program of each valid derivation is faithful, for each well-typed program, loose channels included
abbrev pub ValidIsFaithful : Type 0
ValidIsFaithful = (P : Program) (D : Steps) (Q : SeqProgram) → IsProgramWellTyped P → Valid P D Q → Faithful P Q

-- and it passes the typing of sequential programs
abbrev pub ValidIsWellTyped : Type 0
ValidIsWellTyped = (P : Program) (D : Steps) (Q : SeqProgram) → IsProgramWellTyped P → Valid P D Q → IsSeqWellTyped Q

-- In each instance the canonical schedule of a valid derivation leads from the start to a halted state, whose store is that
-- with which the sequential program halts on the same choices and turns. Where that stops, so does the unfolding, and alike.
abbrev pub UnfoldingReachesTheStore : Type 0
UnfoldingReachesTheStore =
    (P : Program) (D : Steps) (Q : SeqProgram) → IsProgramWellTyped P → Valid P D Q → (i : Instance) → Fits P i → (choices : List ℕ) (turns : ℕ) →
    ((es : List Event) → unfolded P D Q i choices turns ≡ Ok es → (s : State) × (run (start P i) es ≡ Some s) × IsHalted s × (seq Q i choices turns ≡ Ok s.store))
    × ((why : Stop) → (unfolded P D Q i choices turns ≡ Err why) ↔ (seq Q i choices turns ≡ Err why))

-- the sequential program of a valid derivation fills no full box and takes from none that doesn't hold what it wants
abbrev pub NoBadBox : Type 0
NoBadBox =
    (P : Program) (D : Steps) (Q : SeqProgram) → IsProgramWellTyped P → Valid P D Q → (i : Instance) → Fits P i → (choices : List ℕ) (turns k : ℕ) →
    seq Q i choices turns ≢ Err (BadBox k)
