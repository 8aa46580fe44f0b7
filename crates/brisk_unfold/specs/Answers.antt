-- What the answer of an unfolding tells.
use Rattle.std.specs.Prelude.{◌≡◌, ◌≢◌, ℕ, List, Some, Ok}
use Rattle.brisk_values.specs.declared.instance.Instance.{Instance as Given}
use Rattle.brisk_syntax.specs.declared.program.Program.{Program}
use Rattle.brisk_instance.specs.Given.{instance_of}
use Rattle.brisk_seq.specs.declared.fault.SeqFault.{SeqFault}
use Rattle.brisk_seq.specs.declared.fault.SeqFault.TheVariants as seq_fault
use Rattle.brisk_seq.specs.declared.tree.SeqProgram.{SeqProgram}
use Rattle.brisk_seq.specs.Answers.{CanStart, Causes as SeqCauses}
use Rattle.brisk_seq.specs.Sequential.{seq}
use Rattle.brisk_async.specs.declared.event.Event.{Event}
use Rattle.brisk_async.specs.Machine.{State, start, run, IsHalted}
use Rattle.brisk_derivation.specs.Steps.{Steps}
use Rattle.brisk_rules.specs.Derives.{Valid}
use Rattle.brisk_rules.specs.Unfolding.{unfolded}
use Rattle.brisk_unfold.specs.declared.fault.UnfoldFault.{UnfoldFault}
use Rattle.brisk_unfold.specs.declared.fault.UnfoldFault.TheVariants as fault

-- the derivation has a sequential program
abbrev pub IsValid : Program → Steps → Type 0
IsValid P D = (Q : SeqProgram) × Valid P D Q

-- the fault of the sequential program, told of an unfolding
abbrev pub fault_of : SeqFault → UnfoldFault
fault_of seq_fault.NoMemory = fault.NoMemory
fault_of f = fault.Seq f

-- These events are the canonical schedule on these choices and turns. They lead from the start to a halted state, with the
-- store with which the sequential program halts.
pub record IsSchedule (P : Program) (D : Steps) (g : Given) (choices : List ℕ) (turns : ℕ) (Q : SeqProgram) (es : List Event) : Type 0 where
  pub starts : CanStart Q g
  pub events : unfolded P D Q (instance_of g) choices turns ≡ Ok es
  pub halts : (s : State) × (run (start P (instance_of g)) es ≡ Some s) × IsHalted s × (seq Q (instance_of g) choices turns ≡ Ok s.store)

-- what is so where there is no schedule: the sequential program is refused with the fault; for want of memory nothing is told
abbrev pub Causes : Given → List ℕ → ℕ → SeqProgram → UnfoldFault → Type 0
Causes g choices turns Q (fault.Seq f) = (f ≢ seq_fault.NoMemory) × SeqCauses Q g choices turns f
Causes g choices turns Q fault.NoMemory = Unit {0}
