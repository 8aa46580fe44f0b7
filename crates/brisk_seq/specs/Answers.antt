-- What the answer of a run tells.
use Rattle.std.specs.Prelude.{◌≡◌, ℕ, ◌<◌, List, Ok}
use Rattle.brisk_values.specs.declared.instance.Instance.{Instance as Given}
use Rattle.brisk_values.specs.Places.{Entries, value_in}
use Rattle.brisk_syntax.specs.Tokens.{weight}
use Rattle.brisk_instance.specs.declared.fault.StartFault.{StartFault}
use Rattle.brisk_instance.specs.declared.fault.StartFault.TheVariants as start
use Rattle.brisk_instance.specs.Given.{FitsAsGiven, instance_of}
use Rattle.brisk_instance.specs.Starting.{IsReady, most_weight}
use Rattle.brisk_seq.specs.declared.fault.SeqFault.{SeqFault}
use Rattle.brisk_seq.specs.declared.fault.SeqFault.TheVariants as fault
use Rattle.brisk_seq.specs.declared.tree.SeqProgram.{SeqProgram}
use Rattle.brisk_seq.specs.Running.{Tells}
use Rattle.brisk_seq.specs.Sequential.{seq}

-- the given instance fits and isn't too heavy to be run
abbrev pub CanStart : SeqProgram → Given → Type 0
CanStart Q g = IsReady Q.enums Q.roles g

-- the program halts with this store
abbrev pub HaltsWith : SeqProgram → Given → List ℕ → ℕ → Entries → Type 0
HaltsWith Q g choices turns s = CanStart Q g × (seq Q (instance_of g) choices turns ≡ Ok (value_in s))

-- what is so where there is no store: the instance doesn't fit; it fits and is too heavy; the run stops as is told
abbrev pub Causes : SeqProgram → Given → List ℕ → ℕ → SeqFault → Type 0
Causes Q g choices turns fault.BadInstance = ¬ FitsAsGiven Q.enums Q.roles g
Causes Q g choices turns fault.TooLarge = FitsAsGiven Q.enums Q.roles g × (most_weight < weight Q.roles (instance_of g))
Causes Q g choices turns fault.NoMemory = Unit {0}
Causes Q g choices turns f = CanStart Q g × Tells (seq Q (instance_of g) choices turns) f

-- the same fault, told of a run
abbrev pub fault_of : StartFault → SeqFault
fault_of start.BadInstance = fault.BadInstance
fault_of start.TooLarge = fault.TooLarge
fault_of start.NoMemory = fault.NoMemory
