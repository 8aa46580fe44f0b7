-- When a sequential program does what the processes of a program do.
use Rattle.std.specs.Prelude.{◌≡◌, ◌↔◌}
use Rattle.brisk_syntax.specs.declared.program.Program.{Program}
use Rattle.brisk_syntax.specs.Instance.{Instance, Fits}
use Rattle.brisk_syntax.specs.Stores.{Store}
use Rattle.brisk_seq.specs.declared.tree.SeqProgram.{SeqProgram}
use Rattle.brisk_seq.specs.Sequential.{Ends}
use Rattle.brisk_async.specs.Machine.{State, start, Reaches, IsHalted, IsDeadlocked}

-- the store is that of a halted state that is reachable in the instance
abbrev pub Halts : Program → Instance → Store → Type 0
Halts P i store = (s : State) × Reaches (start P i) s × IsHalted s × (s.store ≡ store)

-- In every instance that fits no reachable state is deadlocked, and the processes halt with a store exactly where the
-- sequential program does.
pub record Faithful (P : Program) (Q : SeqProgram) : Type 0 where
  pub never_deadlocked : (i : Instance) → Fits P i → (s : State) → Reaches (start P i) s → IsDeadlocked s → ⊥
  pub same_stores : (i : Instance) → Fits P i → (store : Store) → Halts P i store ↔ Ends Q i store
