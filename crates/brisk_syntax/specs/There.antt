-- Variables that have values.
use Rattle.std.specs.Prelude.{ℕ, ◌<◌, List, [], length, get_or, IsSome}
use Rattle.std.specs.FinMap.{get}
use Rattle.brisk_values.specs.declared.value.Pid.{Pid}
use Rattle.brisk_values.specs.Names.{Name}
use Rattle.brisk_values.specs.Places.{Entries}

-- each of the variables of the process has a value
abbrev pub AreThere : Entries → Pid → List Name → Type 0
AreThere m p xs = (k : ℕ) → k < length xs → IsSome (get m (p, get_or xs k []))
