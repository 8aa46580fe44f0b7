-- Where threads stand in their list.
use Rattle.std.specs.Prelude.{◌≡◌, ℕ, true, List, map, Some, slice_get}
use Rattle.brisk_values.specs.Names.{Name, same_name}
use Rattle.brisk_state.specs.declared.thread.Thread.{Thread}

-- the names of the threads
abbrev pub names : List Thread → List Name
names = map (λ u. u.name)

-- a thread of this name stands at the place
abbrev pub IsPlaceOf : List Thread → Name → ℕ → Type 0
IsPlaceOf threads name place = (u : Thread) × (slice_get threads place ≡ Some u) × (same_name name u.name ≡ true)
