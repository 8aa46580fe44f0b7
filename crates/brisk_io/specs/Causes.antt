-- Counts that rise, and what a read or a write says.
use Rattle.std.specs.Prelude.{◌≡◌, ℕ, ◌+◌, ◌-◌, ◌^◌, ◌<◌, ◌≤◌, min, List, ◌++◌, length, take, drop, Option, Some, None, Result, Ok, Err}
use Rattle.brisk_io.specs.declared.faults.FolderFault.{FolderFault}
use Rattle.brisk_io.specs.declared.faults.FolderFault.TheVariants.{Missing, Failed, NoMemory}
use Rattle.brisk_io.specs.declared.faults.SinkFault.{SinkFault}

-- the count is greater than before, or stands at its last value
abbrev pub Rose : ℕ → ℕ → Type 0
Rose before now = min (before + 1) (2 ^ 64 - 1) ≤ now

-- the files, from a name to its bytes
abbrev pub Files : Type 0
Files = List ℕ → Option (List ℕ)

-- a fault comes only where its count rose
abbrev pub FaultCause : (misses misses' faults faults' : ℕ) → FolderFault → Type 0
FaultCause misses misses' faults faults' Missing = Rose misses misses'
FaultCause misses misses' faults faults' Failed = Rose faults faults'
FaultCause misses misses' faults faults' NoMemory = Unit {0}

-- why a read may answer so
abbrev pub ReadCause : (misses misses' faults faults' : ℕ) → Result ℕ FolderFault → Type 0
ReadCause misses misses' faults faults' (Ok n) = Unit {0}
ReadCause misses misses' faults faults' (Err e) = FaultCause misses misses' faults faults' e

-- n bytes of the file from `at` on, as many as are left or as there is room for; nothing only where the file ends or there is no room
pub record Reads (bytes : List ℕ) (at : ℕ) (n : ℕ) (piece : List ℕ) : Type 0 where
  pub front : take n piece ≡ take n (drop at bytes)
  pub within : n ≤ length bytes - at
  pub end : n ≡ 0 → 0 < length piece → length bytes ≤ at

-- what a fault says of a file that is told: it isn't there, or the call failed
abbrev pub FaultTold : Option (List ℕ) → FolderFault → Type 0
FaultTold file Missing = file ≡ None
FaultTold file Failed = Unit {0}
FaultTold file NoMemory = ⊥

-- what a read says of a file that is told
abbrev pub ReadTold : Option (List ℕ) → ℕ → Result ℕ FolderFault → List ℕ → Type 0
ReadTold (Some bytes) at (Ok n) piece = Reads bytes at n piece
ReadTold None at (Ok n) piece = ⊥
ReadTold file at (Err e) piece = FaultTold file e

-- what a write says: the first n bytes went to the end, or nothing did
abbrev pub WriteTold : Option (List ℕ) → Option (List ℕ) → List ℕ → Result ℕ SinkFault → Type 0
WriteTold None None bytes result = Unit {0}
WriteTold (Some old) (Some new) bytes (Ok n) = new ≡ old ++ take n bytes
WriteTold (Some old) (Some new) bytes (Err e) = new ≡ old
WriteTold _ _ bytes result = ⊥

-- why a write may answer so
abbrev pub WriteCause : ℕ → ℕ → List ℕ → Result ℕ SinkFault → Type 0
WriteCause faults faults' bytes (Ok n) = (n ≤ length bytes) × (0 < length bytes → 0 < n)
WriteCause faults faults' bytes (Err e) = Rose faults faults'
