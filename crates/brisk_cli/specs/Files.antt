-- Whole files that are read, and whole texts that are written.
use Rattle.std.specs.Prelude.{◌≡◌, ℕ, ◌<◌, List, ◌++◌, length, take, Option, Some, None, Result, Ok, Err, Vec}
use Rattle.std.specs.declared.alloc.Global.{Global}
use Rattle.brisk_io.specs.declared.faults.SinkFault.{SinkFault}
use Rattle.brisk_cli.specs.declared.files.Unread.{Unread}
use Rattle.brisk_cli.specs.declared.files.Unread.TheVariants.{Missing, Failed, TooLong, NoMemory}

abbrev pub Text : Type 0
Text = List ℕ

-- why a file that is told wasn't read: it isn't there, or it is longer than the limit
abbrev pub IsUnread : ℕ → Option Text → Unread → Type 0
IsUnread limit file Missing = file ≡ None
IsUnread limit file TooLong = (bytes : Text) × (file ≡ Some bytes) × (limit < length bytes)
IsUnread limit file Failed = Unit {0}
IsUnread limit file NoMemory = Unit {0}

-- what was read of a file that is told is all of it
abbrev pub IsWhole : ℕ → Option Text → Result (Vec ℕ Global) Unread → Type 0
IsWhole limit file (Ok v) = file ≡ Some v.items
IsWhole limit file (Err unread) = IsUnread limit file unread

-- what was written before and then these bytes, where it is told
abbrev pub Put : Option Text → Option Text → Text → Type 0
Put None new bytes = Unit {0}
Put (Some old) new bytes = new ≡ Some (old ++ bytes)

-- all the bytes were written, or some of their front
abbrev pub IsPut : Option Text → Option Text → Text → Result (Unit {0}) SinkFault → Type 0
IsPut old new bytes (Ok done) = Put old new bytes
IsPut old new bytes (Err fault) = (n : ℕ) × Put old new (take n bytes)
