-- The files of a folder in memory.
use Rattle.std.specs.Prelude.{List, [], ◌∷◌, ℕ, Option, Some, None, if◌then◌else◌}
use Rattle.std.specs.String.{string_bytes}
use Rattle.brisk_values.specs.Names.{same_name}
use Rattle.brisk_io.specs.declared.memory.File.{File}

-- the bytes of the first file that has the name
abbrev pub content : List File → List ℕ → Option (List ℕ)
content [] name = None
content (f ∷ fs) name = if same_name (string_bytes f.name) name then Some f.bytes.items else content fs name
