-- Which calls fail by a plan, and what a sink in memory holds.
use Rattle.std.specs.Prelude.{ℕ, ◌+◌, ◌-◌, min, max, nat_lt, Bool, false, List, length, if◌then◌else◌}
use Rattle.std.specs.List.{slice_index_or}

-- the call that comes after so many others fails: the item of the plan at this place is true
abbrev pub fails : List Bool → ℕ → Bool
fails plan calls = slice_index_or plan calls false

-- one call more, up to the plan's length
abbrev pub counted : List Bool → ℕ → ℕ
counted plan calls = if nat_lt calls (length plan) then calls + 1 else calls

-- how often a real folder missed a file, and how often it failed
pub record Counts : Type 0 where
  pub misses : ℕ
  pub faults : ℕ

-- a sink in memory: what it took, how much it has room for, how much it takes at once, and its plan
pub record Taken : Type 0 where
  pub bytes : List ℕ
  pub room : ℕ
  pub piece : ℕ
  pub plan : List Bool
  pub calls : ℕ
  pub faults : ℕ

-- how many of the bytes a write takes
abbrev pub fits : Taken → List ℕ → ℕ
fits s bytes = min (min (length bytes) (max s.piece 1)) (s.room - length s.bytes)
