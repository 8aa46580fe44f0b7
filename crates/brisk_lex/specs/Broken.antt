-- Where bytes stop being UTF-8 text.
use Rattle.std.specs.Prelude.{ℕ, ◌+◌, ◌<◌, ◌≤◌, List, ◌++◌, length, take}
use Rattle.std.specs.Str.{IsUtf8}
use Rattle.brisk_lex.specs.declared.fault.LexFault.{LexFault}
use Rattle.brisk_lex.specs.declared.fault.LexFault.TheVariants.{NotUtf8}

-- some text begins with these bytes
abbrev pub BeginsText : List ℕ → Type 0
BeginsText front = (more : List ℕ) × IsUtf8 (front ++ more)

-- the bytes are no text, and k is the least number such that the first k + 1 bytes begin none; where they all begin one, k is their number
pub record IsBroken (bytes : List ℕ) (k : ℕ) : Type 0 where
  pub broken : IsUtf8 bytes → ⊥
  pub within : k ≤ length bytes
  pub front : BeginsText (take k bytes)
  pub stuck : k < length bytes → BeginsText (take (k + 1) bytes) → ⊥

-- a fault NotUtf8 names the byte at which the bytes stop being text
abbrev pub IsNotUtf8At : List ℕ → LexFault → Type 0
IsNotUtf8At bytes (NotUtf8 k) = IsBroken bytes k
IsNotUtf8At bytes e = Unit {0}
