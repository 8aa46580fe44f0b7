-- How many there may be of each thing in a text.
use Rattle.std.specs.Prelude.{ℕ}

-- tokens of one expression; places of one message, kinds of a channel and tags of an enumeration, each after the
-- first; declarations of a role; enumerations, channels and roles; statements; and blocks that nest in a role's block
pub record Limits : Type 0 where
  pub tokens : ℕ
  pub places : ℕ
  pub kinds : ℕ
  pub tags : ℕ
  pub declarations : ℕ
  pub enums : ℕ
  pub channels : ℕ
  pub roles : ℕ
  pub statements : ℕ
  pub nesting : ℕ

-- the limits of a source
abbrev pub source : Limits
source = record { tokens = 256; places = 15; kinds = 15; tags = 255; declarations = 256; enums = 256; channels = 1024; roles = 256; statements = 20000; nesting = 63 }

-- the limits of a sequential text, whose items are counted as statements
abbrev pub sequence : Limits
sequence = record source { statements = 2000000; nesting = 320 }

-- the greatest number of a box
abbrev pub most_box : ℕ
most_box = 4294967295
