-- The pieces of lines that are read one after another.
use Rattle.std.specs.Prelude.{◌≡◌, ◌≢◌, ℕ, ◌≤◌, [], ◌∷◌, ◌++◌, Bool, true, not, ◌==◌, Option, codes, IfSome}
use Rattle.std.specs.List.{list_all}
use Rattle.std.specs.Fmt.{decimal}
use Rattle.brisk_lex.specs.Spelled.{IsName}
use Rattle.brisk_text.specs.Values.{Text, tag, value_text}
use Rattle.brisk_values.specs.Names.{Name}
use Rattle.brisk_values.specs.declared.value.Value.{Value}
use Rattle.brisk_lines.specs.declared.line.Process.{Process}
use Rattle.brisk_lines.specs.Lines.{sender_text, place_text, IsShort, IsLegalProcess, IsLegalValue}

-- any byte but c
abbrev pub differs : ℕ → ℕ → Bool
differs c x = not (x == c)

-- no byte is c
abbrev pub Lacks : ℕ → Text → Type 0
Lacks c b = list_all (differs c) b ≡ true

-- nothing, or bytes that begin with c
abbrev pub Begins : ℕ → Text → Type 0
Begins c [] = Unit {0}
Begins c (x ∷ b) = x ≡ c

-- the bytes are cut where the first c stands, and behind them where none does
pub record IsCut (c : ℕ) (b front rest : Text) : Type 0 where
  pub whole : b ≡ front ++ rest
  pub front_lacks : Lacks c front
  pub rest_begins : Begins c rest

-- the sender of an event and its place in the queue
abbrev pub end_text : Option Process × Option ℕ → Text
end_text e = sender_text e.0 ++ place_text e.1

abbrev pub IsLegalEnd : Option Process × Option ℕ → Type 0
IsLegalEnd e = IfSome e.0 IsLegalProcess × IfSome e.1 IsShort

-- an input and its value, with the dot before
abbrev pub given_text : Name × Value → Text
given_text g = codes "." ++ g.0 ++ codes " = " ++ value_text g.1

abbrev pub IsLegalGiven : Name × Value → Type 0
IsLegalGiven g = IsName g.0 × IsLegalValue g.1

-- a tag, with its enumeration
abbrev pub tag_text : Name × Name → Text
tag_text t = tag t.0 t.1

abbrev pub IsLegalTag : Name × Name → Type 0
IsLegalTag t = IsName t.0 × IsName t.1

-- a size, with the space before
abbrev pub size_text : ℕ → Text
size_text n = codes " " ++ decimal n

abbrev pub IsSize : ℕ → Type 0
IsSize n = n ≤ 1000000

-- the bytes are no line without parts
abbrev pub IsNoPlain : Text → Type 0
IsNoPlain b = (b ≢ codes "end") × (b ≢ codes "brisk schedule 1") × (b ≢ codes "brisk choices 1")
