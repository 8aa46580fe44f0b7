-- The lines of schedule and choices texts, as bytes without the byte 10 at their end, and which lines are legal.
use Rattle.std.specs.Prelude.{◌≡◌, ℕ, ◌^◌, ◌<◌, ◌≤◌, ◌++◌, Option, None, Some, MatchOption, IfSome, FitsSigned, codes}
use Rattle.std.specs.Fmt.{decimal}
use Rattle.std.specs.Int.{w64}
use Rattle.brisk_lex.specs.Spelled.{IsName}
use Rattle.brisk_text.specs.Values.{Text, value_text}
use Rattle.brisk_values.specs.declared.value.Value.{Value}
use Rattle.brisk_values.specs.declared.value.Value.TheVariants as value
use Rattle.brisk_lines.specs.declared.line.Line.{Line}
use Rattle.brisk_lines.specs.declared.line.Line.TheVariants as line
use Rattle.brisk_lines.specs.declared.line.Process.{Process}

-- a member's number in its set
abbrev pub member_text : Option ℕ → Text
member_text None = codes ""
member_text (Some k) = codes "[" ++ decimal k ++ codes "]"

-- a process by its role's name, or by its set's and its number there
abbrev pub process_text : Process → Text
process_text p = p.role ++ member_text p.member

-- the sender of an event
abbrev pub sender_text : Option Process → Text
sender_text None = codes ""
sender_text (Some p) = codes " from " ++ process_text p

-- the place in the queue at which an event takes
abbrev pub place_text : Option ℕ → Text
place_text None = codes ""
place_text (Some n) = codes " at " ++ decimal n

-- the bytes of a line
abbrev pub line_text : Line → Text
line_text line.Schedule = codes "brisk schedule 1"
line_text line.Choices = codes "brisk choices 1"
line_text (line.Size s n) = codes "size " ++ s ++ codes " " ++ decimal n
line_text (line.Input p x v) = codes "input " ++ process_text p ++ codes "." ++ x ++ codes " = " ++ value_text v
line_text (line.Event p q n) = codes "event " ++ process_text p ++ sender_text q ++ place_text n
line_text (line.Turns n) = codes "turns " ++ decimal n
line_text (line.Choose n) = codes "choose " ++ decimal n
line_text line.End = codes "end"

-- the number has 32 bits
abbrev pub IsShort : ℕ → Type 0
IsShort n = n < 2 ^ 32

-- the role is named by a name of the language, and the member's number has 32 bits
abbrev pub IsLegalProcess : Process → Type 0
IsLegalProcess p = IsName p.role × IfSome p.member IsShort

-- the number has 64 bits, and a tag and its enumeration are named by names of the language
abbrev pub IsLegalValue : Value → Type 0
IsLegalValue (value.Int n) = FitsSigned w64 n
IsLegalValue (value.Bool b) = Unit {0}
IsLegalValue (value.Tag e x) = IsName e × IsName x

-- all that a line names is named by names of the language, and its numbers are within their bounds
abbrev pub IsLegal : Line → Type 0
IsLegal line.Schedule = Unit {0}
IsLegal line.Choices = Unit {0}
IsLegal (line.Size s n) = IsName s × (n ≤ 1000000)
IsLegal (line.Input p x v) = IsLegalProcess p × IsName x × IsLegalValue v
IsLegal (line.Event p q n) = IsLegalProcess p × IfSome q IsLegalProcess × IfSome n IsShort
IsLegal (line.Turns n) = n < 2 ^ 64
IsLegal (line.Choose n) = IsShort n
IsLegal line.End = Unit {0}

-- The bytes are read as something legal whose text they are. Where nothing is read they are the text of nothing legal.
abbrev pub Reads : {A : Type 0} → (A → Text) → (A → Type 0) → Text → Option A → Type 0
Reads {A} text legal b r = MatchOption r ((x : A) → legal x → b ≡ text x → ⊥) (λ x. (b ≡ text x) × legal x)

-- the text begins with the line, which byte 10 ends, and this stands behind
abbrev pub BeginsWith : Text → Line → Text → Type 0
BeginsWith text l more = IsLegal l × (text ≡ line_text l ++ codes "\n" ++ more)
