-- What holds of the checker.
use Rattle.std.specs.Prelude.{◌≡◌, ◌++◌, Result, Ok, Err}
use Rattle.brisk_lines.specs.Lines.{Reads}
use Rattle.brisk_text.specs.Values.{Text}
use Rattle.brisk_syntax.specs.declared.program.Program.{Program}
use Rattle.brisk_derivation.specs.Steps.{Steps}
use Rattle.brisk_derivtext.specs.declared.line.Format.{Format}
use Rattle.brisk_derivtext.specs.Lines.{line_text, IsLegal}
use Rattle.brisk_derivtext.specs.Parsing.{line_in}
use Rattle.brisk_derivtext.specs.Reading.{Fails, IsRead, TextFault}
use Rattle.brisk_check.specs.Checking.{Reader, Checking, feed, after, finish, verdict, Verdict}

-- a piece and then another is what both are at once, from whatever was fed
abbrev pub PiecesAreFed : Type 0
PiecesAreFed = (read : Reader) (c : Checking) (a b : Text) → feed read c (a ++ b) ≡ feed read (feed read c a) b

-- the reader reads the lines of texts, and nothing else
abbrev pub IsReader : Reader → Type 0
IsReader read = (b : Text) → Reads line_text IsLegal b (read b)

-- on a text of a derivation the verdict is that on the derivation
abbrev pub VerdictIsGiven : Type 0
VerdictIsGiven = (read : Reader) (P : Program) (f : Format) (text seq : Text) (D : Steps) → IsReader read → IsRead f text D → finish (after read P text) seq ≡ Ok (verdict P seq D)

-- a text that fails is told so, at its line
abbrev pub FaultIsTold : Type 0
FaultIsTold = (read : Reader) (P : Program) (text seq : Text) (fault : TextFault) → IsReader read → Fails text fault → finish (after read P text) seq ≡ Err fault

-- what is told of a text holds of it
abbrev pub ToldFaultHolds : Type 0
ToldFaultHolds = (read : Reader) (P : Program) (text seq : Text) (fault : TextFault) → IsReader read → finish (after read P text) seq ≡ Err fault → Fails text fault

-- a verdict is given on a text of a derivation alone, and is that on the derivation
abbrev pub GivenVerdictHolds : Type 0
GivenVerdictHolds = (read : Reader) (P : Program) (text seq : Text) (v : Verdict) → IsReader read → finish (after read P text) seq ≡ Ok v → (f : Format) × (D : Steps) × IsRead f text D × (v ≡ verdict P seq D)

-- the answer is exact: a fault of the text, or the verdict on the one derivation that the text is
abbrev pub IsAnswer : Program → Text → Text → Result Verdict TextFault → Type 0
IsAnswer P text seq (Err fault) = Fails text fault
IsAnswer P text seq (Ok v) = (f : Format) × (D : Steps) × IsRead f text D × (v ≡ verdict P seq D)

abbrev pub CheckIsExact : Type 0
CheckIsExact = (P : Program) (text seq : Text) → IsAnswer P text seq (finish (after line_in P text) seq)
