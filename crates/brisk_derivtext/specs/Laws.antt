-- What holds of derivation texts.
use Rattle.std.specs.Prelude.{◌≡◌, ◌≤◌, ◌++◌, ◌∷◌, List, Some}
use Rattle.std.specs.List.{AllByRecursion}
use Rattle.brisk_text.specs.Values.{Text}
use Rattle.brisk_derivation.specs.Depths.{steps_depth}
use Rattle.brisk_derivation.specs.Steps.{Steps}
use Rattle.brisk_derivtext.specs.declared.line.Format.{Format}
use Rattle.brisk_derivtext.specs.declared.line.Format.TheVariants.{Format1, Format2}
use Rattle.brisk_derivtext.specs.declared.line.Line.{Line}
use Rattle.brisk_derivtext.specs.Lines.{line_text, IsLegal}
use Rattle.brisk_lines.specs.Lines.{Reads}
use Rattle.brisk_derivtext.specs.Parts.{IsText2}
use Rattle.brisk_derivtext.specs.Parsing.{line_in}
use Rattle.brisk_derivtext.specs.Reading.{Reading, ComesTo, Fails, IsRead, TextFault}
use Rattle.brisk_derivtext.specs.Shared.{second_text}
use Rattle.brisk_derivtext.specs.Texts.{lines_of, derivation_lines, most_nested, HasText, IsTextOf}

-- two legal lines with one text are the same
abbrev pub LinesDiffer : Type 0
LinesDiffer = (l m : Line) → IsLegal l → IsLegal m → line_text l ≡ line_text m → l ≡ m

-- a text that begins with a line, which byte 10 ends, does so in one way
abbrev pub LinesAreCut : Type 0
LinesAreCut = (l m : Line) (a b : Text) → IsLegal l → IsLegal m → line_text l ++ 10 ∷ a ≡ line_text m ++ 10 ∷ b → (l ≡ m) × (a ≡ b)

-- what is written is read back
abbrev pub WrittenIsRead : Type 0
WrittenIsRead = (text : Text) (D : Steps) → IsTextOf text D → IsRead Format1 text D

-- what is read in format 1 is the text of its steps
abbrev pub ReadIsWritten : Type 0
ReadIsWritten = (text : Text) (D : Steps) → IsRead Format1 text D → IsTextOf text D

-- a text is read as steps of one format, and of these alone
abbrev pub ReadOnce : Type 0
ReadOnce = (text : Text) (f g : Format) (D E : Steps) → IsRead f text D → IsRead g text E → (f ≡ g) × (D ≡ E)

-- two derivations with one text are the same
abbrev pub TextsDiffer : Type 0
TextsDiffer = (text : Text) (D E : Steps) → IsTextOf text D → IsTextOf text E → D ≡ E

-- a text that is read fails at no line
abbrev pub ReadStands : Type 0
ReadStands = (text : Text) (f : Format) (D : Steps) (fault : TextFault) → IsRead f text D → Fails text fault → ⊥

-- a text fails at one line alone, in one way
abbrev pub FailsOnce : Type 0
FailsOnce = (text : Text) (e f : TextFault) → Fails text e → Fails text f → e ≡ f

-- lines of format 1 that can stand begin the text of a derivation, the bound on bytes left aside
abbrev pub LinesBegin : Type 0
LinesBegin = (ls : List Line) (r : Reading) → ComesTo ls r → r.format ≡ Some Format1 → (D : Steps) × (more : List Line) × (ls ++ more ≡ derivation_lines D) × AllByRecursion IsLegal (lines_of D) × (steps_depth D ≤ most_nested)

-- lines that begin the text of a derivation can stand
abbrev pub BeginningsStand : Type 0
BeginningsStand = (D : Steps) (ls more : List Line) → HasText D → ls ++ more ≡ derivation_lines D → (r : Reading) × ComesTo ls r

-- the line with some bytes is found where there is one, and no other
abbrev pub LinesAreFound : Type 0
LinesAreFound = (b : Text) → Reads line_text IsLegal b (line_in b)

-- a text of format 2 by its grammar is read as its steps
abbrev pub GrammarIsRead : Type 0
GrammarIsRead = (text : Text) (D : Steps) → IsText2 text D → IsRead Format2 text D

-- what is read in format 2 is a text by its grammar
abbrev pub ReadIsGrammar : Type 0
ReadIsGrammar = (text : Text) (D : Steps) → IsRead Format2 text D → IsText2 text D

-- what is written in format 2 is read back
abbrev pub SecondIsRead : Type 0
SecondIsRead = (D : Steps) → HasText D → IsRead Format2 (second_text D) D
