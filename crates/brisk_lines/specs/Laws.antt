-- What holds of lines.
use Rattle.std.specs.Prelude.{◌≡◌, ◌++◌, codes}
use Rattle.brisk_text.specs.Values.{Text}
use Rattle.brisk_lines.specs.declared.line.Line.{Line}
use Rattle.brisk_lines.specs.Lines.{line_text, IsLegal}

-- two legal lines with one text are the same
abbrev pub LinesDiffer : Type 0
LinesDiffer = (l m : Line) → IsLegal l → IsLegal m → line_text l ≡ line_text m → l ≡ m

-- a text that begins with a line, which byte 10 ends, does so in one way
abbrev pub LinesAreCut : Type 0
LinesAreCut = (l m : Line) (a b : Text) → IsLegal l → IsLegal m → line_text l ++ codes "\n" ++ a ≡ line_text m ++ codes "\n" ++ b → (l ≡ m) × (a ≡ b)
