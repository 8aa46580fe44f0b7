-- Texts read line by line: how many lines were read, and what they come to.
use Rattle.std.specs.Prelude.{◌≡◌, ◌<◌, ℕ, ◌+◌, ◌-◌, ◌^◌, min, true, List, [], ◌∷◌, ◌++◌, drop, length, None, Result, Ok, Err}
use Rattle.brisk_lines.specs.Pieces.{Lacks}
use Rattle.brisk_text.specs.Values.{Text}
use Rattle.brisk_derivation.specs.Steps.{Steps}
use Rattle.brisk_derivtext.specs.declared.fault.DerivFault.{DerivFault}
use Rattle.brisk_derivtext.specs.declared.fault.DerivFault.TheVariants as fault
use Rattle.brisk_derivtext.specs.declared.line.Format.{Format}
use Rattle.brisk_derivtext.specs.declared.line.Line.{Line}
use Rattle.brisk_derivtext.specs.Kept.{Causes, SoFar}
use Rattle.brisk_derivtext.specs.Lines.{line_text, IsLegal}
use Rattle.brisk_derivtext.specs.Reading.{Reading, TooLong, next, read_line, IsRead, Fails, AtLine}
use Rattle.brisk_derivtext.specs.Reading as text
use Rattle.brisk_derivtext.specs.Texts.{text_of_lines}

-- a reader of lines: how many it has read, and what they come to
pub record Lined : Type 0 where
  pub count : ℕ
  pub reading : Reading

-- nothing was read
abbrev pub unread : Lined
unread = record { count = 0; reading = text.start }

-- the number of the line behind so many, or the greatest that is kept
abbrev pub number_behind : ℕ → ℕ
number_behind n = min (n + 1) (2 ^ 64 - 1)

-- the bytes are this line, with which the reader u is the reader v
pub record Takes (u : Lined) (bytes : Text) (l : Line) (v : Lined) : Type 0 where
  pub legal : IsLegal l
  pub bytes_of : bytes ≡ line_text l
  pub count : v.count ≡ number_behind u.count
  pub reads : read_line u.reading l ≡ Ok v.reading

-- why the bytes aren't the next line: with no line that they are the text goes on, or with theirs it has too many bytes
abbrev pub Refuses : Lined → Text → DerivFault → Type 0
Refuses u bytes (fault.Line k) = (k ≡ number_behind u.count) × ((l : Line) → IsLegal l → bytes ≡ line_text l → next u.reading l ≡ None)
Refuses u bytes (fault.TooLarge k) = (k ≡ number_behind u.count) × (l : Line) × IsLegal l × (bytes ≡ line_text l) × (read_line u.reading l ≡ Err TooLong)
Refuses u bytes fault.NoMemory = Unit {0}

-- the text ends before its end, and is told so
abbrev pub early : Lined → DerivFault
early u = fault.Line (number_behind u.count)

-- lines, taken one after another, lead from a reader to a reader
abbrev pub TakesAll : Lined → List Line → Lined → Type 0
TakesAll u [] v = u ≡ v
TakesAll u (l ∷ ls) v = (w : Lined) × Takes u (line_text l) l w × TakesAll w ls v

-- a line more of the text is read, the first of the rest; or the text fails there
abbrev pub GoesOn : Text → Text → Result (Lined × ℕ) DerivFault → Type 0
GoesOn text rest (Ok r) = SoFar text (drop r.1 rest) r.0.reading r.0.count
GoesOn text rest (Err f) = Causes text f

-- To read the lines of a text one by one is to read the text: at its end there are its steps; and where a line is refused,
-- or the text ends too early, the text fails there.
pub record LinesAreTheText : Type 0 where
  pub steps : (ls : List Line) (v : Lined) → TakesAll unread ls v → v.reading.ended ≡ true → (f : Format) × IsRead f (text_of_lines ls) v.reading.body.steps
  pub taken : (f : Format) (bytes : Text) (D : Steps) → IsRead f bytes D → (ls : List Line) × (v : Lined) × (bytes ≡ text_of_lines ls) × TakesAll unread ls v × (v.reading.ended ≡ true) × (v.reading.body.steps ≡ D)
  pub refused : (ls : List Line) (v : Lined) (bytes more : Text) (f : DerivFault) → TakesAll unread ls v → length ls + 1 < 2 ^ 64 → Lacks 10 bytes → Refuses v bytes f → Causes (text_of_lines ls ++ (bytes ++ 10 ∷ more)) f
  pub early : (ls : List Line) (v : Lined) (rest : Text) → TakesAll unread ls v → Lacks 10 rest → ((v.reading.ended ≡ true) × (rest ≡ []) → ⊥) → Fails (text_of_lines ls ++ rest) (AtLine (length ls + 1))
