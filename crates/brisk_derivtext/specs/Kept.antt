-- What lines come to, as it is kept.
use Rattle.std.specs.Prelude.{◌≡◌, ℕ, true, List, ◌++◌, length, map, reverse, Option, Some, None, Result, Ok, Err}
use Rattle.brisk_text.specs.Values.{Text}
use Rattle.brisk_derivtext.specs.declared.body.Body as steps_kept
use Rattle.brisk_derivtext.specs.declared.fault.DerivFault.{DerivFault}
use Rattle.brisk_derivtext.specs.declared.fault.DerivFault.TheVariants as fault
use Rattle.brisk_derivtext.specs.declared.frame.Frame.{Frame}
use Rattle.brisk_derivtext.specs.declared.line.Format.{Format}
use Rattle.brisk_derivtext.specs.declared.line.Line.{Line}
use Rattle.brisk_derivtext.specs.declared.part.Part.{Part}
use Rattle.brisk_derivtext.specs.declared.reading.Reading as lines_kept
use Rattle.brisk_derivtext.specs.declared.refusal.Refusal.{Refusal}
use Rattle.brisk_derivtext.specs.declared.refusal.Refusal.TheVariants.{NoLine, TooLong, NoMemory}
use Rattle.brisk_derivtext.specs.Lines.{BeginsWith}
use Rattle.brisk_derivtext.specs.Reading.{Body, Ended, Reading, Trouble, lines_so_far, ComesTo, Fails, AtLine, TooLarge}
use Rattle.brisk_derivtext.specs.Reading as text
use Rattle.brisk_derivtext.specs.Texts.{text_of_lines, AreFew}

-- ---- steps

-- the rules that are entered stand the innermost last
abbrev pub body_of : steps_kept.Body → Body
body_of b = record { entered = reverse b.entered.items; steps = b.steps }

-- the steps go on so; or no text goes on so; or there is no memory
abbrev pub Keeps : Option Body → Result steps_kept.Body Refusal → Type 0
Keeps o (Ok b) = o ≡ Some (body_of b)
Keeps o (Err NoLine) = o ≡ None
Keeps o (Err TooLong) = ⊥
Keeps o (Err NoMemory) = Unit {0}

-- ---- parts

abbrev pub ended_of : Part → Ended
ended_of p = record { name = p.name; steps = p.steps }

-- the parts stand the last one last
abbrev pub parts_of : List Part → List Ended
parts_of ps = reverse (map ended_of ps)

-- ---- lines

-- what lines come to, where these are the steps
abbrev pub around : Frame → Body → Reading
around f b = record { format = f.format; parts = parts_of f.parts.items; part = f.part; main = f.main; body = b; ended = f.ended }

abbrev pub reading_of : lines_kept.Reading → Reading
reading_of r = around r.frame (body_of r.body)

-- so many bytes the lines of format 1 have
abbrev pub Counts : ℕ → Body → Type 0
Counts n b = n ≡ length (text_of_lines (lines_so_far b))

-- the bytes of the lines of format 1 are counted, and they aren't too many
pub record IsCounted (r : lines_kept.Reading) : Type 0 where
  pub counted : Counts r.bytes (body_of r.body)
  pub few : AreFew (lines_so_far (body_of r.body))

-- the line stands, or it is refused so, or there is no memory
abbrev pub Stands : Result Reading Trouble → Result lines_kept.Reading Refusal → Type 0
Stands x (Ok r) = (x ≡ Ok (reading_of r)) × IsCounted r
Stands x (Err NoLine) = x ≡ Err text.NoLine
Stands x (Err TooLong) = x ≡ Err text.TooLong
Stands x (Err NoMemory) = Unit {0}

-- ---- texts

-- no line stands in front
abbrev pub NoLineBegins : Text → Type 0
NoLineBegins rest = (l : Line) (more : Text) → BeginsWith rest l more → ⊥

-- behind the first k lines of the text the rest stands, and they come to this
pub record SoFar (text rest : Text) (r : Reading) (k : ℕ) : Type 0 where
  pub before : List Line
  pub parts : text ≡ text_of_lines before ++ rest
  pub comes : ComesTo before r
  pub lines : k ≡ length before
  pub format : r.ended ≡ true → (f : Format) × (r.format ≡ Some f)

-- the text fails so, or there is no memory
abbrev pub Causes : Text → DerivFault → Type 0
Causes text (fault.Line k) = Fails text (AtLine k)
Causes text (fault.TooLarge k) = Fails text (TooLarge k)
Causes text fault.NoMemory = Unit {0}

-- what a refusal at this line is told as
abbrev pub fault_at : Refusal → ℕ → DerivFault
fault_at NoLine k = fault.Line k
fault_at TooLong k = fault.TooLarge k
fault_at NoMemory k = fault.NoMemory
