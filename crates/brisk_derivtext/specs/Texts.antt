-- The text of steps in format 1.
use Rattle.std.specs.Prelude.{◌≡◌, ℕ, ◌≤◌, List, [], ◌∷◌, ◌++◌, length}
use Rattle.std.specs.List.{AllByRecursion}
use Rattle.brisk_text.specs.Values.{Text}
use Rattle.brisk_derivation.specs.Depths.{steps_depth}
use Rattle.brisk_derivation.specs.Steps.{Step, Basic, Branch, Steps, no_steps, ◌▷◌}
use Rattle.brisk_derivation.specs.Steps as tree
use Rattle.brisk_derivtext.specs.declared.line.Format.TheVariants.{Format1}
use Rattle.brisk_derivtext.specs.declared.line.Loop.TheVariants.{While, For, Repeat, Gather, Pick}
use Rattle.brisk_derivtext.specs.declared.line.Line.{Line}
use Rattle.brisk_derivtext.specs.declared.line.Line.TheVariants.{Head, Plain, Fork, Enter, Else, Join, Close, End}
use Rattle.brisk_derivtext.specs.Lines.{line_text, IsLegal}

-- the text of lines, each of which ends with byte 10
abbrev pub text_of_lines : List Line → Text
text_of_lines [] = []
text_of_lines (l ∷ ls) = line_text l ++ 10 ∷ text_of_lines ls

-- the first line of a step
abbrev pub first_line : Step → Line
first_line (Basic b) = Plain b
first_line (Branch t a b) = Fork t
first_line (tree.While t drops a) = Enter (While t drops)
first_line (tree.For s ts drops a) = Enter (For s ts drops)
first_line (tree.Repeat t drops a) = Enter (Repeat t drops)
first_line (tree.Gather t drops a) = Enter (Gather t drops)
first_line (tree.Pick t drops a) = Enter (Pick t drops)

-- the lines of a step, and of steps one after another
abbrev mutual
  pub lines_in : Step → List Line
  lines_in (Basic b) = Plain b ∷ []
  lines_in (Branch t a b) = Fork t ∷ (lines_of a ++ Else ∷ (lines_of b ++ Join ∷ []))
  lines_in (tree.While t drops a) = Enter (While t drops) ∷ (lines_of a ++ Close ∷ [])
  lines_in (tree.For s ts drops a) = Enter (For s ts drops) ∷ (lines_of a ++ Close ∷ [])
  lines_in (tree.Repeat t drops a) = Enter (Repeat t drops) ∷ (lines_of a ++ Close ∷ [])
  lines_in (tree.Gather t drops a) = Enter (Gather t drops) ∷ (lines_of a ++ Close ∷ [])
  lines_in (tree.Pick t drops a) = Enter (Pick t drops) ∷ (lines_of a ++ Close ∷ [])

  pub lines_of : Steps → List Line
  lines_of no_steps = []
  lines_of (s ▷ rest) = lines_in s ++ lines_of rest

-- the lines of a derivation
abbrev pub derivation_lines : Steps → List Line
derivation_lines D = Head Format1 ∷ (lines_of D ++ End ∷ [])

-- the text of a derivation
abbrev pub derivation_text : Steps → Text
derivation_text D = text_of_lines (derivation_lines D)

-- how deep compound steps may nest in a text, and how many bytes the lines of its steps may have
abbrev pub most_nested : ℕ
most_nested = 1024

abbrev pub most_bytes : ℕ
most_bytes = 16777216

-- the lines have no more bytes than a text may have
abbrev pub AreFew : List Line → Type 0
AreFew ls = length (text_of_lines ls) ≤ most_bytes

-- the steps have a text: names and box numbers are legal, and they are neither nested too deep nor too long
pub record HasText (D : Steps) : Type 0 where
  pub legal : AllByRecursion IsLegal (lines_of D)
  pub nested : steps_depth D ≤ most_nested
  pub few : AreFew (lines_of D)

-- the bytes are the text of these steps in format 1
abbrev pub IsTextOf : Text → Steps → Type 0
IsTextOf text D = HasText D × (text ≡ derivation_text D)
