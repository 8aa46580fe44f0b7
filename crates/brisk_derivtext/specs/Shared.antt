-- The text of steps in format 2: each compound step that stands twice is a part, and is used by its name.
use Rattle.std.specs.Prelude.{◌≡◌, ℕ, ◌+◌, Bool, true, false, if◌then◌else◌, List, [], ◌∷◌, ◌++◌, length, codes, Option, Some, None}
use Rattle.std.specs.Fmt.{decimal}
use Rattle.brisk_text.specs.Values.{Text}
use Rattle.brisk_values.specs.Names.{Name}
use Rattle.brisk_derivation.specs.Steps.{Step, Basic, Branch, Steps, no_steps, ◌▷◌}
use Rattle.brisk_derivation.specs.Steps as tree
use Rattle.brisk_derivtext.specs.declared.line.Format.TheVariants.{Format2}
use Rattle.brisk_derivtext.specs.declared.line.Line.{Line}
use Rattle.brisk_derivtext.specs.declared.line.Line.TheVariants.{Head, End}
use Rattle.brisk_derivtext.specs.declared.line.Loop.TheVariants.{While, For, Repeat, Gather, Pick}
use Rattle.brisk_derivtext.specs.Alike.{same_step}
use Rattle.brisk_derivtext.specs.Parts as place
use Rattle.brisk_derivtext.specs.Parts.{Place, Places, nowhere, ◌⊳◌, Forked, Looped, Used, Written, parts_lines, places_lines}
use Rattle.brisk_derivtext.specs.Texts.{text_of_lines}

-- ---- which steps are parts

-- a compound step that was met, and whether it was met again
pub record Met : Type 0 where
  pub step : Step
  pub again : Bool

-- a compound step is met: for the first time, or again
abbrev pub meet : List Met → Step → List Met
meet [] s = record { step = s; again = false } ∷ []
meet (m ∷ ms) s = if same_step m.step s then record { step = m.step; again = true } ∷ ms else m ∷ meet ms s

-- the compound steps of a step, and of steps, are met in the order of the lines at which they end in format 1
abbrev mutual
  pub meet_in : List Met → Step → List Met
  meet_in ms (Basic b) = ms
  meet_in ms (Branch t a b) = meet (meet_all (meet_all ms a) b) (Branch t a b)
  meet_in ms (tree.While t drops a) = meet (meet_all ms a) (tree.While t drops a)
  meet_in ms (tree.For s ts drops a) = meet (meet_all ms a) (tree.For s ts drops a)
  meet_in ms (tree.Repeat t drops a) = meet (meet_all ms a) (tree.Repeat t drops a)
  meet_in ms (tree.Gather t drops a) = meet (meet_all ms a) (tree.Gather t drops a)
  meet_in ms (tree.Pick t drops a) = meet (meet_all ms a) (tree.Pick t drops a)

  pub meet_all : List Met → Steps → List Met
  meet_all ms no_steps = ms
  meet_all ms (s ▷ rest) = meet_all (meet_in ms s) rest

-- those that were met again
abbrev pub met_again : List Met → List Step
met_again [] = []
met_again (m ∷ ms) = if m.again then m.step ∷ met_again ms else met_again ms

-- the parts of steps
abbrev pub parts_of : Steps → List Step
parts_of a = met_again (meet_all [] a)

-- ---- parts and their uses

-- the name of the part of this number
abbrev pub part_name : ℕ → Name
part_name k = codes "p" ++ decimal k

-- the name of the part that a step is, where the first of these parts has the number k
abbrev pub name_from : ℕ → List Step → Step → Option Name
name_from k [] s = None
name_from k (p ∷ ps) s = if same_step p s then Some (part_name k) else name_from (k + 1) ps s

-- the same; a step by a basic rule is no part
abbrev pub name_of : List Step → Step → Option Name
name_of ps (Basic b) = None
name_of ps s = name_from 1 ps s

-- the use of a part, if there is one, or else this place
abbrev pub used : Option Name → Place → Place
used (Some n) x = Used n
used None x = x

-- the place of a step itself, with the uses of parts in it, and the places of steps
abbrev mutual
  pub opened : List Step → Step → Place
  opened ps (Basic b) = place.Step b
  opened ps (Branch t a b) = Forked t (shared ps a) (shared ps b)
  opened ps (tree.While t drops a) = Looped (While t drops) (shared ps a)
  opened ps (tree.For s ts drops a) = Looped (For s ts drops) (shared ps a)
  opened ps (tree.Repeat t drops a) = Looped (Repeat t drops) (shared ps a)
  opened ps (tree.Gather t drops a) = Looped (Gather t drops) (shared ps a)
  opened ps (tree.Pick t drops a) = Looped (Pick t drops) (shared ps a)

  pub shared : List Step → Steps → Places
  shared ps no_steps = nowhere
  shared ps (s ▷ rest) = used (name_of ps s) (opened ps s) ⊳ shared ps rest

-- a part behind those before it, and parts one after another
abbrev pub part : List Step → Step → Written
part before p = record { name = part_name (length before + 1); places = opened before p ⊳ nowhere }

abbrev pub written : List Step → List Step → List Written
written before [] = []
written before (p ∷ more) = part before p ∷ written (before ++ p ∷ []) more

-- the lines and the text of a derivation in format 2
abbrev pub second_lines : Steps → List Line
second_lines D =
    Head Format2 ∷ (parts_lines (written [] (parts_of D)) ++ (places_lines (shared (parts_of D) D) ++ End ∷ []))

abbrev pub second_text : Steps → Text
second_text D = text_of_lines (second_lines D)
