-- Texts of format 2 by their grammar: parts and steps, in which parts are used.
use Rattle.std.specs.Prelude.{◌≡◌, ◌≤◌, List, [], ◌∷◌, ◌++◌, Option, Some, None, option_map}
use Rattle.std.specs.List.{AllByRecursion}
use Rattle.brisk_text.specs.Values.{Text}
use Rattle.brisk_values.specs.Names.{Name}
use Rattle.brisk_derivation.specs.declared.steps.BasicStep.{BasicStep}
use Rattle.brisk_derivation.specs.Depths.{steps_depth}
use Rattle.brisk_derivation.specs.Steps.{Basic, Branch, Steps, no_steps, ◌▷◌}
use Rattle.brisk_derivtext.specs.declared.line.Format.TheVariants.{Format2}
use Rattle.brisk_derivtext.specs.declared.line.Loop.{Loop}
use Rattle.brisk_derivtext.specs.declared.line.Line.{Line}
use Rattle.brisk_derivtext.specs.declared.line.Line.TheVariants.{Head, Plain, Fork, Enter, Else, Join, Close, End, Part, EndPart, Use}
use Rattle.brisk_derivtext.specs.Lines.{IsLegal}
use Rattle.brisk_derivtext.specs.Reading.{Ended, part_named, around, ◌then◌}
use Rattle.brisk_derivtext.specs.Texts.{text_of_lines, lines_of, most_nested, AreFew}

infixr 6 ◌⊳◌
-- a place among steps: a step, or the use of a part; and places one after another
mutual
  pub data Place : Type 0 where
    Step : (b : BasicStep) → Place
    Forked : (t : Name) (first second : Places) → Place
    Looped : (loop : Loop) (premise : Places) → Place
    Used : (name : Name) → Place

  pub data Places : Type 0 where
    nowhere : Places
    ◌⊳◌ : (x : Place) (rest : Places) → Places

-- the lines of a place, and of places one after another
abbrev mutual
  pub place_lines : Place → List Line
  place_lines (Step b) = Plain b ∷ []
  place_lines (Forked t a b) = Fork t ∷ (places_lines a ++ Else ∷ (places_lines b ++ Join ∷ []))
  place_lines (Looped loop a) = Enter loop ∷ (places_lines a ++ Close ∷ [])
  place_lines (Used n) = Use n ∷ []

  pub places_lines : Places → List Line
  places_lines nowhere = []
  places_lines (x ⊳ rest) = place_lines x ++ places_lines rest

-- steps, and steps behind them, where there are both
abbrev pub both_steps : Option Steps → Option Steps → Option Steps
both_steps None p = None
both_steps (Some a) None = None
both_steps (Some a) (Some b) = Some (a then b)

-- a branch with these sides
abbrev pub forked : Name → Option Steps → Option Steps → Option Steps
forked t None p = None
forked t (Some a) None = None
forked t (Some a) (Some b) = Some (Branch t a b ▷ no_steps)

-- the steps, with those of parts in place of their uses; none where a part isn't there
abbrev mutual
  pub put_in : List Ended → Place → Option Steps
  put_in ps (Step b) = Some (Basic b ▷ no_steps)
  put_in ps (Forked t a b) = forked t (in_place ps a) (in_place ps b)
  put_in ps (Looped loop a) = option_map (λ p. around loop p ▷ no_steps) (in_place ps a)
  put_in ps (Used n) = part_named n ps

  pub in_place : List Ended → Places → Option Steps
  in_place ps nowhere = Some no_steps
  in_place ps (x ⊳ rest) = both_steps (put_in ps x) (in_place ps rest)

-- a part as it is written
pub record Written : Type 0 where
  pub name : Name
  pub places : Places

-- the lines of a part, and of parts one after another
abbrev pub part_lines : Written → List Line
part_lines w = Part w.name ∷ (places_lines w.places ++ EndPart ∷ [])

abbrev pub parts_lines : List Written → List Line
parts_lines [] = []
parts_lines (w ∷ ws) = part_lines w ++ parts_lines ws

-- the steps may stand in a text: they aren't nested too deep, and have not too many bytes
abbrev pub AreWithin : Steps → Type 0
AreWithin a = (steps_depth a ≤ most_nested) × AreFew (lines_of a)

-- behind the parts ps these parts may stand, and then there are the parts qs: each has another name than those before, and
-- uses parts before it alone
abbrev pub PartsStand : List Ended → List Written → List Ended → Type 0
PartsStand ps [] qs = ps ≡ qs
PartsStand ps (w ∷ ws) qs =
    (part_named w.name ps ≡ None) × (a : Steps) × (in_place ps w.places ≡ Some a) × AreWithin a × PartsStand (record { name = w.name; steps = a } ∷ ps) ws qs

-- the bytes are a text of these steps in format 2
pub record IsText2 (text : Text) (D : Steps) : Type 0 where
  pub parts : List Written
  pub main : Places
  pub ended : List Ended
  pub stand : PartsStand [] parts ended
  pub steps : in_place ended main ≡ Some D
  pub within : AreWithin D
  pub legal : AllByRecursion IsLegal (Head Format2 ∷ (parts_lines parts ++ (places_lines main ++ End ∷ [])))
  pub bytes : text ≡ text_of_lines (Head Format2 ∷ (parts_lines parts ++ (places_lines main ++ End ∷ [])))
