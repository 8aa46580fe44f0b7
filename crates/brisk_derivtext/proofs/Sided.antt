-- Lines of steps lead from where they stand to where they stand, whatever the steps are.
use Rattle.std.proofs.Common.{◌≡◌, Bool, true, false, List, [], ◌∷◌, length, map, Some, None, refl, sym, ap, ◌∙◌}
use Rattle.std.specs.Prelude.{nat_lt, if◌then◌else◌, option_map}
use Rattle.std.proofs.lemmas.List.{length-map}
use Rattle.brisk_derivation.specs.Steps.{Steps, no_steps}
use Rattle.brisk_derivtext.specs.declared.line.Line.{Line}
use Rattle.brisk_derivtext.specs.declared.line.Line.TheVariants.{Head, Plain, Fork, Enter, Else, Join, Close, End, Part, EndPart, Use}
use Rattle.brisk_derivtext.specs.declared.side.Side.TheVariants.{Premise, Second}
use Rattle.brisk_derivtext.specs.declared.open.Open.{Open}
use Rattle.brisk_derivtext.specs.declared.open.Open.TheVariants.{InLoop, InFirst, InSecond}
use Rattle.brisk_derivtext.specs.Reading.{Body, in_rule, second_side, joined, closed, put}
use Rattle.brisk_derivtext.specs.Sides.{side_of, sides_of, into, crossed, out_of, put_side}
use Rattle.brisk_derivtext.specs.Texts.{most_nested}

entered_sides : (b : Body) (o : Open) → option_map sides_of (in_rule b o) ≡ into (side_of o) (sides_of b)
entered_sides b o = by (nat_lt (length b.entered) most_nested) ∙ ap (λ n. if nat_lt n most_nested then Some (side_of o ∷ sides_of b) else None) (sym (length-map b.entered side_of))
  where
    by : (t : Bool) → option_map sides_of (if t then Some record { entered = o ∷ b.entered; steps = no_steps } else None) ≡ (if t then Some (side_of o ∷ sides_of b) else None)
    by true = refl
    by false = refl

crossed_sides : (os : List Open) (a : Steps) → option_map sides_of (second_side os a) ≡ crossed (map side_of os)
crossed_sides [] a = refl
crossed_sides (InLoop before loop ∷ os) a = refl
crossed_sides (InFirst before t ∷ os) a = refl
crossed_sides (InSecond before t first ∷ os) a = refl

joined_sides : (os : List Open) (a : Steps) → option_map sides_of (joined os a) ≡ out_of Second (map side_of os)
joined_sides [] a = refl
joined_sides (InLoop before loop ∷ os) a = refl
joined_sides (InFirst before t ∷ os) a = refl
joined_sides (InSecond before t first ∷ os) a = refl

closed_sides : (os : List Open) (a : Steps) → option_map sides_of (closed os a) ≡ out_of Premise (map side_of os)
closed_sides [] a = refl
closed_sides (InLoop before loop ∷ os) a = refl
closed_sides (InFirst before t ∷ os) a = refl
closed_sides (InSecond before t first ∷ os) a = refl

-- where the lines stand behind a line is known from where they stood before
pub put_sides : (l : Line) (b : Body) → option_map sides_of (put l b) ≡ put_side l (sides_of b)
put_sides (Plain s) b = refl
put_sides (Fork t) b = entered_sides b (InFirst b.steps t)
put_sides (Enter loop) b = entered_sides b (InLoop b.steps loop)
put_sides Else b = crossed_sides b.entered b.steps
put_sides Join b = joined_sides b.entered b.steps
put_sides Close b = closed_sides b.entered b.steps
put_sides (Head f) b = refl
put_sides End b = refl
put_sides (Part n) b = refl
put_sides EndPart b = refl
put_sides (Use n) b = refl
