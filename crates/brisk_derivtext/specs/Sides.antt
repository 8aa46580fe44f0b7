-- Lines of steps read without keeping the steps: of each open rule it is known where in it the lines stand.
use Rattle.std.specs.Prelude.{nat_lt, if◌then◌else◌, List, ◌∷◌, length, map, Option, Some, None}
use Rattle.brisk_derivtext.specs.declared.line.Line.{Line}
use Rattle.brisk_derivtext.specs.declared.line.Line.TheVariants.{Plain, Fork, Enter, Else, Join, Close}
use Rattle.brisk_derivtext.specs.declared.side.Side.{Side}
use Rattle.brisk_derivtext.specs.declared.side.Side.TheVariants.{Premise, First, Second}
use Rattle.brisk_derivtext.specs.declared.open.Open.{Open}
use Rattle.brisk_derivtext.specs.declared.open.Open.TheVariants.{InLoop, InFirst, InSecond}
use Rattle.brisk_derivtext.specs.Reading.{Body}
use Rattle.brisk_derivtext.specs.Texts.{most_nested}

-- where in a rule the lines stand
abbrev pub side_of : Open → Side
side_of (InLoop before loop) = Premise
side_of (InFirst before t) = First
side_of (InSecond before t first) = Second

-- the same for all rules that are entered, the innermost first
abbrev pub sides_of : Body → List Side
sides_of b = map side_of b.entered

-- a rule is entered, unless too many are
abbrev pub into : Side → List Side → Option (List Side)
into s sides = if nat_lt (length sides) most_nested then Some (s ∷ sides) else None

-- the second side of a branch comes next
abbrev pub crossed : List Side → Option (List Side)
crossed (First ∷ more) = Some (Second ∷ more)
crossed sides = None

-- a branch ends, and a rule with one premise ends
abbrev pub out_of : Side → List Side → Option (List Side)
out_of Second (Second ∷ more) = Some more
out_of Premise (Premise ∷ more) = Some more
out_of s sides = None

-- a line of steps is read; none is where such lines can't go on so
abbrev pub put_side : Line → List Side → Option (List Side)
put_side (Plain s) sides = Some sides
put_side (Fork t) sides = into First sides
put_side (Enter loop) sides = into Premise sides
put_side Else sides = crossed sides
put_side Join sides = out_of Second sides
put_side Close sides = out_of Premise sides
put_side l sides = None
