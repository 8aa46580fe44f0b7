-- How values are written, as bytes.
use Rattle.std.specs.Prelude.{ℕ, Bool, true, false, List, ◌++◌, codes}
use Rattle.std.specs.Fmt.{signed_decimal}
use Rattle.brisk_values.specs.Names.{Name}
use Rattle.brisk_values.specs.declared.value.Value.{Value}
use Rattle.brisk_values.specs.declared.value.Value.TheVariants as value

abbrev pub Text : Type 0
Text = List ℕ

abbrev pub truth : Bool → Text
truth true = codes "true"
truth false = codes "false"

-- a tag with its enumeration
abbrev pub tag : Name → Name → Text
tag e x = e ++ codes "." ++ x

-- a value, as an answer shows it
abbrev pub value_text : Value → Text
value_text (value.Int n) = signed_decimal n
value_text (value.Bool b) = truth b
value_text (value.Tag e x) = tag e x
