-- The words that have a form.
use Rattle.std.specs.Prelude.{ℕ, zero, suc, List, [], ◌∷◌, codes, Option, Some, None, option_map, if◌then◌else◌}
use Rattle.std.specs.Fmt.{decimal}
use Rattle.std.specs.Str.{bytes_eq}
use Rattle.brisk_cli.specs.Files.{Text}

-- `rewrite F`, `derive F`, `check F SEQ DERIV`, `run F SCHEDULE` and `order SEQ CHOICES`, with the names of their files, and
-- `drill N` with its number
pub data Command : Type 0 where
  Rewrite : (source : Text) → Command
  Derive : (source : Text) → Command
  Check : (source sequential derivation : Text) → Command
  Run : (source schedule : Text) → Command
  Order : (sequential choices : Text) → Command
  Drill : (number : ℕ) → Command

-- the number from 1 to n whose decimal digits are the word, which has no leading zero then
abbrev pub number_up_to : ℕ → Text → Option ℕ
number_up_to zero w = None
number_up_to (suc n) w = if bytes_eq w (decimal (suc n)) then Some (suc n) else number_up_to n w

-- the number of a drill
unfoldable pub drill_number : Text → Option ℕ
drill_number w = number_up_to 250 w

-- the command of two words that name no file
unfoldable pub drill_of : Text → Text → Option Command
drill_of w n = if bytes_eq w (codes "drill") then option_map Drill (drill_number n) else None

-- the command of words, if they have a form
abbrev pub command_of : List Text → Option Command
command_of (w ∷ f ∷ []) =
    if bytes_eq w (codes "rewrite") then Some (Rewrite f) else if bytes_eq w (codes "derive") then Some (Derive f) else drill_of w f
command_of (w ∷ f ∷ g ∷ []) =
    if bytes_eq w (codes "run") then Some (Run f g) else if bytes_eq w (codes "order") then Some (Order f g) else None
command_of (w ∷ f ∷ g ∷ h ∷ []) = if bytes_eq w (codes "check") then Some (Check f g h) else None
command_of words = None
