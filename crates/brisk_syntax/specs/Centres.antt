-- How a partner and the one single role are asked for.
use Rattle.std.specs.Prelude.{Bool, true, List, [], ◌∷◌, Option, None, Some}
use Rattle.brisk_values.specs.Names.{Name}
use Rattle.brisk_syntax.specs.declared.tree.Who.{Who}
use Rattle.brisk_syntax.specs.Classes.{is_named}
use Rattle.brisk_syntax.specs.Roles.{RoleText}

-- the partner has the name that is wanted, if one is
abbrev pub is_wanted : Option Name → Who → Bool
is_wanted None = λ u. true
is_wanted (Some n) = is_named n

-- the name, where no further role is left
abbrev pub alone : Name → List RoleText → Option Name
alone n [] = Some n
alone n (r ∷ rs) = None

-- the name of the one role of the list
abbrev pub only_name : List RoleText → Option Name
only_name [] = None
only_name (r ∷ rs) = alone r.name rs

-- the same, where a role of this name was found before them
abbrev pub only_name_from : Option Name → List RoleText → Option Name
only_name_from None rs = only_name rs
only_name_from (Some n) rs = alone n rs
