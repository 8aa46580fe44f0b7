use Rattle.std.proofs.Common.{◌≡◌, drop, map}
use Rattle.std.specs.List.{list_all}
use Rattle.brisk_syntax.specs.Classes.{fits_star}
use Rattle.brisk_syntax.specs.Texts.{text_of}
use Rattle.brisk_syntax.proofs.classes.all_fit.Given as goal

abbrev pub invariant-loop-role : goal.invariant-loop-role
invariant-loop-role l = list_all (fits_star l.centre) (map text_of (drop l.role-index l.role-items)) ≡ list_all (fits_star l.centre) l.roles
