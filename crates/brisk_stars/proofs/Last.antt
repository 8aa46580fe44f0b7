-- The last try of a rule loses no fact: it is closed where its premise comes to its goal.
use Rattle.std.proofs.Common.{◌≡◌, None, refl, subst}
use Rattle.brisk_search.specs.Drives.{premise_of}
use Rattle.brisk_search.proofs.Lost.{at_risk_spares, last_closes}
use Rattle.brisk_search.proofs.Sparing.{DriveKeeps, drivers_keep, rule_begins, start_fit}
use Rattle.brisk_search.proofs.Valid.{driver_leads}
use Rattle.brisk_search.proofs.Ways.{DriveLeads}
use Rattle.brisk_search.specs.Tries.{at_risk}
use Rattle.brisk_answered.proofs.Sides.{own_sides}
use Rattle.brisk_stars.specs.Rounds.{LastTriesClose}

pub last_tries_close : LastTriesClose
last_tries_close P F S rule r w why is fit entry reached c =
    let begins = rule_begins P F S rule is (at_risk P S) r entry in
    let start = start_fit P S (at_risk P S) r begins (at_risk_spares P S) fit in
    let kept = subst (DriveKeeps P r.start) reached (drivers_keep P own_sides 255 (rule.follows r) (premise_of r) r.start None start) in
    let leads = subst (DriveLeads P 1 (rule.follows r) (premise_of r) r.start) reached (driver_leads P own_sides 255 1 refl (rule.follows r) (premise_of r) r.start None) in
    last_closes P S fit r begins w.end kept.0 leads.1 why c
