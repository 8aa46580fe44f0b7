use Rattle.brisk_stars.proofs.Refusals.{stars_are_never_refused_emptily}
use Rattle.brisk_stars.proofs.laws.stars_are_never_refused_emptily.Goals as goal

pub returns : goal.returns
returns c = stars_are_never_refused_emptily
