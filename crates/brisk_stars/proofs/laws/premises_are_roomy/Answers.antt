use Rattle.brisk_stars.proofs.AtTop.{premises_are_roomy}
use Rattle.brisk_stars.proofs.laws.premises_are_roomy.Goals as goal

pub returns : goal.returns
returns c = premises_are_roomy
