use Rattle.brisk_stars.proofs.Overtaken.{left_over_overtakes}
use Rattle.brisk_stars.proofs.laws.left_over_overtakes.Goals as goal

pub returns : goal.returns
returns c = left_over_overtakes
