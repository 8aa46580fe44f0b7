use Rattle.brisk_stars.proofs.Doubled.{left_over_at_two}
use Rattle.brisk_stars.proofs.laws.left_over_at_two.Goals as goal

pub returns : goal.returns
returns c = left_over_at_two
