use Rattle.brisk_stars.proofs.Sets.{sets_go_or_leave}
use Rattle.brisk_stars.proofs.laws.sets_go_or_leave.Goals as goal

pub returns : goal.returns
returns c = sets_go_or_leave
