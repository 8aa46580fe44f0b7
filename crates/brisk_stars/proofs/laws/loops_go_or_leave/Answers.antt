use Rattle.brisk_stars.proofs.AtTop.{loops_go_or_leave}
use Rattle.brisk_stars.proofs.laws.loops_go_or_leave.Goals as goal

pub returns : goal.returns
returns c = loops_go_or_leave
