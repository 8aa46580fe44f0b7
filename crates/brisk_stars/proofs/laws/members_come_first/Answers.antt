use Rattle.brisk_stars.proofs.Orders.{members_come_first}
use Rattle.brisk_stars.proofs.laws.members_come_first.Goals as goal

pub returns : goal.returns
returns c = members_come_first
