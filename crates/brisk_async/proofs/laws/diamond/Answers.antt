use Rattle.brisk_async.proofs.Orders.{two_orders}
use Rattle.brisk_async.proofs.laws.diamond.Goals as goal

pub returns : goal.returns
returns c = two_orders
