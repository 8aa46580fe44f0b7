use Rattle.brisk_async.proofs.Alone.{front_first}
use Rattle.brisk_async.proofs.laws.front.Goals as goal

pub returns : goal.returns
returns c = front_first
