use Rattle.brisk_async.proofs.Begins.{kinds_hold}
use Rattle.brisk_async.proofs.laws.kinds_hold.Goals as goal

pub returns : goal.returns
returns c = kinds_hold
