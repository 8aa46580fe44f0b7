use Rattle.brisk_async.proofs.Named.{head_back}
use Rattle.brisk_async.proofs.laws.named_back.Goals as goal

pub returns : goal.returns
returns c = head_back
