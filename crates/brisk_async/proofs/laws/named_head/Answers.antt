use Rattle.brisk_async.proofs.Named.{head_named}
use Rattle.brisk_async.proofs.laws.named_head.Goals as goal

pub returns : goal.returns
returns c = head_named
