use Rattle.brisk_async.proofs.Alone.{only_event}
use Rattle.brisk_async.proofs.laws.one_event.Goals as goal

pub returns : goal.returns
returns c = only_event
