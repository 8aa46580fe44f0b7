use Rattle.brisk_derivtext.proofs.Once.{fails_once}
use Rattle.brisk_derivtext.proofs.laws.fails_once.Goals as goal

pub returns : goal.returns
returns c = fails_once
