use Rattle.brisk_derivtext.proofs.Reused.{second_is_read}
use Rattle.brisk_derivtext.proofs.laws.second_is_read.Goals as goal

pub returns : goal.returns
returns c = second_is_read
