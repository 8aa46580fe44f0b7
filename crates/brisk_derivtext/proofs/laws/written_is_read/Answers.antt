use Rattle.brisk_derivtext.proofs.Written.{written_is_read}
use Rattle.brisk_derivtext.proofs.laws.written_is_read.Goals as goal

pub returns : goal.returns
returns c = written_is_read
