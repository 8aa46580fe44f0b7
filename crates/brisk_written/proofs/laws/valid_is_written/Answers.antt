use Rattle.brisk_written.proofs.Written.{valid_is_written}
use Rattle.brisk_written.proofs.laws.valid_is_written.Goals as goal

pub returns : goal.returns
returns c = valid_is_written
