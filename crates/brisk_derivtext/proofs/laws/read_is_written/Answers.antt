use Rattle.brisk_derivtext.proofs.Written.{read_is_written}
use Rattle.brisk_derivtext.proofs.laws.read_is_written.Goals as goal

pub returns : goal.returns
returns c = read_is_written
