use Rattle.brisk_types.proofs.Spelled_items.{sequence_length}
use Rattle.brisk_types.proofs.laws.seq_counted.Goals as goal

pub returns : goal.returns
returns c = sequence_length
