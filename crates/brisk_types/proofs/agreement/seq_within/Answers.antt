use Rattle.brisk_types.proofs.Bounding_items.{sequence_below}
use Rattle.brisk_types.proofs.agreement.seq_within.Goals as goal

pub returns : goal.returns
returns c = sequence_below
