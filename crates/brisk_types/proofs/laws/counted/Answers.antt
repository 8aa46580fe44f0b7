use Rattle.brisk_types.proofs.Spelled.{spelling_length}
use Rattle.brisk_types.proofs.laws.counted.Goals as goal

pub returns : goal.returns
returns c = spelling_length
