use Rattle.brisk_types.proofs.Bounding.{program_below}
use Rattle.brisk_types.proofs.agreement.within.Goals as goal

pub returns : goal.returns
returns c = program_below
