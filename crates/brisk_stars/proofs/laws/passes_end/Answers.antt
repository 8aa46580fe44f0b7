use Rattle.brisk_stars.proofs.Passes.{passes_end}
use Rattle.brisk_stars.proofs.laws.passes_end.Goals as goal

pub returns : goal.returns
returns c = passes_end
