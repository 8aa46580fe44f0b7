use Rattle.brisk_instance.proofs.OrderedFits.{ordered_fits}
use Rattle.brisk_instance.proofs.laws.ordered_fits.Goals as goal

pub returns : goal.returns
returns c = ordered_fits
