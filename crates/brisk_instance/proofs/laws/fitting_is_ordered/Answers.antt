use Rattle.brisk_instance.proofs.FitsOrdered.{fitting_is_ordered}
use Rattle.brisk_instance.proofs.laws.fitting_is_ordered.Goals as goal

pub returns : goal.returns
returns c = fitting_is_ordered
