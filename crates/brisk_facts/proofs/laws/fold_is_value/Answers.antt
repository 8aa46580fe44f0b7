use Rattle.brisk_facts.proofs.Folding.{fold_value}
use Rattle.brisk_facts.proofs.laws.fold_is_value.Goals as goal

pub returns : goal.returns
returns c = fold_value
