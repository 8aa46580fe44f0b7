use Rattle.brisk_derivtext.proofs.Once.{read_once}
use Rattle.brisk_derivtext.proofs.laws.read_once.Goals as goal

pub returns : goal.returns
returns c = read_once
