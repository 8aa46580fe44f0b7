use Rattle.brisk_derivtext.proofs.Once.{read_stands}
use Rattle.brisk_derivtext.proofs.laws.read_stands.Goals as goal

pub returns : goal.returns
returns c = read_stands
