use Rattle.brisk_types.proofs.Sequencing.{seq_typed, typed_seq}
use Rattle.brisk_types.proofs.agreement.seq_agreed.Goals as goal

pub returns : goal.returns
returns c = λ Q. (seq_typed Q, typed_seq Q)
