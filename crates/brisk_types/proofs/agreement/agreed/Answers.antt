use Rattle.brisk_types.proofs.Agreeing.{is_typed, typed_is}
use Rattle.brisk_types.proofs.agreement.agreed.Goals as goal

pub returns : goal.returns
returns c = λ P. (is_typed P, typed_is P)
