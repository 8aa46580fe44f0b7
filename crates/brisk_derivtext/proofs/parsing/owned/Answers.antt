use Rattle.brisk_derivtext.proofs.Forms.{none_owned}
use Rattle.brisk_derivtext.proofs.parsing.owned.Goals as goal

pub returns-in_default : goal.returns-in_default
returns-in_default c = none_owned c.args.rest.now (rw c.in_default.is at c.in_ok-set.ensures)
