use Rattle.brisk_derivtext.proofs.Forms.{none_dropping}
use Rattle.brisk_derivtext.proofs.parsing.dropping.Goals as goal

pub returns-in_default : goal.returns-in_default
returns-in_default c = none_dropping c.args.keyword c.args.rest.now c.requires (rw c.in_default.is at c.in_ok-name.ensures)
