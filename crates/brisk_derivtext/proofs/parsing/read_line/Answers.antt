use Rattle.brisk_derivtext.proofs.Forms.{no_keyword}
use Rattle.brisk_derivtext.proofs.parsing.read_line.Goals as goal

pub returns-in_default : goal.returns-in_default
returns-in_default c = no_keyword c.args.bytes.now c.cut.result.0.now c.cut.result.1.now c.cut.ensures c.in_default.ensures
