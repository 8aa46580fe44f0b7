use Rattle.brisk_lines.proofs.Cuts.{nothing_read}
use Rattle.brisk_derivtext.specs.Pieces.{tail_text, IsOf}
use Rattle.brisk_derivtext.proofs.Forms.{none_sent}
use Rattle.brisk_derivtext.proofs.parsing.sent.Goals as goal

pub returns-in_err-sender : goal.returns-in_err-sender
returns-in_err-sender c = nothing_read tail_text (IsOf c.args.keyword) c.args.rest.now c.from_residual.result c.from_residual.ensures (none_sent c.args.keyword c.args.rest.now c.requires c.in_err-sender.ensures)
