use Rattle.brisk_lines.proofs.Cuts.{nothing_read}
use Rattle.brisk_derivtext.specs.declared.keyword.Keyword.TheVariants.{Fill}
use Rattle.brisk_derivtext.specs.Pieces.{tail_text, IsOf}
use Rattle.brisk_derivtext.proofs.Forms.{none_filled}
use Rattle.brisk_derivtext.proofs.parsing.filled.Goals as goal

pub returns-in_err-sender : goal.returns-in_err-sender
returns-in_err-sender c = nothing_read tail_text (IsOf Fill) c.args.rest.now c.from_residual.result c.from_residual.ensures (none_filled c.args.rest.now c.in_err-sender.ensures)
