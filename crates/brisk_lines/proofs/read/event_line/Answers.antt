use Rattle.std.proofs.Common.{◌++◌, inl, inr}
use Rattle.std.specs.Prelude.{codes}
use Rattle.brisk_lines.specs.Lines.{line_text, IsLegal}
use Rattle.brisk_lines.proofs.Cuts.{nothing_read}
use Rattle.brisk_lines.proofs.Sides.{no_event}
use Rattle.brisk_lines.proofs.read.event_line.Goals as goal

pub returns-in_err-process : goal.returns-in_err-process
returns-in_err-process c = nothing_read line_text IsLegal (codes "event " ++ c.args.rest.now) c.from_residual.result c.from_residual.ensures
    (no_event c.args.rest.now c.cut.result.0.now c.cut.result.1.now c.cut.ensures (inl c.in_err-process.ensures))

pub returns-in_err-sender : goal.returns-in_err-sender
returns-in_err-sender c = nothing_read line_text IsLegal (codes "event " ++ c.args.rest.now) c.from_residual-in_err-sender.result c.from_residual-in_err-sender.ensures
    (no_event c.args.rest.now c.cut.result.0.now c.cut.result.1.now c.cut.ensures (inr c.in_err-sender.ensures))
