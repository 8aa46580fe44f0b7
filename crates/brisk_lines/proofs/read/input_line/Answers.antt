use Rattle.std.proofs.Common.{◌++◌, inl, inr}
use Rattle.std.specs.Prelude.{codes}
use Rattle.brisk_lines.specs.Lines.{line_text, IsLegal}
use Rattle.brisk_lines.proofs.Cuts.{nothing_read}
use Rattle.brisk_lines.proofs.Sides.{no_input}
use Rattle.brisk_lines.proofs.read.input_line.Goals as goal

pub returns-in_err-process : goal.returns-in_err-process
returns-in_err-process c = nothing_read line_text IsLegal (codes "input " ++ c.args.rest.now) c.from_residual.result c.from_residual.ensures
    (no_input c.args.rest.now c.cut.result.0.now c.cut.result.1.now c.cut.ensures (inl c.in_err-process.ensures))

pub returns-in_err-variable : goal.returns-in_err-variable
returns-in_err-variable c = nothing_read line_text IsLegal (codes "input " ++ c.args.rest.now) c.from_residual-in_err-variable.result c.from_residual-in_err-variable.ensures
    (no_input c.args.rest.now c.cut.result.0.now c.cut.result.1.now c.cut.ensures (inr c.in_err-variable.ensures))
