use Rattle.std.proofs.Common.{◌++◌, inl, inr}
use Rattle.std.specs.Prelude.{codes}
use Rattle.brisk_lines.specs.Lines.{line_text, IsLegal}
use Rattle.brisk_lines.proofs.Cuts.{nothing_read}
use Rattle.brisk_lines.proofs.Sides.{no_size}
use Rattle.brisk_lines.proofs.read.size_line.Goals as goal

pub returns-in_err-set : goal.returns-in_err-set
returns-in_err-set c = nothing_read line_text IsLegal (codes "size " ++ c.args.rest.now) c.from_residual.result c.from_residual.ensures
    (no_size c.args.rest.now c.cut.result.0.now c.cut.result.1.now c.cut.ensures (inl c.in_err-set.ensures))

pub returns-in_err-size : goal.returns-in_err-size
returns-in_err-size c = nothing_read line_text IsLegal (codes "size " ++ c.args.rest.now) c.from_residual-in_err-size.result c.from_residual-in_err-size.ensures
    (no_size c.args.rest.now c.cut.result.0.now c.cut.result.1.now c.cut.ensures (inr c.in_err-size.ensures))
