use Rattle.std.proofs.Common.{inl, inr, sym, ◌∙◌}
use Rattle.brisk_lines.specs.Pieces.{end_text, IsLegalEnd}
use Rattle.brisk_lines.proofs.Cuts.{nothing_read}
use Rattle.brisk_lines.proofs.Sides.{no_end}
use Rattle.brisk_lines.proofs.read.end_in.Goals as goal

pub returns-in_err-sender : goal.returns-in_err-sender
returns-in_err-sender c = nothing_read end_text IsLegalEnd c.args.bytes.now c.from_residual-in_err-sender.result c.from_residual-in_err-sender.ensures (λ x legal e.
    no_end c.in-Some.after.now c.cut.result.0.now c.cut.result.1.now c.cut.ensures (inl c.in_err-sender.ensures) x.0 x.1 legal.0 legal.1 (sym c.in-Some.ensures ∙ e))

pub returns-in_err-place : goal.returns-in_err-place
returns-in_err-place c = nothing_read end_text IsLegalEnd c.args.bytes.now c.from_residual-in_err-place.result c.from_residual-in_err-place.ensures (λ x legal e.
    no_end c.in-Some.after.now c.cut.result.0.now c.cut.result.1.now c.cut.ensures (inr c.in_err-place.ensures) x.0 x.1 legal.0 legal.1 (sym c.in-Some.ensures ∙ e))
