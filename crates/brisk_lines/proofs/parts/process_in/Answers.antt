use Rattle.std.proofs.Common.{sym, subst}
use Rattle.brisk_lex.specs.Spelled.{IsName}
use Rattle.brisk_lines.specs.Lines.{process_text, IsLegalProcess}
use Rattle.brisk_lines.proofs.Cuts.{nothing_read}
use Rattle.brisk_lines.proofs.Sides.{process_parts}
use Rattle.brisk_lines.proofs.parts.process_in.Goals as goal

pub returns-in_err-role : goal.returns-in_err-role
returns-in_err-role c = nothing_read process_text IsLegalProcess c.args.bytes.now c.from_residual.result c.from_residual.ensures
    (λ p legal e. let k = process_parts c.args.bytes.now c.cut.result.0.now c.cut.result.1.now c.cut.ensures p legal e in c.in_err-role.ensures (subst IsName (sym k.0) legal.0))

pub returns-in_err-member : goal.returns-in_err-member
returns-in_err-member c = nothing_read process_text IsLegalProcess c.args.bytes.now c.from_residual-in_err-member.result c.from_residual-in_err-member.ensures
    (λ p legal e. let k = process_parts c.args.bytes.now c.cut.result.0.now c.cut.result.1.now c.cut.ensures p legal e in c.in_err-member.ensures p.member legal.1 k.1)
