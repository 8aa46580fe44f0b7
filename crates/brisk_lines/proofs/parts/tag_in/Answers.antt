use Rattle.std.proofs.Common.{sym, subst, ◌∙◌}
use Rattle.std.specs.Prelude.{codes}
use Rattle.std.proofs.lemmas.List.{append_cancel_left}
use Rattle.brisk_lex.specs.Spelled.{IsName}
use Rattle.brisk_lines.specs.Pieces.{tag_text, IsLegalTag}
use Rattle.brisk_lines.proofs.Cuts.{nothing_read}
use Rattle.brisk_lines.proofs.Sides.{tag_parts}
use Rattle.brisk_lines.proofs.parts.tag_in.Goals as goal

pub returns-in_err-enumeration : goal.returns-in_err-enumeration
returns-in_err-enumeration c = nothing_read tag_text IsLegalTag c.args.bytes.now c.from_residual.result c.from_residual.ensures
    (λ t legal e. let k = tag_parts c.args.bytes.now c.cut.result.0.now c.cut.result.1.now c.cut.ensures t legal e in c.in_err-enumeration.ensures (subst IsName (sym k.0) legal.0))

pub returns-in_err-behind : goal.returns-in_err-behind
returns-in_err-behind c = nothing_read tag_text IsLegalTag c.args.bytes.now c.from_residual-in_err-behind.result c.from_residual-in_err-behind.ensures
    (λ t legal e. let k = tag_parts c.args.bytes.now c.cut.result.0.now c.cut.result.1.now c.cut.ensures t legal e in c.in_err-behind.ensures t.1 k.1)

pub returns-in_err-tag : goal.returns-in_err-tag
returns-in_err-tag c = nothing_read tag_text IsLegalTag c.args.bytes.now c.from_residual-in_err-tag.result c.from_residual-in_err-tag.ensures
    (λ t legal e. let k = tag_parts c.args.bytes.now c.cut.result.0.now c.cut.result.1.now c.cut.ensures t legal e in c.in_err-tag.ensures (subst IsName (append_cancel_left (codes ".") t.1 c.in_ok-behind.field-0.now (sym k.1 ∙ c.in_ok-behind.ensures)) legal.1))
