use Rattle.std.proofs.Common.{sym, subst, ◌∙◌}
use Rattle.std.specs.Prelude.{codes}
use Rattle.std.proofs.lemmas.List.{append_cancel_left}
use Rattle.brisk_lex.specs.Spelled.{IsName}
use Rattle.brisk_text.specs.Values.{value_text}
use Rattle.brisk_lines.specs.Pieces.{given_text, IsLegalGiven}
use Rattle.brisk_lines.proofs.Cuts.{nothing_read}
use Rattle.brisk_lines.proofs.Sides.{given_parts}
use Rattle.brisk_lines.proofs.read.given_in.Goals as goal

pub returns-in_err-variable : goal.returns-in_err-variable
returns-in_err-variable c = nothing_read given_text IsLegalGiven c.args.bytes.now c.from_residual-in_err-variable.result c.from_residual-in_err-variable.ensures (λ g legal e.
    let k = given_parts c.in_ok-behind.field-0.now c.cut.result.0.now c.cut.result.1.now c.cut.ensures g legal (sym c.in_ok-behind.ensures ∙ e) in
    c.in_err-variable.ensures (subst IsName (sym k.0) legal.0))

pub returns-in_err-behind-2 : goal.returns-in_err-behind-2
returns-in_err-behind-2 c = nothing_read given_text IsLegalGiven c.args.bytes.now c.from_residual-in_err-behind-2.result c.from_residual-in_err-behind-2.ensures (λ g legal e.
    let k = given_parts c.in_ok-behind.field-0.now c.cut.result.0.now c.cut.result.1.now c.cut.ensures g legal (sym c.in_ok-behind.ensures ∙ e) in
    c.in_err-behind-2.ensures (value_text g.1) k.1)

pub returns-in_err-value : goal.returns-in_err-value
returns-in_err-value c = nothing_read given_text IsLegalGiven c.args.bytes.now c.from_residual-in_err-value.result c.from_residual-in_err-value.ensures (λ g legal e.
    let k = given_parts c.in_ok-behind.field-0.now c.cut.result.0.now c.cut.result.1.now c.cut.ensures g legal (sym c.in_ok-behind.ensures ∙ e) in
    c.in_err-value.ensures g.1 legal.1 (append_cancel_left (codes " = ") c.in_ok-behind-2.field-0.now (value_text g.1) (sym c.in_ok-behind-2.ensures ∙ k.1)))
