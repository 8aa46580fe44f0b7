use Rattle.std.proofs.Common.{◌≡◌, sym, subst, ◌∙◌}
use Rattle.brisk_lex.specs.Spelled.{IsName}
use Rattle.brisk_lines.proofs.Cuts.{nothing_read}
use Rattle.brisk_derivtext.specs.Lines.{fact_text, IsLegalFact}
use Rattle.brisk_derivtext.proofs.Fronts.{fact_parts}
use Rattle.brisk_derivtext.proofs.words.fact_in.Goals as goal

pub returns-in_err-at : goal.returns-in_err-at
returns-in_err-at c = nothing_read fact_text IsLegalFact c.args.bytes.now c.from_residual.result c.from_residual.ensures (λ f legal e.
    c.in_err-at.ensures (subst IsName (sym (fact_parts c.args.bytes.now c.cut.result.0.now c.cut.result.1.now c.cut.ensures f legal e).0) legal.0))

pub returns-in_err-variable : goal.returns-in_err-variable
returns-in_err-variable c = nothing_read fact_text IsLegalFact c.args.bytes.now c.from_residual-in_err-variable.result c.from_residual-in_err-variable.ensures (λ f legal e.
    let k = fact_parts c.args.bytes.now c.cut.result.0.now c.cut.result.1.now c.cut.ensures f legal e in
    let same : f.variable ≡ c.in_ok-behind.field-0.now = (let p = sym k.1 ∙ c.in_ok-behind.ensures in cc) in
    c.in_err-variable.ensures (subst IsName same legal.1))
