use Rattle.std.proofs.Common.{◌≡◌, rules}
use Rattle.std.specs.Prelude.{codes}
use Rattle.brisk_text.specs.Values.{value_text}
use Rattle.brisk_lines.specs.Lines.{IsLegalValue}
use Rattle.brisk_lines.proofs.Cuts.{nothing_read}
use Rattle.brisk_lines.proofs.Sides.{no_value}
use Rattle.brisk_lines.proofs.parts.value_in.Goals as goal

pub returns-in_err-enumeration : goal.returns-in_err-enumeration
returns-in_err-enumeration c =
    let true_not : c.args.bytes.now ≡ codes "true" → ⊥ = search rules in
    let false_not : c.args.bytes.now ≡ codes "false" → ⊥ = search rules in
    nothing_read value_text IsLegalValue c.args.bytes.now c.from_residual.result c.from_residual.ensures
    (no_value c.args.bytes.now c.in_default.ensures true_not false_not c.in_err-enumeration.ensures)
