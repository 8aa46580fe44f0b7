use Rattle.std.proofs.Common.{◌≡◌, sym, ◌∙◌, arith}
use Rattle.std.specs.Prelude.{codes}
use Rattle.std.specs.Fmt.{decimal}
use Rattle.std.proofs.lemmas.List.{append_cancel_left}
use Rattle.brisk_lines.proofs.Decimals.{decimal_same}
use Rattle.brisk_lines.proofs.read.size_in.Goals as goal

pub returns-then-size-gt-GREATEST_SIZE : goal.returns-then-size-gt-GREATEST_SIZE
returns-then-size-gt-GREATEST_SIZE c = λ n few e.
    let digits = append_cancel_left (codes " ") c.in_ok-behind.field-0.now (decimal n) (sym c.in_ok-behind.ensures ∙ e) in
    let same : c.in_ok-size.size ≡ n = decimal_same c.in_ok-size.size n (omega (arith, c.in_ok-size.ensures.1)) (omega arith) (sym c.in_ok-size.ensures.0 ∙ digits) in
    omega arith
