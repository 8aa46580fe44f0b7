use Rattle.std.proofs.Common.{◌≡◌, sym, ◌∙◌, arith}
use Rattle.brisk_lines.proofs.Decimals.{decimal_same}
use Rattle.brisk_derivtext.proofs.words.box_in.Goals as goal

pub returns-then-number-eq0 : goal.returns-then-number-eq0
returns-then-number-eq0 c = λ n few e.
    let same : c.in_ok-number.number ≡ n = decimal_same c.in_ok-number.number n (omega (arith, c.in_ok-number.ensures.1)) (omega (arith, few)) (sym c.in_ok-number.ensures.0 ∙ e) in
    omega (arith, c.then-number-eq0.either, few)
