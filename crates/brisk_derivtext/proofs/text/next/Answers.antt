use Rattle.std.proofs.Common.{◌≡◌, ◌==◌, ◌+◌, ℕ, true, false, length, subst, sym}
use Rattle.std.proofs.lemmas.Result.{err_from_is_err_and}
use Rattle.brisk_derivtext.specs.Reading.{AtLine, Fails}
use Rattle.brisk_derivtext.proofs.Lined.{goes_on, is_nothing, is_something, no_line, stops}
use Rattle.brisk_derivtext.proofs.text.next.Goals as goal

pub returns-then-is_empty-clause-goes_on : goal.returns-then-is_empty-clause-goes_on
returns-then-is_empty-clause-goes_on c =
    let none : (length c.cut.result.1.now == 0) ≡ true = (let a = c.is_empty.ensures in let b = c.if-is_empty.true in cc) in
    λ text s h.
    subst (λ (n : ℕ). Fails text (AtLine (n + 1))) (sym c.count.ensures)
    (no_line text c.args.rest.now c.cut.result.0.now c.cut.result.1.now c.args.lines c.cut.ensures (is_nothing c.cut.result.1.now none) s h)

pub returns-in_err-lines-clause-goes_on : goal.returns-in_err-lines-clause-goes_on
returns-in_err-lines-clause-goes_on c =
    let some : (length c.cut.result.1.now == 0) ≡ false = (let a = c.is_empty.ensures in let b = c.if-is_empty.false in cc) in
    let p = err_from_is_err_and c.from_residual.result c.from_residual.ensures.1 in
    rw (p.1, p.2)
    (λ text s h. stops text c.args.rest.now c.cut.result.0.now c.cut.result.1.now c.args.lines c.in_err-lines.field-0.0 c.cut.ensures (is_something c.cut.result.1.now some) c.requires s c.in_err-lines.ensures.cause)

pub returns-clause-goes_on : goal.returns-clause-goes_on
returns-clause-goes_on c =
    let some : (length c.cut.result.1.now == 0) ≡ false = (let a = c.is_empty.ensures in let b = c.if-is_empty.false in cc) in
    λ text s h. goes_on text c.args.rest.now c.cut.result.0.now c.cut.result.1.now c.args.lines c.in_ok-lines.lines c.in_ok-lines._line c.cut.ensures (is_something c.cut.result.1.now some) c.requires s c.in_ok-lines.ensures.ok
