use Rattle.std.proofs.Common.{◌∙◌, sym, arith}
use Rattle.brisk_cli.proofs.Drilling.{beyond_drills, no_drill, one_drill}
use Rattle.brisk_cli.proofs.drilled.drill_number.Goals as goal
use Rattle.brisk_cli.proofs.drilled.drill_number.Goals.{then-number-eq0-via-then-number-eq0, then-number-eq0-via-else-number-eq0+then-number-gt-GREATEST}

pub returns-in_err-number-clause-number : goal.returns-in_err-number-clause-number
returns-in_err-number-clause-number c =
    c.from_residual.ensures ∙ sym (no_drill c.args.word.now (λ x small is. c.in_err-number.ensures x small (c.as_bytes.ensures.value ∙ is)))

pub returns-then-number-eq0-clause-number : goal.returns-then-number-eq0-clause-number
returns-then-number-eq0-clause-number c =
    let writes = sym c.as_bytes.ensures.value ∙ c.in_ok-number.ensures.0 in
    sym (beyond_drills c.args.word.now c.in_ok-number.number c.in_ok-number.ensures.1 writes (λ some few. elim c.then-number-eq0.branch [
      | then-number-eq0-via-then-number-eq0 w ↦ omega (arith, w.if-number-eq0.true, some)
      | then-number-eq0-via-else-number-eq0+then-number-gt-GREATEST w ↦ omega (arith, w.if-number-gt-GREATEST.true, few)
    ]))

pub returns-clause-number : goal.returns-clause-number
returns-clause-number c =
    sym (one_drill c.args.word.now c.in_ok-number.number (sym c.as_bytes.ensures.value ∙ c.in_ok-number.ensures.0) (omega (arith, c.if-number-eq0.false)) (omega (arith, c.if-number-gt-GREATEST.false)))
