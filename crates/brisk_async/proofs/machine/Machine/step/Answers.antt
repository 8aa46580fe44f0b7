use Rattle.std.proofs.Common.{sym, inr}
use Rattle.std.proofs.lemmas.Result.{err_from_is_err_and}
use Rattle.brisk_async.proofs.machine.Machine.step.Goals as goal

pub returns-in_err-act-clause-cause : goal.returns-in_err-act-clause-cause
returns-in_err-act-clause-cause c =
    let p = err_from_is_err_and c.from_residual.result c.from_residual.ensures.1 in
    rw p.1 (inr (p.2, sym c.in_default.ensures.first))

pub returns-in_err-apply-clause-cause : goal.returns-in_err-apply-clause-cause
returns-in_err-apply-clause-cause c =
    let p = err_from_is_err_and c.from_residual-in_err-apply.result c.from_residual-in_err-apply.ensures.1 in
    rw p.1 (inr (p.2, sym c.in_default.ensures.first))
