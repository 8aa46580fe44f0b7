use Rattle.std.proofs.Common.{◌∙◌}
use Rattle.std.specs.Prelude.{Ok}
use Rattle.brisk_loops.specs.CloseSeen.{drops_in, kind_of}
use Rattle.brisk_loops.specs.LeaveSeen.{closed_state}
use Rattle.brisk_loops.proofs.Leaving.{tested_close, tested_refuses}
use Rattle.brisk_loops.proofs.leave.tested.Goals as goal

pub returns-in-Err-clause-cause : goal.returns-in-Err-clause-cause
returns-in-Err-clause-cause c r like is =
    tested_refuses r (drops_in c.args.step.now) c.args.before.now c.args.end.now c.deref.result.now (kind_of c.args.closing.kind) c.in-Err.why like (c.deref.ensures.value ∙ is.0) is.1 c.in-Err.ensures.cause

pub returns-clause-ok : goal.returns-clause-ok
returns-clause-ok c r like is = (
  is.1,
  tested_close r (drops_in c.args.step.now) c.args.before.now c.args.end.now c.deref.result.now (kind_of c.args.closing.kind) c.in-Ok.facts like (c.deref.ensures.value ∙ is.0) is.1 c.in-Ok.ensures.ok.0 c.in-Ok.ensures.ok.1
      ∙ (λ i. Ok (closed_state r.kind (c.deref.ensures.value i) c.in-Ok.facts c.args.end.now)),
)
