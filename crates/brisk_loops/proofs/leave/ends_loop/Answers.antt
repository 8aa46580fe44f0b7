use Rattle.std.proofs.Common.{Option, subst}
use Rattle.std.specs.Prelude.{IfSome}
use Rattle.brisk_loops.specs.LeaveSeen.{Closes}
use Rattle.brisk_loops.specs.declared.leave.Closing.{Closing}
use Rattle.brisk_loops.proofs.Starting.{starts_like}
use Rattle.brisk_loops.proofs.leave.ends_loop.Goals as goal

pub returns-clause-ok : goal.returns-clause-ok
returns-clause-ok c P r e =
    c.tested.ensures.ok r (starts_like P c.args.rule.now.state c.args.rule.now.step r e) (subst (λ (z : Option Closing). IfSome z (λ k. Closes k r)) c.in-Some.is (c.in_ok-closing.ensures P r e))

pub returns-clause-cause : goal.returns-clause-cause
returns-clause-cause c P r e =
    c.tested.ensures.cause r (starts_like P c.args.rule.now.state c.args.rule.now.step r e) (subst (λ (z : Option Closing). IfSome z (λ k. Closes k r)) c.in-Some.is (c.in_ok-closing.ensures P r e))
