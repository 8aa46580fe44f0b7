use Rattle.std.proofs.Common.{subst, sym}
use Rattle.std.proofs.lemmas.Result.{IfOk-weaker}
use Rattle.brisk_async.specs.InOrder.{AreQueues}
use Rattle.brisk_async.specs.Keys.{mail_in}
use Rattle.brisk_async.specs.States.{Kept}
use Rattle.brisk_async.proofs.Ranked.{in_order}
use Rattle.brisk_async.proofs.machine.Machine.queues.Goals as goal

pub returns : goal.returns
returns c =
    let m = c.self.inside in
    let all = in_order m.program (mail_in m.mail) c.in_ok-numbers.numbers c.told.ensures.ordered c.in_ok-numbers.ensures in
    IfOk-weaker c.told.result _ _ (λ qs is.
    subst (λ (k : Kept). AreQueues k.program (mail_in k.mail) qs.items) c.self.view_is (subst (AreQueues m.program (mail_in m.mail)) (sym is) all)) c.told.ensures.told
