use Rattle.std.proofs.Common.{ap, sym, ◌∙◌}
use Rattle.brisk_async.specs.States.{state_of}
use Rattle.brisk_trace.specs.Plain.{event_in}
use Rattle.brisk_trace.proofs.Nexts.{with_event, without_event}
use Rattle.brisk_trace.proofs.plain.next_event.Goals as goal

pub returns-in-Some : goal.returns-in-Some
returns-in-Some c =
    sym (sym c.loop-process.invariant
    ∙ with_event (state_of c.args.machine.now) c.args.order.now c.loop-process.process-index c.process-item.result c.loop-process-test.true c.process-item.is c.in-Some.event (sym c.in-Some.ensures))

pub loop-process-preserved : goal.loop-process-preserved
loop-process-preserved c =
    sym (ap event_in (without_event (state_of c.args.machine.now) c.args.order.now c.loop-process.process-index c.process-item.result c.loop-process-test.true c.process-item.is (sym c.in_default.ensures)))
    ∙ c.loop-process.invariant
