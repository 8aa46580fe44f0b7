use Rattle.std.proofs.Common.{◌≡◌, drop}
use Rattle.brisk_async.specs.PlainRuns.{plain_next}
use Rattle.brisk_async.specs.States.{state_of}
use Rattle.brisk_trace.specs.Plain.{event_in}
use Rattle.brisk_trace.proofs.plain.next_event.Given as goal

-- the event is that of the processes that are left
abbrev pub invariant-loop-process : goal.invariant-loop-process
invariant-loop-process l =
    event_in (plain_next (drop l.process-index l.order) (state_of l.machine)) ≡ event_in (plain_next l.order (state_of l.machine))
