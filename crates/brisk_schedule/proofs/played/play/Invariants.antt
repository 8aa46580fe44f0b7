use Rattle.std.proofs.Common.{◌≡◌, ◌+◌, take, Some}
use Rattle.brisk_async.specs.Machine.{run, start}
use Rattle.brisk_async.specs.States.{state_of}
use Rattle.brisk_instance.specs.Given.{instance_of}
use Rattle.brisk_schedule.proofs.played.play.Given as goal

-- the events so far lead to the machine's state
abbrev pub invariant-loop-event : goal.invariant-loop-event
invariant-loop-event l =
    (l.number ≡ l.event-index + 1)
    × (l.machine.program ≡ l.program)
    × (run (start l.program (instance_of l.schedule.instance)) (take l.event-index l.event-items) ≡ Some (state_of l.machine))
