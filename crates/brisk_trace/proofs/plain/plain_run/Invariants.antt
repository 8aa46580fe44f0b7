use Rattle.std.proofs.Common.{◌≡◌, ◌++◌, ◌-◌, Some}
use Rattle.brisk_instance.specs.Given.{instance_of}
use Rattle.brisk_async.specs.Machine.{run, start}
use Rattle.brisk_async.specs.PlainRuns.{plain_from}
use Rattle.brisk_async.specs.States.{state_of}
use Rattle.brisk_trace.proofs.plain.plain_run.Given as goal

-- the events so far lead to the machine's state, from which the rest of the run goes on
abbrev pub invariant-loop : goal.invariant-loop
invariant-loop l = let s = start l.program (instance_of l.instance) in
    (l.machine.program ≡ l.program)
    × (run s l.items.items ≡ Some (state_of l.machine))
    × (l.items.items ++ plain_from (l.most - l.counter) l.order (state_of l.machine) ≡ plain_from l.most l.order s)
