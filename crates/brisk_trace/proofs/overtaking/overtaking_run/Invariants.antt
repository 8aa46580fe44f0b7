use Rattle.std.proofs.Common.{◌≡◌, ◌++◌, ◌-◌}
use Rattle.brisk_instance.specs.Given.{instance_of}
use Rattle.brisk_async.specs.Machine.{start}
use Rattle.brisk_async.specs.PlainRuns.{plain_from}
use Rattle.brisk_async.specs.States.{state_of}
use Rattle.brisk_trace.specs.Watches.{standing_in}
use Rattle.brisk_trace.proofs.Watched.{Watched}
use Rattle.brisk_trace.proofs.overtaking.overtaking_run.Given as goal

-- the run so far is watched, and the rest of it goes on from the machine's state
abbrev pub invariant-loop : goal.invariant-loop
invariant-loop l = let s = start l.program (instance_of l.instance) in
    (l.machine.program ≡ l.program)
    × Watched s l.items.items (state_of l.machine) (standing_in l.watch)
    × (l.items.items ++ plain_from (l.most - l.counter) l.order (state_of l.machine) ≡ plain_from l.most l.order s)
