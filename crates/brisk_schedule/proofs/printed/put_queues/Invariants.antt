use Rattle.std.proofs.Common.{◌≡◌, ◌++◌, drop}
use Rattle.std.specs.Prelude.{flat_map}
use Rattle.brisk_schedule.specs.Printing.{queue_line}
use Rattle.brisk_schedule.proofs.printed.put_queues.Given as goal

-- what is written, and what is left to write
abbrev pub invariant-loop-queue : goal.invariant-loop-queue
invariant-loop-queue l = l.out.items ++ flat_map (queue_line l.roles) (drop l.queue-index l.queues) ≡ l.initial.out.items ++ flat_map (queue_line l.roles) l.queues
