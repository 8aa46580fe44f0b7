use Rattle.std.proofs.Common.{◌≡◌, ◌++◌, map}
use Rattle.brisk_async.specs.Ranks.{told_by}
use Rattle.brisk_async.proofs.queue.told.Given as goal

abbrev pub invariant-loop-rank : goal.invariant-loop-rank
invariant-loop-rank l = l.queues.items ++ map told_by l.rank-iterator ≡ map told_by l.numbers.entries
