use Rattle.std.proofs.Common.{◌≡◌, drop}
use Rattle.brisk_search.specs.Passes.{last_tries}
use Rattle.brisk_search.specs.Views.{failures_of}
use Rattle.brisk_search.proofs.Latest.{IsKept, ahead}
use Rattle.brisk_search.proofs.failing.last_tries.Given as goal

-- the tries so far, and those at the heads of the threads that are left
abbrev pub invariant-loop-thread : goal.invariant-loop-thread
invariant-loop-thread l =
    IsKept l.left.items l.fn.failures.items (drop l.thread-index l.thread-items)
    × (ahead l.items.items (last_tries (failures_of l.fn.failures.items) (drop l.thread-index l.thread-items)) ≡ last_tries (failures_of l.fn.failures.items) l.thread-items)
