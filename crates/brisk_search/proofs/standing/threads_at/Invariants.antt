use Rattle.std.proofs.Common.{◌≡◌, ◌++◌, drop}
use Rattle.std.specs.Prelude.{◌&&◌, is_some}
use Rattle.brisk_state.specs.Symbolic.{is_active}
use Rattle.brisk_rules.specs.Heads.{for_of}
use Rattle.brisk_search.proofs.Threads.{passing}
use Rattle.brisk_search.proofs.standing.threads_at.Given as goal

-- the threads so far, and those that are left
abbrev pub invariant-loop-thread : goal.invariant-loop-thread
invariant-loop-thread l =
    l.found.items ++ passing (λ u. is_active u.mode && is_some (for_of l.set u.code)) (drop l.thread-index l.thread-items)
    ≡ passing (λ u. is_active u.mode && is_some (for_of l.set u.code)) l.thread-items
