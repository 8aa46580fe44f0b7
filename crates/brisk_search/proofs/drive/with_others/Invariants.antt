use Rattle.std.proofs.Common.{◌≡◌, ◌++◌, drop}
use Rattle.std.specs.Prelude.{◌&&◌, not}
use Rattle.brisk_syntax.specs.Typing.{is_among}
use Rattle.brisk_state.specs.Symbolic.{is_active}
use Rattle.brisk_search.proofs.Threads.{passing}
use Rattle.brisk_search.proofs.drive.with_others.Given as goal

-- the names so far, and those of the threads that are left
abbrev pub invariant-loop-thread : goal.invariant-loop-thread
invariant-loop-thread l =
    l.names.items ++ passing (λ u. is_active u.mode && not (is_among l.these u.name)) (drop l.thread-index l.thread-items)
    ≡ l.these ++ passing (λ u. is_active u.mode && not (is_among l.these u.name)) l.thread-items
