use Rattle.std.proofs.Common.{◌≡◌, ◌++◌, drop}
use Rattle.std.specs.Prelude.{◌&&◌, not}
use Rattle.brisk_syntax.specs.Typing.{is_among}
use Rattle.brisk_state.specs.Symbolic.{is_active}
use Rattle.brisk_rules.specs.Rules.{Entered}
use Rattle.brisk_rules.specs.Standing.{is_candidate}
use Rattle.brisk_search.specs.Views.{IsPremiseOf}
use Rattle.brisk_search.proofs.Threads.{passing}
use Rattle.brisk_search.proofs.drive.with_candidates.Given as goal

-- the names so far, and those of the threads that are left
abbrev pub invariant-loop-thread : goal.invariant-loop-thread
invariant-loop-thread l =
    (r : Entered) → IsPremiseOf r l.premise l.walk.entered →
    l.names.items ++ passing (λ u. is_active u.mode && not (is_among l.owners u.name) && is_candidate r l.walk.state u.name) (drop l.thread-index l.thread-items)
    ≡ l.owners ++ passing (λ u. is_active u.mode && not (is_among l.owners u.name) && is_candidate r l.walk.state u.name) l.thread-items
