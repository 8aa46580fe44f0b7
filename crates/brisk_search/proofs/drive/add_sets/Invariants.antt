use Rattle.std.proofs.Common.{◌≡◌, ◌++◌, drop, map}
use Rattle.std.specs.Prelude.{◌&&◌, not}
use Rattle.brisk_syntax.specs.Syntax.{done}
use Rattle.brisk_state.specs.Same.{same_code}
use Rattle.brisk_state.specs.Symbolic.{is_active}
use Rattle.brisk_search.specs.declared.drive.Comer.TheVariants.{Set}
use Rattle.brisk_search.proofs.Threads.{passing}
use Rattle.brisk_search.proofs.drive.add_sets.Given as goal

-- the sets so far, and those that are left
abbrev pub invariant-loop-thread : goal.invariant-loop-thread
invariant-loop-thread l =
    l.comers.items ++ map (λ s. Set s) (passing (λ u. not (is_active u.mode) && not (same_code u.code done)) (drop l.thread-index l.thread-items))
    ≡ l.initial.comers.items ++ map (λ s. Set s) (passing (λ u. not (is_active u.mode) && not (same_code u.code done)) l.thread-items)
