use Rattle.std.proofs.Common.{◌≤◌, ◌+◌, drop}
use Rattle.std.specs.Prelude.{fold, sum_by}
use Rattle.brisk_syntax.specs.Counts.{statements}
use Rattle.brisk_state.specs.declared.thread.Thread.{Thread}
use Rattle.brisk_search.proofs.statements.statements_left.Given as goal

-- what is counted, and what is left
abbrev pub invariant-loop-thread : goal.invariant-loop-thread
invariant-loop-thread l = fold (λ n (u : Thread). n + statements u.code) l.count (drop l.thread-index l.thread-items) ≤ sum_by (λ u. statements u.code) l.thread-items
