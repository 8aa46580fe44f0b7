use Rattle.std.proofs.Common.{◌≡◌, length}
use Rattle.brisk_loops.specs.CloseSeen.{is_looked_at, kind_of}
use Rattle.brisk_rules.specs.Rules.{not_restored}
use Rattle.brisk_loops.proofs.close.not_restored.Given as goal

abbrev pub invariant-loop-thread : goal.invariant-loop-thread
invariant-loop-thread l = not_restored (is_looked_at (kind_of l.fn.kind) l.fn.owners) l.fn.before.threads l.fn.end.threads ≡ not_restored (is_looked_at (kind_of l.fn.kind) l.fn.owners) l.starts l.ends

abbrev pub decreases-loop-thread : goal.decreases-loop-thread
decreases-loop-thread l = length l.starts
