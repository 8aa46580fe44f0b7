use Rattle.std.proofs.Common.{◌≡◌, drop}
use lib.Pointwise.{pointwise}
use Rattle.brisk_state.specs.Symbolic.{same_thread}
use Rattle.brisk_state.proofs.thread.same_threads.Given as goal

abbrev pub invariant-loop-i : goal.invariant-loop-i
invariant-loop-i l = pointwise same_thread l.a l.b ≡ pointwise same_thread (drop l.i l.a) (drop l.i l.b)
