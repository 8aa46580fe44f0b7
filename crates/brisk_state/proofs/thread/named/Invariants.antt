use Rattle.std.proofs.Common.{◌≡◌, drop}
use Rattle.brisk_state.specs.Symbolic.{thread_named}
use Rattle.brisk_state.proofs.thread.named.Given as goal

abbrev pub invariant-loop-thread : goal.invariant-loop-thread
invariant-loop-thread l = thread_named l.threads l.name ≡ thread_named (drop l.thread-index l.threads) l.name
