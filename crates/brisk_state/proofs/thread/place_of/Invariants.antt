use Rattle.std.proofs.Common.{◌≡◌, drop}
use Rattle.brisk_state.specs.Symbolic.{thread_named}
use Rattle.brisk_state.proofs.thread.place_of.Given as goal

abbrev pub invariant-loop-i : goal.invariant-loop-i
invariant-loop-i l = thread_named l.threads l.name ≡ thread_named (drop l.i l.threads) l.name
