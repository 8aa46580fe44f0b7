use Rattle.std.proofs.Common.{◌≡◌, drop}
use Rattle.brisk_state.specs.Symbolic.{partner_of, thread_named}
use Rattle.brisk_quiet.proofs.partner.partner.Given as goal

abbrev pub invariant-loop-thread : goal.invariant-loop-thread
invariant-loop-thread l = partner_of (thread_named (drop l.thread-index l.threads) l.name) ≡ partner_of (thread_named l.threads l.name)
