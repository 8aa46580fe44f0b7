use Rattle.std.proofs.Common.{◌≡◌, drop}
use Rattle.brisk_rules.specs.Derives.{first_unfinished}
use Rattle.brisk_search.proofs.drive.all_ended.Given as goal

abbrev pub invariant-loop-thread : goal.invariant-loop-thread
invariant-loop-thread l = first_unfinished l.threads ≡ first_unfinished (drop l.thread-index l.threads)
