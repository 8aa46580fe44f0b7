use Rattle.std.proofs.Common.{◌≡◌, ◌++◌, drop}
use Rattle.brisk_report.specs.Printing.{left_text}
use Rattle.brisk_report.proofs.left.put_left.Given as goal

-- what is written, and what is left to write
abbrev pub invariant-loop-thread : goal.invariant-loop-thread
invariant-loop-thread l = l.out.items ++ left_text (drop l.thread-index l.threads) ≡ l.initial.out.items ++ left_text l.threads
