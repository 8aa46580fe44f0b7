use Rattle.std.proofs.Common.{◌≡◌, ◌++◌, drop}
use Rattle.brisk_derivation.specs.TriesSeen.{tries_of}
use Rattle.brisk_report.specs.Printing.{tries_text}
use Rattle.brisk_report.proofs.tries.+tries.Given as goal

-- what is written, and what is left to write
abbrev pub invariant-put_stuck-loop-tried : goal.invariant-put_stuck-loop-tried
invariant-put_stuck-loop-tried l = l.out.items ++ tries_text (tries_of (drop l.tried-index l.tried-items)) ≡ l.initial.out.items ++ tries_text l.tries
