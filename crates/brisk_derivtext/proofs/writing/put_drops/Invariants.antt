use Rattle.std.proofs.Common.{◌≡◌, ◌++◌, map, drop}
use Rattle.brisk_derivtext.specs.Lines.{fact_text, spaced}
use Rattle.brisk_derivtext.proofs.writing.put_drops.Given as goal

-- what is written, and what is left to go
abbrev pub invariant-loop-fact : goal.invariant-loop-fact
invariant-loop-fact l = l.out.items ++ spaced (map fact_text (drop l.fact-index l.fact-items)) ≡ l.initial.out.items ++ spaced (map fact_text l.drops)
