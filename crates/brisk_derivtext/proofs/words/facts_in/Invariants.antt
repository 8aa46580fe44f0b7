use Rattle.std.proofs.Common.{length}
use Rattle.brisk_derivtext.proofs.Fronts.{FactsSoFar}
use Rattle.brisk_derivtext.proofs.words.facts_in.Given as goal

abbrev pub invariant-loop-word : goal.invariant-loop-word
invariant-loop-word l = FactsSoFar l.bytes l.items.items l.rest

abbrev pub decreases-loop-word : goal.decreases-loop-word
decreases-loop-word l = length l.rest
