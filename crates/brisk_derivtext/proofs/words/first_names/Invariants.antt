use Rattle.std.proofs.Common.{length}
use Rattle.brisk_derivtext.proofs.Fronts.{NamesSoFar}
use Rattle.brisk_derivtext.proofs.words.first_names.Given as goal

abbrev pub invariant-loop-word : goal.invariant-loop-word
invariant-loop-word l = NamesSoFar l.bytes l.names.items l.rest

abbrev pub decreases-loop-word : goal.decreases-loop-word
decreases-loop-word l = length l.rest
