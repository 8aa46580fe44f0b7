use Rattle.std.proofs.Common.{◌≡◌, drop, map}
use Rattle.brisk_rules.specs.Rules.{first_fault, unfinished}
use Rattle.brisk_loops.proofs.close.unfinished.Given as goal

abbrev pub invariant-loop-owner : goal.invariant-loop-owner
invariant-loop-owner l = first_fault (map (unfinished l.end) l.owners) ≡ first_fault (map (unfinished l.end) (drop l.owner-index l.owners))
