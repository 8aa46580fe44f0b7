use Rattle.std.proofs.Common.{◌≡◌, map, take}
use Rattle.brisk_loops.specs.LeaveSeen.{owner_by}
use Rattle.brisk_loops.proofs.leave.rests.Given as goal

abbrev pub invariant-loop-owner : goal.invariant-loop-owner
invariant-loop-owner l = l.rests.items ≡ map (owner_by l.before) (take l.owner-index l.owners)
