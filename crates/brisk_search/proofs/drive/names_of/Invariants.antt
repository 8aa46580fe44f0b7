use Rattle.std.proofs.Common.{◌≡◌, map, take}
use Rattle.brisk_search.proofs.drive.names_of.Given as goal

abbrev pub invariant-loop-owner : goal.invariant-loop-owner
invariant-loop-owner l = l.names.items ≡ map (λ o. o.name) (take l.owner-index l.owners)
