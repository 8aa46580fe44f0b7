use Rattle.std.proofs.Common.{◌≡◌, map, take}
use Rattle.brisk_search.specs.declared.drive.Comer.TheVariants.{Thread}
use Rattle.brisk_search.proofs.drive.comers.Given as goal

abbrev pub invariant-loop-name : goal.invariant-loop-name
invariant-loop-name l = l.comers.items ≡ map (λ t. Thread t) (take l.name-index l.name-items)
