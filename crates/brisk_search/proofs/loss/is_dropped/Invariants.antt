use Rattle.std.proofs.Common.{◌≡◌, drop}
use Rattle.brisk_search.specs.Tries.{is_dropped}
use Rattle.brisk_search.proofs.loss.is_dropped.Given as goal

abbrev pub invariant-loop-drop : goal.invariant-loop-drop
invariant-loop-drop l = is_dropped l.drops l.place ≡ is_dropped (drop l.drop-index l.drop-items) l.place
