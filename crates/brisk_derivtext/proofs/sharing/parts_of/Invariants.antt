use Rattle.std.proofs.Common.{◌≡◌, ◌++◌, map, drop}
use Rattle.brisk_derivtext.specs.Shared.{met_again}
use Rattle.brisk_derivtext.specs.SharedKept.{met_of, steps_at}
use Rattle.brisk_derivtext.proofs.sharing.parts_of.Given as goal

-- the parts that were found, and those that are left
abbrev pub invariant-loop-found : goal.invariant-loop-found
invariant-loop-found l = steps_at l.parts.items ++ met_again (map met_of (drop l.found-index l.found-items)) ≡ met_again (map met_of l.found-items)
