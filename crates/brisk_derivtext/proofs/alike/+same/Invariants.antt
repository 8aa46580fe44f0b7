use Rattle.std.proofs.Common.{◌≡◌, drop, ◌↔◌}
use Rattle.brisk_derivation.specs.Seen.{steps_of}
use Rattle.brisk_derivtext.proofs.alike.+same.Given as goal

abbrev pub invariant-same_all-loop-i : goal.invariant-same_all-loop-i
invariant-same_all-loop-i l = (steps_of l.xs ≡ steps_of l.ys) ↔ (steps_of (drop l.i l.xs) ≡ steps_of (drop l.i l.ys))
