use Rattle.std.proofs.Common.{◌≡◌, ◌++◌, ◌-◌, take, replicate}
use Rattle.brisk_values.proofs.name.padded_of.Given as goal

abbrev pub invariant-loop-i : goal.invariant-loop-i
invariant-loop-i l = l.padded ≡ take l.i l.bytes ++ replicate (64 - l.i) 0
