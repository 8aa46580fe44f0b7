use Rattle.std.proofs.Common.{◌≡◌, drop}
use Rattle.brisk_check.specs.Checking.{differs_at}
use Rattle.brisk_check.proofs.Differs.{from}
use Rattle.brisk_check.proofs.checker.differs_at.Given as goal

-- the place, by that in what is left
abbrev pub invariant-loop-i : goal.invariant-loop-i
invariant-loop-i l = differs_at l.a l.b ≡ from l.i (differs_at (drop l.i l.a) (drop l.i l.b))
