use Rattle.std.proofs.Common.{◌≡◌, ◌++◌}
use Rattle.brisk_drill.specs.Drill.{asker}
use Rattle.brisk_drill.proofs.drill.put_asker.Given as goal

-- what is written
abbrev pub invariant-loop-round : goal.invariant-loop-round
invariant-loop-round l = l.out.items ≡ l.fn.out.items ++ asker l.round
