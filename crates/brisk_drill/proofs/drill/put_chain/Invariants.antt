use Rattle.std.proofs.Common.{◌≡◌, ◌++◌}
use Rattle.brisk_drill.specs.Drill.{chain}
use Rattle.brisk_drill.proofs.drill.put_chain.Given as goal

-- what is written
abbrev pub invariant-loop-number : goal.invariant-loop-number
invariant-loop-number l = l.out.items ≡ l.fn.out.items ++ chain l.number
