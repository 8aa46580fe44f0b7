use Rattle.std.proofs.Common.{◌≡◌, ◌+◌, ◌-◌, ◌<◌, ◌^◌, min, drop}
use Rattle.brisk_syntax.specs.Statements.{code_of}
use Rattle.brisk_syntax.specs.Counts.{statements}
use Rattle.brisk_search.proofs.statements.+count.Given as goal

-- what is counted, and what is left
abbrev pub invariant-in_block-loop-s : goal.invariant-in_block-loop-s
invariant-in_block-loop-s l =
    (l.count < 2 ^ 64) × (min (l.count + statements (code_of (drop l.s-index l.s-items))) (2 ^ 64 - 1) ≡ min (statements l.body) (2 ^ 64 - 1))
