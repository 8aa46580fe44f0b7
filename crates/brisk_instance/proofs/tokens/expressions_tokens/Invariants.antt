use Rattle.std.proofs.Common.{◌≡◌, ◌+◌, ◌-◌, ◌<◌, ◌^◌, min, drop, map, length}
use Rattle.std.specs.Prelude.{sum_by}
use Rattle.brisk_syntax.specs.Expressions.{expression_of}
use Rattle.brisk_syntax.specs.Tokens.{expression_tokens}
use Rattle.brisk_instance.proofs.tokens.expressions_tokens.Given as goal

-- what is counted, and what is left
abbrev pub invariant-loop-e : goal.invariant-loop-e
invariant-loop-e l =
    (l.count < 2 ^ 64)
    × (min (l.count + sum_by expression_tokens (map expression_of (drop l.e-index l.e-items))) (2 ^ 64 - 1) ≡ min ((length l.exprs - 1) + sum_by expression_tokens l.exprs) (2 ^ 64 - 1))
