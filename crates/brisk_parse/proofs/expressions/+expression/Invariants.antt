use Rattle.std.proofs.Common.{◌≡◌, ℕ, ◌+◌, ◌-◌, ◌*◌}
use Rattle.brisk_syntax.specs.Expressions.{expression_of}
use Rattle.brisk_parse.specs.declared.level.Level.{Level}
use Rattle.brisk_parse.specs.declared.level.Level.TheVariants.{Or, And, Sum, Product}
use Rattle.brisk_parse.specs.Expressions as spec
use Rattle.brisk_parse.proofs.expressions.+expression.Given as goal

-- the looser a level, the higher
abbrev pub rank : Level → ℕ
rank Product = 2
rank Sum = 4
rank And = 7
rank Or = 9

abbrev pub decreases-unary : goal.decreases-unary
decreases-unary l = 10 * l.depth

abbrev pub decreases-comparison : goal.decreases-comparison
decreases-comparison l = 10 * l.depth + 5

abbrev pub decreases-operand : goal.decreases-operand
decreases-operand l = 10 * l.depth + (rank l.level - 1)

abbrev pub decreases-chain : goal.decreases-chain
decreases-chain l = 10 * l.depth + rank l.level

-- what is read so far goes on to all that is read
abbrev pub invariant-chain-loop-turn : goal.invariant-chain-loop-turn
invariant-chain-loop-turn l =
    spec.chain l.level l.depth (spec.unary l.depth) l.fn.reader
    ≡ spec.tail l.level (spec.operand l.level l.depth (spec.unary l.depth)) (l.depth - l._turn) (expression_of l.e) l.reader
