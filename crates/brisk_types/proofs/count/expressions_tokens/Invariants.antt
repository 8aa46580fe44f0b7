use Rattle.std.proofs.Common.{◌≡◌, ◌+◌, ◌<◌, ◌^◌, drop, map}
use Rattle.brisk_syntax.specs.Expressions.{expression_of}
use Rattle.brisk_types.proofs.Lists.{spaced_tokens}
use Rattle.brisk_types.proofs.count.expressions_tokens.Given as goal

abbrev pub invariant-loop-e : goal.invariant-loop-e
invariant-loop-e l = record {
  counted : l.tokens + spaced_tokens (map expression_of (drop l.e-index l.e-items)) ≡ spaced_tokens l.exprs;
  room : spaced_tokens l.exprs < 2 ^ 32;
}
