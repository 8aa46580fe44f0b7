use Rattle.std.proofs.Common.{map, arith}
use Rattle.std.proofs.lemmas.List.{at_drop_all}
use Rattle.brisk_syntax.specs.Expressions.{expression_of}
use Rattle.brisk_types.proofs.Lists.{spaced_tokens, spaced_is}
use Rattle.brisk_types.proofs.count.expressions_tokens.Goals as goal

pub returns : goal.returns
returns c =
    let left = at_drop_all (λ xs. spaced_tokens (map expression_of xs)) c.deref-e-items.result.now c.loop-e.e-index (omega arith) in
    omega (arith, left, spaced_is c.args.exprs.now, c.loop-e.invariant.counted, c.saturating_sub.ensures)
