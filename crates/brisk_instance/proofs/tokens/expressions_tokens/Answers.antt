use Rattle.std.proofs.Common.{arith, map}
use Rattle.std.specs.Prelude.{sum_by}
use Rattle.std.proofs.lemmas.List.{at_drop_all}
use Rattle.brisk_syntax.specs.Expressions.{expression_of}
use Rattle.brisk_syntax.specs.Tokens.{expression_tokens}
use Rattle.brisk_instance.proofs.Lists.{list_tokens_is}
use Rattle.brisk_instance.proofs.tokens.expressions_tokens.Goals as goal

pub returns : goal.returns
returns c =
    let left = at_drop_all (λ xs. sum_by expression_tokens (map expression_of xs)) c.deref-e-items.result.now c.loop-e.e-index (omega arith) in
    omega (arith, left, list_tokens_is c.args.exprs.now, c.loop-e.invariant)
