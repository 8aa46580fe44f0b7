use Rattle.std.proofs.Common.{arith}
use Rattle.std.proofs.lemmas.List.{at_drop_all}
use Rattle.brisk_syntax.specs.Counts.{statements}
use Rattle.brisk_syntax.specs.Statements.{code_of}
use Rattle.brisk_search.proofs.statements.+count.Goals as goal

pub in_block-returns : goal.in_block-returns
in_block-returns t c =
    let left = at_drop_all (λ xs. statements (code_of xs)) c.deref-s-items.result.now c.loop-s.s-index (omega arith) in
    omega (arith, left)
