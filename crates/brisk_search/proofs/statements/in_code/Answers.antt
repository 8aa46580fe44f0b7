use Rattle.std.proofs.Common.{ap, arith}
use Rattle.brisk_quiet.proofs.Walks.{at_place}
use Rattle.brisk_syntax.specs.Counts.{statements}
use Rattle.brisk_syntax.specs.Statements.{statement_of}
use Rattle.brisk_search.proofs.statements.in_code.Goals as goal

pub loop-place-preserved : goal.loop-place-preserved
loop-place-preserved c =
    let head = ap statements (at_place c.loop-place.place c.args.code.now (statement_of c.in-Some.statement.now) c.in-Some.ensures) in
    omega (arith, head, c.loop-place.invariant, c.saturating_add-count.ensures, c.in_statement.ensures)
