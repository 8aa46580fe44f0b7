use Rattle.std.proofs.Common.{rules}
use Rattle.std.proofs.lemmas.Result.{err_from_is_err_and}
use Rattle.brisk_syntax.specs.Statements.{code_of, statement_of}
use Rattle.brisk_syntax.proofs.Codes.{code_of-append}
use Rattle.brisk_parse.specs.Limits.{source}
use Rattle.brisk_parse.specs.Statements as spec
use Rattle.brisk_parse.proofs.Codes.{code_stop, code_more, code_fails, code_full}
use Rattle.brisk_parse.proofs.statements.+statement.Goals as goal

pub statements-returns-then-not-begins_statement : goal.statements-returns-then-not-begins_statement
statements-returns-then-not-begins_statement t c =
    code_stop spec.begins_statement (spec.statement source (spec.block source c.args.depth)) 20000 c.loop-turn._turn (code_of c.loop-turn.items.items) c.loop-turn.reader _ c.loop-turn.invariant (search rules)

pub statements-returns-in_err-statement : goal.statements-returns-in_err-statement
statements-returns-in_err-statement t c =
    let p = err_from_is_err_and c.from_residual.result c.from_residual.ensures.1 in
    rw (p.1, p.2) (code_fails spec.begins_statement (spec.statement source (spec.block source c.args.depth)) 20000 c.loop-turn._turn (code_of c.loop-turn.items.items) c.loop-turn.reader _ c.loop-turn.invariant c.in_err-statement.field-0.0 c.loop-turn-test.true (search rules) c.in_err-statement.ensures)

pub statements-loop-turn-preserved : goal.statements-loop-turn-preserved
statements-loop-turn-preserved t c =
    let one = code_more spec.begins_statement (spec.statement source (spec.block source c.args.depth)) 20000 c.loop-turn._turn (code_of c.loop-turn.items.items) c.loop-turn.reader _ c.loop-turn.invariant (statement_of c.in_ok-statement.field-0) c.statement.new.reader c.loop-turn-test.true (search rules) c.in_ok-statement.ensures in
    rw (c.in_ok-push.ensures.items, code_of-append) one

pub statements-returns-then-begins_statement : goal.statements-returns-then-begins_statement
statements-returns-then-begins_statement t c =
    rw c.left.ensures (code_full spec.begins_statement (spec.statement source (spec.block source c.args.depth)) 20000 c.loop-turn._turn (code_of c.loop-turn.items.items) c.loop-turn.reader _ c.loop-turn.invariant c.loop-turn-test.false (search rules))

pub statements-returns : goal.statements-returns
statements-returns t c =
    code_stop spec.begins_statement (spec.statement source (spec.block source c.args.depth)) 20000 c.loop-turn._turn (code_of c.loop-turn.items.items) c.loop-turn.reader _ c.loop-turn.invariant (search rules)
