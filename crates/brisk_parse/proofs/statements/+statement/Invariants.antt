use Rattle.std.proofs.Common.{◌≡◌, ◌+◌, ◌-◌, ◌*◌}
use Rattle.brisk_syntax.specs.Syntax.{done, ◌⨾◌}
use Rattle.brisk_syntax.specs.Statements.{code_of}
use Rattle.brisk_parse.specs.Limits.{source}
use Rattle.brisk_parse.specs.Reading.{many}
use Rattle.brisk_parse.specs.Statements as spec
use Rattle.brisk_parse.proofs.Codes.{with_code}
use Rattle.brisk_parse.proofs.statements.+statement.Given as goal

abbrev pub decreases-block : goal.decreases-block
decreases-block l = 5 * l.depth

abbrev pub decreases-receive_any : goal.decreases-receive_any
decreases-receive_any l = 5 * l.depth + 1

abbrev pub decreases-receive : goal.decreases-receive
decreases-receive l = 5 * l.depth + 2

abbrev pub decreases-choice : goal.decreases-choice
decreases-choice l = 5 * l.depth + 2

abbrev pub decreases-while_loop : goal.decreases-while_loop
decreases-while_loop l = 5 * l.depth + 2

abbrev pub decreases-for_loop : goal.decreases-for_loop
decreases-for_loop l = 5 * l.depth + 2

abbrev pub decreases-repeat_loop : goal.decreases-repeat_loop
decreases-repeat_loop l = 5 * l.depth + 2

abbrev pub decreases-statement : goal.decreases-statement
decreases-statement l = 5 * l.depth + 3

abbrev pub decreases-statements : goal.decreases-statements
decreases-statements l = 5 * l.depth + 4

abbrev pub invariant-statements-loop-turn : goal.invariant-statements-loop-turn
invariant-statements-loop-turn l =
    spec.statements source (spec.block source l.depth) l.fn.reader
    ≡ with_code (code_of l.items.items) (many spec.begins_statement (spec.statement source (spec.block source l.depth)) done (λ s c. s ⨾ c) (20000 - l._turn) l.reader)
