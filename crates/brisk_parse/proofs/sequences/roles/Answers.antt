use Rattle.std.proofs.Common.{map, rules}
use Rattle.std.proofs.lemmas.Result.{err_from_is_err_and}
use Rattle.std.proofs.lemmas.List.{map-append}
use Rattle.brisk_syntax.specs.Texts.{text_of}
use Rattle.brisk_parse.specs.Declarations.{begins_role}
use Rattle.brisk_parse.specs.Limits.{sequence}
use Rattle.brisk_parse.specs.Sequences as spec
use Rattle.brisk_parse.proofs.Repetitions.{many_stop, many_more, many_fails, many_full}
use Rattle.brisk_parse.proofs.sequences.roles.Goals as goal

pub returns-then-not-begins : goal.returns-then-not-begins
returns-then-not-begins c = many_stop begins_role (spec.role sequence) 256 c.loop-turn._turn (map text_of c.loop-turn.roles.items) c.loop-turn.reader _ c.loop-turn.invariant (search rules)

pub returns-in_err-role : goal.returns-in_err-role
returns-in_err-role c =
    let p = err_from_is_err_and c.from_residual.result c.from_residual.ensures.1 in
    rw (p.1, p.2) (many_fails begins_role (spec.role sequence) 256 c.loop-turn._turn (map text_of c.loop-turn.roles.items) c.loop-turn.reader _ c.loop-turn.invariant c.in_err-role.field-0.0 c.loop-turn-test.true (search rules) c.in_err-role.ensures)

pub loop-turn-preserved : goal.loop-turn-preserved
loop-turn-preserved c =
    let one = many_more begins_role (spec.role sequence) 256 c.loop-turn._turn (map text_of c.loop-turn.roles.items) c.loop-turn.reader _ c.loop-turn.invariant (text_of c.in_ok-role.field-0) c.role.new.reader c.loop-turn-test.true (search rules) c.in_ok-role.ensures in
    rw (c.in_ok-push.ensures.items, map-append) one

pub returns-then-begins : goal.returns-then-begins
returns-then-begins c = rw c.left.ensures (many_full begins_role (spec.role sequence) 256 c.loop-turn._turn (map text_of c.loop-turn.roles.items) c.loop-turn.reader _ c.loop-turn.invariant c.loop-turn-test.false (search rules))

pub returns : goal.returns
returns c = many_stop begins_role (spec.role sequence) 256 c.loop-turn._turn (map text_of c.loop-turn.roles.items) c.loop-turn.reader _ c.loop-turn.invariant (search rules)
