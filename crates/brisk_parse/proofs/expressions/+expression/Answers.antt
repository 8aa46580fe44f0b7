use Rattle.std.proofs.Common.{rules, ◌∙◌}
use Rattle.std.proofs.lemmas.Result.{err_from_is_err_and}
use Rattle.brisk_syntax.specs.Expressions.{expression_of}
use Rattle.brisk_parse.specs.Expressions as spec
use Rattle.brisk_parse.proofs.Outcomes.{stops_then, stops_alike}
use Rattle.brisk_parse.proofs.Tails.{chain_is, tail_stop, tail_full, tail_more, tail_spent, tail_fails}
use Rattle.brisk_parse.proofs.expressions.+expression.Goals as goal

pub chain-returns-in_err-e : goal.chain-returns-in_err-e
chain-returns-in_err-e t c =
    let p = err_from_is_err_and c.from_residual.result c.from_residual.ensures.1 in
    let all = chain_is c.args.level c.args.depth (spec.unary c.args.depth) c.args.reader.now in
    rw (p.1, p.2) (stops_alike c.in_err-e.field-0.0 _ _ all (stops_then c.in_err-e.field-0.0 _ _ c.in_err-e.ensures))

pub chain-loop-turn-init : goal.chain-loop-turn-init
chain-loop-turn-init t c =
    chain_is c.args.level c.args.depth (spec.unary c.args.depth) c.args.reader.now ∙ rw c.in_ok-e.ensures (search rules)

pub chain-returns-in-None : goal.chain-returns-in-None
chain-returns-in-None t c = tail_stop c.args.level _ _ _ _ _ _ c.loop-turn.invariant (search rules)

pub chain-returns-in_err-spend : goal.chain-returns-in_err-spend
chain-returns-in_err-spend t c =
    let p = err_from_is_err_and c.from_residual-in_err-spend.result c.from_residual-in_err-spend.ensures.1 in
    rw (p.1, p.2) (tail_spent c.args.level _ c.args.depth c.loop-turn._turn _ _ _ c.loop-turn.invariant c.in-Some.op c.in_err-spend.field-0.0 c.loop-turn-test.true (search rules) c.in_err-spend.ensures)

pub chain-returns-in_err-f : goal.chain-returns-in_err-f
chain-returns-in_err-f t c =
    let p = err_from_is_err_and c.from_residual-in_err-f.result c.from_residual-in_err-f.ensures.1 in
    rw (p.1, p.2) (tail_fails c.args.level _ c.args.depth c.loop-turn._turn _ _ _ c.loop-turn.invariant c.in-Some.op c.in_err-f.field-0.0 _ c.loop-turn-test.true (search rules) (search rules) c.in_err-f.ensures)

pub chain-loop-turn-preserved : goal.chain-loop-turn-preserved
chain-loop-turn-preserved t c =
    let one = tail_more c.args.level _ c.args.depth c.loop-turn._turn _ _ _ c.loop-turn.invariant c.in-Some.op (expression_of c.in_ok-f.f) c.spend.new.self c.operand-in-loop-turn.new.reader c.loop-turn-test.true (search rules) (search rules) c.in_ok-f.ensures in
    rw c.in_ok-e-2.ensures one

pub chain-returns-in-Some-operator : goal.chain-returns-in-Some-operator
chain-returns-in-Some-operator t c =
    rw c.left.ensures (tail_full c.args.level _ c.args.depth c.loop-turn._turn _ _ _ c.loop-turn.invariant c.in-Some-operator.field-0 c.loop-turn-test.false (search rules))

pub chain-returns-in-None-operator : goal.chain-returns-in-None-operator
chain-returns-in-None-operator t c = tail_stop c.args.level _ _ _ _ _ _ c.loop-turn.invariant (search rules)
