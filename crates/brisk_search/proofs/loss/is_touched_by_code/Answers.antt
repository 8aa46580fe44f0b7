use Rattle.std.proofs.Common.{◌≡◌, ◌+◌, ◌-◌, ◌<◌, rules, sym, ap, ◌∙◌, arith}
use Rattle.brisk_quiet.proofs.Walks.{at_end, at_place, before_end}
use Rattle.brisk_syntax.specs.Segments.{code_from_place, code_length}
use Rattle.brisk_syntax.specs.Statements.{statement_of}
use Rattle.brisk_syntax.specs.Typing.{is_among}
use Rattle.brisk_search.specs.Tries.{touched_in}
use Rattle.brisk_search.proofs.Losing.{not_touched, touched_first}
use Rattle.brisk_search.proofs.loss.is_touched_by_code.Goals as goal

pub loop-statement-smaller : goal.loop-statement-smaller
loop-statement-smaller c =
    let k = c.loop-statement.place in
    let next : c.in_ok-place.place ≡ k + 1 = search rules in
    let within : k < code_length c.args.code.now = before_end k c.args.code.now (statement_of c.in-Some.statement.now) c.in-Some.ensures in
    let smaller : code_length c.args.code.now - c.in_ok-place.place < code_length c.args.code.now - k = omega (arith, next, within) in smaller

pub loop-statement-preserved : goal.loop-statement-preserved
loop-statement-preserved c =
    let k = c.loop-statement.place in let x = c.args.variable in
    let next : c.in_ok-place.place ≡ k + 1 = search rules in
    c.loop-statement.invariant ∙ ap (λ d. is_among (touched_in d) x) (at_place k c.args.code.now (statement_of c.in-Some.statement.now) c.in-Some.ensures)
    ∙ not_touched (statement_of c.in-Some.statement.now) (code_from_place (k + 1) c.args.code.now) x (sym c.is_touched_by.ensures ∙ c.if-is_touched_by.false) ∙ ap (λ n. is_among (touched_in (code_from_place n c.args.code.now)) x) (sym next)

pub returns-then-is_touched_by : goal.returns-then-is_touched_by
returns-then-is_touched_by c =
    let k = c.loop-statement.place in let x = c.args.variable in
    sym (c.loop-statement.invariant ∙ ap (λ d. is_among (touched_in d) x) (at_place k c.args.code.now (statement_of c.in-Some.statement.now) c.in-Some.ensures)
    ∙ touched_first (statement_of c.in-Some.statement.now) (code_from_place (k + 1) c.args.code.now) x (sym c.is_touched_by.ensures ∙ c.if-is_touched_by.true))

pub returns : goal.returns
returns c =
    sym (c.loop-statement.invariant ∙ ap (λ d. is_among (touched_in d) c.args.variable) (at_end c.loop-statement.place c.args.code.now c.in_default.ensures))
