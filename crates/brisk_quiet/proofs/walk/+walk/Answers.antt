use Rattle.std.proofs.Common.{◌≡◌, Some, None, ◌+◌, drop, sym, ap, ◌∙◌, arith}
use Rattle.std.proofs.lemmas.List.{at_drop_more}
use Rattle.brisk_syntax.specs.declared.tree.Stmt.TheVariants as stmt
use Rattle.brisk_syntax.specs.Statements.{statement_of, code_of}
use Rattle.brisk_syntax.specs.Syntax.{done, ◌⨾◌}
use Rattle.brisk_quiet.specs.Left.{came, left_after}
use Rattle.brisk_quiet.specs.Quiet.{Ends, either, unless_sends, walk}
use Rattle.brisk_quiet.proofs.Walks.{copied, settled, goes_on, stops, passed_over}
use Rattle.brisk_quiet.proofs.walk.+walk.Goals as goal

pub in_loop-returns-in-Sends : goal.in_loop-returns-in-Sends
in_loop-returns-in-Sends t c =
    let r = c.args.receiver.now in let ch = c.args.asked.now.channel in let left = left_after c.args.asked.now c.args.taken.now in
    ap (λ w. unless_sends w (Ends left))
    (ap (λ k. came k (left_after c.args.asked.now c.in_block.new.taken)) (sym c.in-Sends.is) ∙ c.in_ok-in_block.ensures
    ∙ ap (walk r ch c.args.body.now) (copied c.args.asked.now c.in_ok-inside.inside c.args.taken.now c.in_ok-inside.ensures))

pub in_loop-returns : goal.in_loop-returns
in_loop-returns t c =
    let r = c.args.receiver.now in let ch = c.args.asked.now.channel in let left = left_after c.args.asked.now c.args.taken.now in
    passed_over c.in_ok-in_block.field-0 (left_after c.args.asked.now c.in_block.new.taken) left (walk r ch c.args.body.now left) c.in_default.not-Sends
    (c.in_ok-in_block.ensures ∙ ap (walk r ch c.args.body.now) (copied c.args.asked.now c.in_ok-inside.inside c.args.taken.now c.in_ok-inside.ensures))

pub in_block-loop-statement-preserved : goal.in_block-loop-statement-preserved
in_block-loop-statement-preserved t c =
    let r = c.args.receiver.now in let ch = c.args.asked.now.channel in let ss = c.deref-statement-items.result.now in let k = c.loop-statement.statement-index in
    let s = c.statement-item.result in let rest = code_of (drop (k + 1) ss) in
    let left = left_after c.args.asked.now c.loop-statement.taken in let more = left_after c.args.asked.now c.in_statement.new.taken in
    goes_on r ch (statement_of s) rest left more (ap (λ t. came t more) (sym c.in-Ends.is) ∙ c.in_ok-stillness.ensures)
    ∙ ap (λ u. walk r ch (statement_of u ⨾ rest) left) c.statement-item.is
    ∙ sym (at_drop_more (λ xs. walk r ch (code_of xs) left) ss k s (omega arith))
    ∙ c.loop-statement.invariant

pub in_block-returns-in_default : goal.in_block-returns-in_default
in_block-returns-in_default t c =
    let r = c.args.receiver.now in let ch = c.args.asked.now.channel in let ss = c.deref-statement-items.result.now in let k = c.loop-statement.statement-index in
    let s = c.statement-item.result in let rest = code_of (drop (k + 1) ss) in
    let left = left_after c.args.asked.now c.loop-statement.taken in let more = left_after c.args.asked.now c.in_statement.new.taken in
    stops r ch (statement_of s) rest left more c.in_ok-stillness.stillness c.in_default.not-Ends c.in_ok-stillness.ensures
    ∙ ap (λ u. walk r ch (statement_of u ⨾ rest) left) c.statement-item.is
    ∙ sym (at_drop_more (λ xs. walk r ch (code_of xs) left) ss k s (omega arith))
    ∙ c.loop-statement.invariant

pub in_statement-returns-in-None : goal.in_statement-returns-in-None
in_statement-returns-in-None t c =
    let r = c.args.receiver.now in let ch = c.args.asked.now.channel in let left = left_after c.args.asked.now c.args.taken.now in
    let same = copied c.args.asked.now c.in_ok-other-in-If.other c.args.taken.now c.in_ok-other-in-If.ensures in
    let first = c.in_ok-first-in-If.ensures ∙ ap (λ b. walk r ch b left) c.deref-in-If.ensures in
    let is : c.args.statement.now ≡ stmt.If c.in-If.field-0 c.in-If.yes None = c.in-If.is ∙ ap (stmt.If c.in-If.field-0 c.in-If.yes) c.in-None.is in
    c.either.ensures c.args.asked.now
    ∙ (λ i. either (first i) (Ends (same i)))
    ∙ settled (either (walk r ch c.in-If.yes.value left) (Ends left))
    ∙ ap (λ u. walk r ch (statement_of u ⨾ done) left) (sym is)

pub in_statement-returns-in_ok-second-in-Some : goal.in_statement-returns-in_ok-second-in-Some
in_statement-returns-in_ok-second-in-Some t c =
    let r = c.args.receiver.now in let ch = c.args.asked.now.channel in let left = left_after c.args.asked.now c.args.taken.now in
    let same = copied c.args.asked.now c.in_ok-other-in-If.other c.args.taken.now c.in_ok-other-in-If.ensures in
    let first = c.in_ok-first-in-If.ensures ∙ ap (λ b. walk r ch b left) c.deref-in-If.ensures in
    let second = c.in_ok-second-in-Some.ensures ∙ (λ i. walk r ch (c.deref-in-Some.ensures i) (same i)) in
    let is : c.args.statement.now ≡ stmt.If c.in-If.field-0 c.in-If.yes (Some c.in-Some.no) = c.in-If.is ∙ ap (stmt.If c.in-If.field-0 c.in-If.yes) c.in-Some.is in
    c.either-in-Some.ensures c.args.asked.now
    ∙ (λ i. either (first i) (second i))
    ∙ settled (either (walk r ch c.in-If.yes.value left) (walk r ch c.in-Some.no.value left))
    ∙ ap (λ u. walk r ch (statement_of u ⨾ done) left) (sym is)
