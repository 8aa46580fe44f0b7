use Rattle.std.proofs.Common.{◌+◌, drop, sym, ap, ◌∙◌, arith}
use Rattle.std.proofs.lemmas.List.{at_drop_all}
use Rattle.brisk_syntax.specs.Statements.{code_of, statement_of}
use Rattle.brisk_syntax.specs.Syntax.{◌then◌}
use Rattle.brisk_syntax.proofs.Codes.{then-done}
use Rattle.brisk_quiet.specs.Sender.{unsent}
use Rattle.brisk_quiet.specs.Unsent.{is_sent_to, statement_unsent}
use Rattle.brisk_quiet.proofs.LeftOut.{left_out, stays}
use Rattle.brisk_quiet.proofs.unsent.+unsent.Goals as goal
use Rattle.brisk_quiet.proofs.unsent.+unsent.Goals.{unsent_all-then-not-is_sent_to+in_ok-unsent_statement+in_ok-push, unsent_all-else-not-is_sent_to}

pub unsent_all-loop-statement-preserved : goal.unsent_all-loop-statement-preserved
unsent_all-loop-statement-preserved t c =
    let v = c.args.binder in let ss = c.args.statements.now in let k = c.loop-statement.statement-index in let rest = unsent v (code_of (drop (k + 1) ss)) in
    elim c.if-not-is_sent_to.branch [
      | unsent_all-then-not-is_sent_to+in_ok-unsent_statement+in_ok-push w ↦
          ap (λ ys. code_of ys.items then rest) w.items-is
          ∙ ap (λ ys. code_of ys then rest) w.in_ok-push.ensures.items
          ∙ stays v c.loop-statement.items.items w.in_ok-unsent_statement.field-0 ss k c.statement-item.result (omega arith)
          (ap (λ s. is_sent_to v (statement_of s)) (sym c.statement-item.is) ∙ sym c.is_sent_to.ensures ∙ w.if-not-is_sent_to.true)
          (w.in_ok-unsent_statement.ensures ∙ ap (λ s. statement_unsent v (statement_of s)) c.statement-item.is)
          ∙ c.loop-statement.invariant
      | unsent_all-else-not-is_sent_to w ↦
          ap (λ ys. code_of ys.items then rest) w.items-is
          ∙ left_out v (code_of c.loop-statement.items.items) ss k c.statement-item.result (omega arith)
          (ap (λ s. is_sent_to v (statement_of s)) (sym c.statement-item.is) ∙ sym c.is_sent_to.ensures ∙ w.if-not-is_sent_to.false)
          ∙ c.loop-statement.invariant
    ]

pub unsent_all-returns : goal.unsent_all-returns
unsent_all-returns t c =
    let left = at_drop_all (λ ys. unsent c.args.binder (code_of ys)) c.args.statements.now c.loop-statement.statement-index (omega arith) in
    sym (then-done (code_of c.loop-statement.items.items)) ∙ ap (λ d. code_of c.loop-statement.items.items then d) (sym left) ∙ c.loop-statement.invariant
