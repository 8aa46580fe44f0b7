use Rattle.std.proofs.Common.{◌+◌, drop, refl, sym, ap, ◌∙◌, arith}
use Rattle.std.proofs.lemmas.List.{at_drop_all}
use Rattle.brisk_syntax.specs.Statements.{code_of, statement_of}
use Rattle.brisk_syntax.specs.Substitution.{code_with, statement_with}
use Rattle.brisk_syntax.specs.Syntax.{◌then◌}
use Rattle.brisk_syntax.proofs.Codes.{then-done, one_more_statement}
use Rattle.brisk_syntax.proofs.substitute.+subst.Goals as goal

pub subst_all-loop-s-preserved : goal.subst_all-loop-s-preserved
subst_all-loop-s-preserved t c =
    let v = c.args.binder in let w = c.args.who in let ss = c.args.ss.now in
    ap (λ ys. code_of ys then code_with v w (code_of (drop (c.loop-s.s-index + 1) ss))) c.in_ok-push.ensures.items
    ∙ one_more_statement (statement_with v w) (code_with v w) (λ s d. refl) c.loop-s.items.items c.in_ok-subst_stmt.field-0 ss c.loop-s.s-index c.s-item.result (omega arith) (c.in_ok-subst_stmt.ensures ∙ ap (λ s. statement_with v w (statement_of s)) c.s-item.is)
    ∙ c.loop-s.invariant

pub subst_all-returns : goal.subst_all-returns
subst_all-returns t c =
    let left = at_drop_all (λ ys. code_with c.args.binder c.args.who (code_of ys)) c.args.ss.now c.loop-s.s-index (omega arith) in
    sym (then-done (code_of c.loop-s.items.items)) ∙ ap (λ d. code_of c.loop-s.items.items then d) (sym left) ∙ c.loop-s.invariant
