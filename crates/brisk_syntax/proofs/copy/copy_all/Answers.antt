use Rattle.std.proofs.Common.{◌+◌, drop, refl, sym, ap, ◌∙◌, arith}
use Rattle.std.proofs.lemmas.List.{at_drop_all}
use Rattle.brisk_syntax.specs.Statements.{code_of, statement_of}
use Rattle.brisk_syntax.specs.Syntax.{◌then◌}
use Rattle.brisk_syntax.proofs.Codes.{then-done, one_more_statement}
use Rattle.brisk_syntax.proofs.copy.copy_all.Goals as goal

pub loop-s-preserved : goal.loop-s-preserved
loop-s-preserved c =
    let ss = c.args.ss.now in
    ap (λ ys. code_of ys then code_of (drop (c.loop-s.s-index + 1) ss)) c.in_ok-push.ensures.items
    ∙ one_more_statement (λ s. s) (λ d. d) (λ s d. refl) c.loop-s.items.items c.in_ok-copy_stmt.field-0 ss c.loop-s.s-index c.s-item.result (omega arith) (c.in_ok-copy_stmt.ensures ∙ ap statement_of c.s-item.is)
    ∙ c.loop-s.invariant

pub returns : goal.returns
returns c =
    sym (then-done (code_of c.loop-s.items.items)) ∙ ap (λ d. code_of c.loop-s.items.items then d) (sym (at_drop_all code_of c.args.ss.now c.loop-s.s-index (omega arith))) ∙ c.loop-s.invariant
