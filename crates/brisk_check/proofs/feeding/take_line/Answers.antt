use Rattle.std.proofs.Common.{Ok, ap, subst, sym, ◌∙◌}
use Rattle.std.proofs.lemmas.Result.{err_from_is_err_and}
use Rattle.brisk_derivtext.specs.Lined.{Refuses, Takes}
use Rattle.brisk_text.specs.Values.{Text}
use Rattle.brisk_check.specs.Seen.{Checked}
use Rattle.brisk_check.specs.Working.{path_of, work_of}
use Rattle.brisk_check.proofs.Seeing.{line_calls, line_refused, line_taken}
use Rattle.brisk_check.proofs.feeding.take_line.Goals as goal

pub returns-in_err-lines : goal.returns-in_err-lines
returns-in_err-lines c =
    let p = err_from_is_err_and c.from_residual.result c.from_residual.ensures.1 in
    let refuses = subst (λ (z : Text). Refuses c.args.work.lines z c.in_err-lines.field-0.0) c.deref.ensures.value c.in_err-lines.ensures.cause in
    λ d e. rw (p.1, p.2) (line_refused d (work_of c.args.work) c.in_err-lines.field-0.0 e refuses)

pub returns : goal.returns
returns c =
    let takes : Takes c.args.work.lines c.args.work.rest.items c.in_ok-lines.line c.in_ok-lines.lines = subst (λ (z : Text). Takes c.args.work.lines z c.in_ok-lines.line c.in_ok-lines.lines) c.deref.ensures.value c.in_ok-lines.ensures.ok in
    let calls = line_calls c.args.work.lines.reading c.in_ok-lines.lines.reading c.in_ok-lines.line (path_of c.args.work.path) (path_of c.in_ok-path.path) c.is_in_part-in_part.result c.is_in_part-in_part.ensures takes.reads c.in_ok-path.ensures in
    let S : Text → Checked = λ z. Ok record { rest = z; lined = c.in_ok-lines.lines; walk = path_of c.in_ok-path.path } in
    λ d e. line_taken d (work_of c.args.work) c.in_ok-lines.line c.in_ok-lines.lines (path_of c.in_ok-path.path) e takes calls ∙ ap S (sym c.new.ensures.items)
