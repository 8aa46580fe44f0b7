use Rattle.std.proofs.Common.{sym, ap, ◌∙◌}
use Rattle.std.proofs.lemmas.Result.{IfOk-weaker}
use Rattle.brisk_report.specs.Printing.{text_at}
use Rattle.brisk_report.proofs.Leads.{leads, leads_nowhere}
use Rattle.brisk_report.proofs.printing.print_report.Goals as goal

pub returns-in-Ok : goal.returns-in-Ok
returns-in-Ok c =
    let P = c.args.program.now in let R = c.args.report.now in
    let led = leads P R c.in_ok-walk.walk c.in_ok-walk.ensures c.take_all.new.walk c.in-Ok.ensures.ok in
    IfOk-weaker c.text_at.result _ _ (λ v e. e ∙ ap (text_at P R) c.state.ensures ∙ sym led) c.text_at.ensures

pub returns-in-Err-Bad : goal.returns-in-Err-Bad
returns-in-Err-Bad c =
    c.new.ensures.items ∙ sym (leads_nowhere c.args.program.now c.args.report.now c.in_ok-walk.walk c.in_ok-walk.ensures c.in-Err-Bad.field-0 _ _ c.in-Err-Bad.field-0-is c.in-Err-Bad.ensures.cause)
