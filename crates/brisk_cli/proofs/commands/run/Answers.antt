use Rattle.std.proofs.lemmas.Result.{err_from_is_err_and}
use Rattle.brisk_types.proofs.Agreeing.{is_typed}
use Rattle.brisk_cli.specs.Answers.{schedule_limit, source_limit}
use Rattle.brisk_cli.specs.Languages.{sources}
use Rattle.brisk_cli.specs.Runs.{OfSchedule}
use Rattle.brisk_cli.proofs.Stages.{Second, fault_answered, second_answered, second_unread_answered, unread_answered}
use Rattle.brisk_cli.proofs.commands.run.Goals as goal

pub returns-in_err-bytes-clause-told : goal.returns-in_err-bytes-clause-told
returns-in_err-bytes-clause-told g c =
    let p = err_from_is_err_and c.from_residual.result c.from_residual.ensures.1 in
    unread_answered source_limit c.args.name.now sources (Second schedule_limit c.args.schedule.now (λ f failed. OfSchedule)) (g.F.Folder.files c.args.folder.now) (g.F.Folder.faults c.args.folder.now) (g.F.Folder.faults c.file.new.folder) c.from_residual.result c.in_err-bytes.field-0.0 p.0 p.1 p.2 c.in_err-bytes.ensures.told

pub returns-in_err-program-clause-told : goal.returns-in_err-program-clause-told
returns-in_err-program-clause-told g c =
    let p = err_from_is_err_and c.from_residual-in_err-program.result c.from_residual-in_err-program.ensures.1 in
    fault_answered source_limit c.args.name.now sources (Second schedule_limit c.args.schedule.now (λ f failed. OfSchedule)) (g.F.Folder.files c.args.folder.now) (g.F.Folder.faults c.args.folder.now) (g.F.Folder.faults c.file.new.folder) c.from_residual-in_err-program.result c.in_ok-bytes.bytes.items c.deref.result.now c.in_err-program.field-0.0 p.0 p.1 p.2 c.in_ok-bytes.ensures.few c.deref.ensures.value c.in_ok-bytes.ensures.whole c.in_err-program.ensures.told

pub returns-in_err-text-clause-told : goal.returns-in_err-text-clause-told
returns-in_err-text-clause-told g c =
    let p = err_from_is_err_and c.from_residual-in_err-text.result c.from_residual-in_err-text.ensures.1 in
    second_unread_answered source_limit c.args.name.now sources schedule_limit c.args.schedule.now (λ f failed. OfSchedule) (g.F.Folder.files c.args.folder.now) (g.F.Folder.files c.file.new.folder) c.in_ok-bytes.ensures.files (g.F.Folder.faults c.args.folder.now) (g.F.Folder.faults c.file.new.folder) (g.F.Folder.faults c.file-2.new.folder) c.from_residual-in_err-text.result c.in_ok-bytes.bytes.items c.deref.result.now c.in_ok-program.program c.in_ok-bytes.ensures.few c.deref.ensures.value c.in_ok-bytes.ensures.whole c.in_ok-program.ensures.holds c.in_err-text.field-0.0 p.0 p.1 p.2 c.in_ok-bytes.ensures.faults c.in_err-text.ensures.told

pub run_schedule-requires : goal.run_schedule-requires
run_schedule-requires g c = is_typed c.in_ok-program.program c.in_ok-program.ensures.holds.typed

pub returns-clause-told : goal.returns-clause-told
returns-clause-told g c =
    second_answered source_limit c.args.name.now sources schedule_limit c.args.schedule.now (λ f failed. OfSchedule) (g.F.Folder.files c.args.folder.now) (g.F.Folder.files c.file.new.folder) c.in_ok-bytes.ensures.files (g.F.Folder.faults c.args.folder.now) (g.F.Folder.faults c.file.new.folder) (g.F.Folder.faults c.file-2.new.folder) c.run_schedule.result c.in_ok-bytes.bytes.items c.deref.result.now c.in_ok-program.program c.in_ok-bytes.ensures.few c.deref.ensures.value c.in_ok-bytes.ensures.whole c.in_ok-program.ensures.holds c.in_ok-text.text.items c.deref-2.result.now c.in_ok-text.ensures.few c.deref-2.ensures.value c.in_ok-text.ensures.whole (λ f. c.run_schedule.ensures)
