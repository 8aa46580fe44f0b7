use Rattle.std.proofs.lemmas.Result.{err_from_is_err_and}
use Rattle.brisk_cli.specs.Answers.{source_limit}
use Rattle.brisk_cli.specs.Rewriting.{OfRewriting}
use Rattle.brisk_cli.specs.Languages.{sources}
use Rattle.brisk_cli.proofs.Stages.{fault_answered, next_answered, unread_answered}
use Rattle.brisk_types.proofs.Agreeing.{is_typed}
use Rattle.brisk_cli.proofs.Unbegun.{tagged, unbegun}
use Rattle.brisk_cli.proofs.commands.rewrite.Goals as goal

pub returns-in_err-bytes-clause-told : goal.returns-in_err-bytes-clause-told
returns-in_err-bytes-clause-told g c =
    let p = err_from_is_err_and c.from_residual.result c.from_residual.ensures.1 in
    unread_answered source_limit c.args.name.now sources (λ f failed. OfRewriting) (g.F.Folder.files c.args.folder.now) (g.F.Folder.faults c.args.folder.now) (g.F.Folder.faults c.file.new.folder) c.from_residual.result c.in_err-bytes.field-0.0 p.0 p.1 p.2 c.in_err-bytes.ensures.told

pub returns-in_err-program-clause-told : goal.returns-in_err-program-clause-told
returns-in_err-program-clause-told g c =
    let p = err_from_is_err_and c.from_residual-in_err-program.result c.from_residual-in_err-program.ensures.1 in
    fault_answered source_limit c.args.name.now sources (λ f failed. OfRewriting) (g.F.Folder.files c.args.folder.now) (g.F.Folder.faults c.args.folder.now) (g.F.Folder.faults c.file.new.folder) c.from_residual-in_err-program.result c.in_ok-bytes.bytes.items c.deref.result.now c.in_err-program.field-0.0 p.0 p.1 p.2 c.in_ok-bytes.ensures.few c.deref.ensures.value c.in_ok-bytes.ensures.whole c.in_err-program.ensures.told

pub returns-clause-told : goal.returns-clause-told
returns-clause-told g c =
    next_answered source_limit c.args.name.now sources (λ f failed. OfRewriting) (g.F.Folder.files c.args.folder.now) (g.F.Folder.faults c.args.folder.now) (g.F.Folder.faults c.file.new.folder) c.rewritten.result c.in_ok-bytes.bytes.items c.deref.result.now c.in_ok-program.program c.in_ok-bytes.ensures.few c.deref.ensures.value c.in_ok-bytes.ensures.whole c.in_ok-program.ensures.holds (λ f. c.rewritten.ensures)

pub rewritten-requires : goal.rewritten-requires
rewritten-requires g c =
    let P = c.in_ok-program.program in let levelled = c.in_ok-program.ensures.holds.answer.levelled in
    record { typed = is_typed P c.in_ok-program.ensures.holds.typed; unbegun = unbegun P levelled; tagged = tagged P levelled }
