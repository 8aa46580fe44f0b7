use Rattle.brisk_report.proofs.Nothing.{no_receivers}
use Rattle.brisk_report.proofs.mail.put_receivers.Goals as goal

pub returns-then-is_empty : goal.returns-then-is_empty
returns-then-is_empty c = no_receivers c.args.program.now c.args.messages.now c.args.out.now.items c.if-is_empty.ensures
