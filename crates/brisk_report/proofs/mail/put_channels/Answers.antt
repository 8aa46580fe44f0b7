use Rattle.brisk_report.proofs.Nothing.{no_channels}
use Rattle.brisk_report.proofs.mail.put_channels.Goals as goal

pub returns-then-is_empty : goal.returns-then-is_empty
returns-then-is_empty c = no_channels c.args.program.now c.args.messages.now c.args.out.now.items c.if-is_empty.ensures
