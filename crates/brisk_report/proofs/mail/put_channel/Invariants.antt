use Rattle.std.proofs.Common.{◌≡◌, ◌++◌, drop}
use Rattle.brisk_report.specs.Printing.{channel_text}
use Rattle.brisk_report.proofs.mail.put_channel.Given as goal

-- what is written, and what is left to write
abbrev pub invariant-loop-message : goal.invariant-loop-message
invariant-loop-message l = l.out.items ++ channel_text (drop l.message-index l.messages) l.channel ≡ l.initial.out.items ++ channel_text l.messages l.channel
