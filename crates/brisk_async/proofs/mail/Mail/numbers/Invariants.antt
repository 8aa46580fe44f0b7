use Rattle.brisk_async.specs.Keys.{mail_in}
use Rattle.brisk_async.proofs.Ranked.{Holds}
use Rattle.brisk_async.proofs.mail.Mail.numbers.Given as goal

abbrev pub invariant-loop-key : goal.invariant-loop-key
invariant-loop-key l = Holds l.program (mail_in l.self) l.key-iterator l.numbers
