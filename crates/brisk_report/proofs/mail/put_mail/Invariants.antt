use Rattle.std.proofs.Common.{◌≡◌, ◌++◌, drop, map}
use Rattle.std.specs.Prelude.{flat_map}
use Rattle.brisk_syntax.specs.Texts.{text_of}
use Rattle.brisk_report.specs.Printing.{sender_text, mail_text}
use Rattle.brisk_report.proofs.mail.put_mail.Given as goal

-- what is written, and what is left to write
abbrev pub invariant-loop-sender : goal.invariant-loop-sender
invariant-loop-sender l =
    l.out.items ++ flat_map (λ r. sender_text l.program l.messages r.name) (map text_of (drop l.sender-index l.sender-items)) ≡ l.initial.out.items ++ mail_text l.program l.messages
