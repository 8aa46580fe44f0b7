use Rattle.std.proofs.Common.{◌≡◌, ◌++◌, drop, map}
use Rattle.std.specs.Prelude.{flat_map}
use Rattle.brisk_syntax.specs.Texts.{text_of}
use Rattle.brisk_report.specs.Printing.{receiver_text, receivers_text}
use Rattle.brisk_report.proofs.mail.put_receivers.Given as goal

-- what is written, and what is left to write
abbrev pub invariant-loop-receiver : goal.invariant-loop-receiver
invariant-loop-receiver l =
    l.out.items ++ flat_map (λ r. receiver_text l.program l.messages r.name) (map text_of (drop l.receiver-index l.receiver-items)) ≡ l.initial.out.items ++ receivers_text l.program l.messages
