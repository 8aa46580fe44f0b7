use Rattle.std.proofs.Common.{◌≡◌, ◌++◌, drop}
use Rattle.std.specs.Prelude.{flat_map}
use Rattle.brisk_report.specs.Printing.{channel_text, channels_text}
use Rattle.brisk_report.proofs.mail.put_channels.Given as goal

-- what is written, and what is left to write
abbrev pub invariant-loop-channel : goal.invariant-loop-channel
invariant-loop-channel l =
    l.out.items ++ flat_map (λ c. channel_text l.messages c.name) (drop l.channel-index l.channel-items) ≡ l.initial.out.items ++ channels_text l.program l.messages
