use Rattle.std.proofs.Common.{◌≡◌, take}
use Rattle.brisk_syntax.proofs.copies.copy_channels.Given as goal

abbrev pub invariant-loop-channel : goal.invariant-loop-channel
invariant-loop-channel l = l.items.items ≡ take l.channel-index l.channel-items
