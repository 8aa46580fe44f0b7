use Rattle.std.proofs.Common.{◌≡◌, take}
use Rattle.std.specs.Prelude.{option_map}
use Rattle.brisk_values.specs.Names.{Name}
use Rattle.brisk_types.specs.Indexes.{found, key, same_key}
use Rattle.brisk_syntax.specs.Declarations.{kinds_on}
use Rattle.brisk_types.proofs.globals.channel_index.Given as goal

abbrev pub invariant-loop-channel : goal.invariant-loop-channel
invariant-loop-channel l = (c : Name) → option_map (λ k. k.now) (found same_key l.index (key c)) ≡ kinds_on (take l.channel-index l.channel-items) c
