use Rattle.std.proofs.Common.{◌≡◌, ◌+◌, drop, sum_by}
use Rattle.brisk_types.specs.Declarations as spec
use Rattle.brisk_types.specs.Failures.{note_all}
use Rattle.brisk_types.specs.Names.{known_enum}
use Rattle.brisk_syntax.specs.Tokens as tokens
use Rattle.brisk_types.proofs.declarations.channels.Given as goal

abbrev pub invariant-loop-channel : goal.invariant-loop-channel
invariant-loop-channel l = record {
  noted : note_all l.first.failure (spec.channels (known_enum l.globals) l.at (drop l.channel-index l.channel-items)) ≡ note_all l.fn.first.failure (spec.channels (known_enum l.globals) l.fn.at l.channels);
  counted : l.at + sum_by tokens.channel_tokens (drop l.channel-index l.channel-items) ≡ l.fn.at + sum_by tokens.channel_tokens l.channels;
}
