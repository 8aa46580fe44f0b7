use Rattle.std.proofs.Common.{◌≡◌, ◌+◌, ◌++◌, drop, map, sum_by}
use Rattle.brisk_syntax.specs.Texts.{text_of}
use Rattle.brisk_syntax.specs.Tokens.{enum_tokens, channel_tokens, role_tokens}
use Rattle.brisk_types.specs.Declarations as spec
use Rattle.brisk_types.proofs.places.global_names.Given as goal

-- the names so far and those that are left are all
abbrev pub invariant-loop-e : goal.invariant-loop-e
invariant-loop-e l = record {
  names : l.names.items ++ spec.placed_enums l.at (drop l.e-index l.e-items) ≡ spec.placed_enums 0 l.enums;
  counted : l.at + sum_by enum_tokens (drop l.e-index l.e-items) ≡ sum_by enum_tokens l.enums;
}

abbrev pub invariant-loop-channel : goal.invariant-loop-channel
invariant-loop-channel l = record {
  names : l.names.items ++ spec.placed_channels l.at (drop l.channel-index l.channel-items)
      ≡ spec.placed_enums 0 l.enums ++ spec.placed_channels (sum_by enum_tokens l.enums) l.channels;
  counted : l.at + sum_by channel_tokens (drop l.channel-index l.channel-items) ≡ spec.roles_at (spec.program_of l.enums l.channels l.roles);
}

abbrev pub invariant-loop-role : goal.invariant-loop-role
invariant-loop-role l = record {
  names : l.names.items ++ spec.placed_roles l.at (map text_of (drop l.role-index l.role-items)) ≡ spec.placed (spec.program_of l.enums l.channels l.roles);
  counted : l.at + sum_by role_tokens (map text_of (drop l.role-index l.role-items)) ≡ spec.roles_at (spec.program_of l.enums l.channels l.roles) + sum_by role_tokens l.roles;
}
