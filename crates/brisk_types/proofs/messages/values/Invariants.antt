use Rattle.std.proofs.Common.{◌≡◌, ◌+◌, ◌<◌, ◌^◌, drop, map}
use Rattle.brisk_syntax.specs.Expressions.{expression_of}
use Rattle.brisk_types.specs.Failures.{note_all}
use Rattle.brisk_types.specs.Names.{meaning_of}
use Rattle.brisk_types.specs.Statements as spec
use Rattle.brisk_types.proofs.Lists.{spaced_tokens}
use Rattle.brisk_types.proofs.messages.values.Given as goal

-- what is noted, and what is left
abbrev pub invariant-loop-e : goal.invariant-loop-e
invariant-loop-e l = record {
  noted : note_all l.first.failure (spec.values (meaning_of l.names) l.at (map expression_of (drop l.e-index l.e-items)) l.kinds)
      ≡ note_all l.fn.first.failure (spec.values (meaning_of l.names) l.fn.at l.exprs l.fn.kinds);
  room : l.at + spaced_tokens (map expression_of (drop l.e-index l.e-items)) < 2 ^ 32;
}
