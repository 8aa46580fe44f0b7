use Rattle.std.proofs.Common.{◌≡◌, ◌+◌, ◌<◌, ◌^◌, drop, map}
use Rattle.std.specs.Prelude.{option_map}
use Rattle.brisk_syntax.specs.Expressions.{expression_of}
use Rattle.brisk_types.specs.Failures.{note_all}
use Rattle.brisk_types.specs.Names.{meaning_of}
use Rattle.brisk_types.specs.Sequences as spec
use Rattle.brisk_types.proofs.Lists.{spaced_tokens}
use Rattle.brisk_types.proofs.sequences.passed.Given as goal

-- what is noted, and what is left
abbrev pub invariant-loop-e : goal.invariant-loop-e
invariant-loop-e l = record {
  noted : note_all l.first.failure (spec.passed (meaning_of l.names) (option_map (λ names. meaning_of names.now) l.to) l.at (map expression_of (drop l.e-index l.e-items)) l.vars)
      ≡ note_all l.fn.first.failure (spec.passed (meaning_of l.names) (option_map (λ names. meaning_of names.now) l.fn.to) l.fn.at l.exprs l.fn.vars);
  room : l.at + spaced_tokens (map expression_of (drop l.e-index l.e-items)) < 2 ^ 32;
}
