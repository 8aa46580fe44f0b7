use Rattle.std.proofs.Common.{◌≡◌, ◌+◌, drop, sum_by}
use Rattle.brisk_types.specs.Declarations as spec
use Rattle.brisk_types.specs.Failures.{note_all}
use Rattle.brisk_syntax.specs.Tokens as tokens
use Rattle.brisk_types.proofs.declarations.enumerations.Given as goal

abbrev pub invariant-loop-e : goal.invariant-loop-e
invariant-loop-e l = record {
  noted : note_all l.first.failure (spec.enumerations l.at (drop l.e-index l.e-items)) ≡ note_all l.fn.first.failure (spec.enumerations l.fn.at l.enums);
  counted : l.at + sum_by tokens.enum_tokens (drop l.e-index l.e-items) ≡ l.fn.at + sum_by tokens.enum_tokens l.enums;
}
