use Rattle.std.proofs.Common.{◌≡◌, ◌+◌, drop, map, sum_by}
use Rattle.brisk_types.specs.Declarations as spec
use Rattle.brisk_types.specs.Failures.{note_all}
use Rattle.brisk_types.specs.Names.{global_meaning}
use Rattle.brisk_syntax.specs.Tokens as tokens
use Rattle.brisk_syntax.specs.Texts.{text_of}
use Rattle.brisk_types.proofs.declarations.roles.Given as goal

abbrev pub invariant-loop-each : goal.invariant-loop-each
invariant-loop-each l = record {
  noted : note_all l.first.failure (spec.roles (global_meaning l.globals) l.at (map text_of (drop l.each-index l.each-items)))
      ≡ note_all l.fn.first.failure (spec.roles (global_meaning l.globals) l.fn.at l.roles);
  counted : l.at + sum_by tokens.role_tokens (map text_of (drop l.each-index l.each-items)) ≡ l.fn.at + sum_by tokens.role_tokens l.roles;
}
