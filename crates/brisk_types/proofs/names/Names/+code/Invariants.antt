use Rattle.std.proofs.Common.{◌≡◌, ◌+◌, drop}
use Rattle.brisk_syntax.specs.Statements.{code_of}
use Rattle.brisk_syntax.specs.Tokens.{code_tokens}
use Rattle.brisk_types.specs.Failures.{note_all}
use Rattle.brisk_types.specs.Names.{meaning_of}
use Rattle.brisk_types.specs.Statements as spec
use Rattle.brisk_types.proofs.names.Names.+code.Given as goal

-- what is noted, and what is left
abbrev pub invariant-code-loop-s : goal.invariant-code-loop-s
invariant-code-loop-s l = record {
  noted : note_all l.first.failure (spec.code (meaning_of l.self) l.binders.items l.at (code_of (drop l.s-index l.s-items)))
      ≡ note_all l.fn.first.failure (spec.code (meaning_of l.self) l.fn.binders.items l.fn.at l.body);
  counted : l.at + code_tokens (code_of (drop l.s-index l.s-items)) ≡ l.fn.at + code_tokens l.body;
  binders : l.binders.items ≡ l.fn.binders.items;
}
