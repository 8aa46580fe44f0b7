use Rattle.std.proofs.Common.{◌≡◌, ◌+◌, drop, sum_by}
use Rattle.brisk_types.specs.Declarations as spec
use Rattle.brisk_types.specs.Failures.{note_all}
use Rattle.brisk_types.specs.Names.{global_meaning, meaning_of}
use Rattle.brisk_syntax.specs.Tokens as tokens
use Rattle.brisk_syntax.specs.Texts.{text_of}
use Rattle.brisk_types.proofs.declarations.declared.Given as goal

abbrev pub invariant-loop-decl : goal.invariant-loop-decl
invariant-loop-decl l = record {
  noted : note_all l.first.failure (spec.declarations (meaning_of l.names) l.at (drop l.decl-index l.decl-items))
      ≡ note_all l.fn.first.failure (spec.declarations (global_meaning l.fn.globals l.role.name) (l.fn.at + spec.heading_tokens (text_of l.role)) l.role.decls);
  names : spec.behind_all (meaning_of l.names) (drop l.decl-index l.decl-items) ≡ spec.behind_all (global_meaning l.fn.globals l.role.name) l.role.decls;
  counted : l.at + sum_by tokens.decl_tokens (drop l.decl-index l.decl-items) ≡ l.fn.at + spec.heading_tokens (text_of l.role) + sum_by tokens.decl_tokens l.role.decls;
}
