use Rattle.std.proofs.Common.{◌≡◌, ◌+◌, ◌++◌, drop, map, sum_by}
use Rattle.brisk_syntax.specs.Texts.{text_of}
use Rattle.brisk_syntax.specs.Tokens.{role_tokens}
use Rattle.brisk_types.specs.Failures.{note_all}
use Rattle.brisk_types.specs.Names.{global_meaning, meaning_of}
use Rattle.brisk_types.specs.Sequences as spec
use Rattle.brisk_types.proofs.processes.outlines.Given as goal

abbrev pub invariant-loop-role : goal.invariant-loop-role
invariant-loop-role l = record {
  names : map meaning_of l.names.items ++ map (spec.behind_role (global_meaning l.fn.globals)) (map text_of (drop l.role-index l.role-items))
      ≡ map (spec.behind_role (global_meaning l.fn.globals)) l.roles;
  noted : note_all l.first.failure (spec.outlines (global_meaning l.fn.globals) l.at (map text_of (drop l.role-index l.role-items)))
      ≡ note_all l.fn.first.failure (spec.outlines (global_meaning l.fn.globals) l.fn.at l.roles);
  counted : l.at + sum_by role_tokens (map text_of (drop l.role-index l.role-items)) ≡ l.fn.at + sum_by role_tokens l.roles;
}
