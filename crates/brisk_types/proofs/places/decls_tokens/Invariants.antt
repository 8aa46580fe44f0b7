use Rattle.std.proofs.Common.{◌≡◌, ◌+◌, drop, sum_by}
use Rattle.brisk_syntax.specs.Tokens.{decl_tokens}
use Rattle.brisk_types.proofs.places.decls_tokens.Given as goal

abbrev pub invariant-loop-decl : goal.invariant-loop-decl
invariant-loop-decl l = l.tokens + sum_by decl_tokens (drop l.decl-index l.decl-items) ≡ sum_by decl_tokens l.decls
