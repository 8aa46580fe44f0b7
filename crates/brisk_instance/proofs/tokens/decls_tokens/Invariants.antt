use Rattle.std.proofs.Common.{◌≡◌, ◌+◌, ◌-◌, ◌<◌, ◌^◌, min, drop}
use Rattle.std.specs.Prelude.{sum_by}
use Rattle.brisk_syntax.specs.Tokens.{decl_tokens}
use Rattle.brisk_instance.proofs.tokens.decls_tokens.Given as goal

-- what is counted, and what is left
abbrev pub invariant-loop-decl : goal.invariant-loop-decl
invariant-loop-decl l =
    (l.count < 2 ^ 64) × (min (l.count + sum_by decl_tokens (drop l.decl-index l.decl-items)) (2 ^ 64 - 1) ≡ min (sum_by decl_tokens l.decls) (2 ^ 64 - 1))
