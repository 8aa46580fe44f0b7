use Rattle.std.proofs.Common.{◌≡◌, ◌+◌, ◌-◌, ◌<◌, ◌^◌, min, drop}
use Rattle.brisk_syntax.specs.Statements.{code_of}
use Rattle.brisk_syntax.specs.Tokens.{code_tokens}
use Rattle.brisk_instance.proofs.tokens.+code.Given as goal

-- what is counted, and what is left
abbrev pub invariant-code_tokens-loop-s : goal.invariant-code_tokens-loop-s
invariant-code_tokens-loop-s l =
    (l.count < 2 ^ 64) × (min (l.count + code_tokens (code_of (drop l.s-index l.s-items))) (2 ^ 64 - 1) ≡ min (code_tokens l.body) (2 ^ 64 - 1))
