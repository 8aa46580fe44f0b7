use Rattle.std.proofs.Common.{◌≡◌, ◌+◌, drop}
use Rattle.brisk_syntax.specs.Statements.{code_of}
use Rattle.brisk_syntax.specs.Tokens.{code_tokens}
use Rattle.brisk_types.proofs.count.+code.Given as goal

abbrev pub invariant-code_tokens-loop-s : goal.invariant-code_tokens-loop-s
invariant-code_tokens-loop-s l = l.tokens + code_tokens (code_of (drop l.s-index l.s-items)) ≡ code_tokens l.body
