-- How deep bodies nest.
use Rattle.std.specs.Prelude.{ℕ, ◌+◌, max}
use Rattle.brisk_syntax.specs.Syntax.{Statement, Assign, Send, Recv, RecvAny, If, IfElse, While, For, Repeat, Code, done, ◌⨾◌}

-- how many bodies stand one in another
abbrev mutual
  pub code_depth : Code → ℕ
  code_depth done = 0
  code_depth (s ⨾ c) = max (statement_depth s) (code_depth c)

  pub statement_depth : Statement → ℕ
  statement_depth (Assign x e) = 0
  statement_depth (Send c es u) = 0
  statement_depth (Recv c xs u) = 0
  statement_depth (RecvAny c xs v s b) = code_depth b + 1
  statement_depth (If e a) = code_depth a + 1
  statement_depth (IfElse e a b) = max (code_depth a) (code_depth b) + 1
  statement_depth (While e b) = code_depth b + 1
  statement_depth (For v s k b) = code_depth b + 1
  statement_depth (Repeat s k b) = code_depth b + 1
