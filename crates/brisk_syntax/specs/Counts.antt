-- How many statements a program has.
use Rattle.std.specs.Prelude.{ℕ, ◌+◌, sum_by}
use Rattle.brisk_syntax.specs.Syntax.{Statement, Assign, Send, Recv, RecvAny, If, IfElse, While, For, Repeat, Code, done, ◌⨾◌}
use Rattle.brisk_syntax.specs.declared.program.Program.{Program}

-- the number of statements in a statement, itself counted, and in code
abbrev mutual
  pub statements_in : Statement → ℕ
  statements_in (Assign x e) = 1
  statements_in (Send c es u) = 1
  statements_in (Recv c xs u) = 1
  statements_in (RecvAny c xs v s b) = 1 + statements b
  statements_in (If e a) = 1 + statements a
  statements_in (IfElse e a b) = 1 + statements a + statements b
  statements_in (While e b) = 1 + statements b
  statements_in (For v s k b) = 1 + statements b
  statements_in (Repeat s k b) = 1 + statements b

  pub statements : Code → ℕ
  statements done = 0
  statements (s ⨾ c) = statements_in s + statements c

-- the number of statements of a program
abbrev pub program_statements : Program → ℕ
program_statements P = sum_by (λ r. statements r.code) P.roles
