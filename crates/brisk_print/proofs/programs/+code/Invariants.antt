use Rattle.std.proofs.Common.{◌≡◌, ◌++◌, drop}
use Rattle.brisk_syntax.specs.Statements.{code_of}
use Rattle.brisk_print.specs.Layout.{code}
use Rattle.brisk_print.proofs.programs.+code.Given as goal

-- what is written, and then what is left
abbrev pub invariant-put_statements-loop-statement : goal.invariant-put_statements-loop-statement
invariant-put_statements-loop-statement l = l.out.items ++ code l.margin (code_of (drop l.statement-index l.statements)) ≡ l.fn.out.items ++ code l.margin (code_of l.statements)
