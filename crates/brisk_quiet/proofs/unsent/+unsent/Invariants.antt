use Rattle.std.proofs.Common.{◌≡◌, drop}
use Rattle.brisk_syntax.specs.Statements.{code_of}
use Rattle.brisk_syntax.specs.Syntax.{◌then◌}
use Rattle.brisk_quiet.specs.Sender.{unsent}
use Rattle.brisk_quiet.proofs.unsent.+unsent.Given as goal

-- what is left of the statements so far, and of those to come
abbrev pub invariant-unsent_all-loop-statement : goal.invariant-unsent_all-loop-statement
invariant-unsent_all-loop-statement l =
    code_of l.items.items then unsent l.binder (code_of (drop l.statement-index l.statements)) ≡ unsent l.binder (code_of l.statements)
