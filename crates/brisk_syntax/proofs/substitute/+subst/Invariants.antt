use Rattle.std.proofs.Common.{◌≡◌, drop}
use Rattle.brisk_syntax.specs.Statements.{code_of}
use Rattle.brisk_syntax.specs.Substitution.{code_with}
use Rattle.brisk_syntax.specs.Syntax.{◌then◌}
use Rattle.brisk_syntax.proofs.substitute.+subst.Given as goal

-- what is replaced, and what is left
abbrev pub invariant-subst_all-loop-s : goal.invariant-subst_all-loop-s
invariant-subst_all-loop-s l =
    code_of l.items.items then code_with l.binder l.who (code_of (drop l.s-index l.ss)) ≡ code_with l.binder l.who (code_of l.ss)
