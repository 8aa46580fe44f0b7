use Rattle.std.proofs.Common.{◌≡◌, drop}
use Rattle.brisk_syntax.specs.Classes.{all_local}
use Rattle.brisk_syntax.specs.Statements.{code_of}
use Rattle.brisk_syntax.proofs.classes.+local.Given as goal

abbrev pub invariant-all_local-loop-s : goal.invariant-all_local-loop-s
invariant-all_local-loop-s l = all_local (code_of (drop l.s-index l.s-items)) ≡ all_local l.body
