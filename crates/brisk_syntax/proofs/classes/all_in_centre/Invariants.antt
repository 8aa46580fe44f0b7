use Rattle.std.proofs.Common.{◌≡◌, drop}
use Rattle.brisk_syntax.specs.Classes.{every, in_centre}
use Rattle.brisk_syntax.specs.Statements.{code_of}
use Rattle.brisk_syntax.proofs.classes.all_in_centre.Given as goal

abbrev pub invariant-loop-s : goal.invariant-loop-s
invariant-loop-s l = every in_centre (code_of (drop l.s-index l.s-items)) ≡ every in_centre l.body
