use Rattle.std.proofs.Common.{◌≡◌, drop}
use Rattle.brisk_syntax.specs.Declarations.{kind_in}
use Rattle.brisk_seq.specs.Sequential.{are_of_kinds}
use Rattle.brisk_seq.proofs.kinds.are_of_kinds.Given as goal

abbrev pub invariant-loop-i : goal.invariant-loop-i
invariant-loop-i l = are_of_kinds (kind_in l.decls) (drop l.i l.xs) (drop l.i l.vs) ≡ are_of_kinds (kind_in l.decls) l.xs l.vs
