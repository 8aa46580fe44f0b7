use Rattle.std.proofs.Common.{◌≡◌, drop}
use Rattle.brisk_syntax.specs.Declarations.{kind_in}
use Rattle.brisk_seq.proofs.kinds.declared_kind.Given as goal

abbrev pub invariant-loop-decl : goal.invariant-loop-decl
invariant-loop-decl l = kind_in (drop l.decl-index l.decls) l.variable ≡ kind_in l.decls l.variable
