use Rattle.std.proofs.Common.{◌≡◌, drop}
use Rattle.brisk_instance.specs.Begun.{with_values}
use Rattle.brisk_instance.proofs.start.add_values.Given as goal

abbrev pub invariant-loop-decl : goal.invariant-loop-decl
invariant-loop-decl l = with_values l.given l.process (drop l.decl-index l.decl-items) l.store ≡ with_values l.given l.process l.decls l.initial.store
