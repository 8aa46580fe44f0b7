use Rattle.std.proofs.Common.{drop}
use Rattle.std.specs.List.{AllByRecursion}
use Rattle.brisk_syntax.specs.Instance.{InputFits}
use Rattle.brisk_instance.specs.Walks.{instance_from}
use Rattle.brisk_instance.proofs.fit.process_fits.Given as goal

-- all fit where those that are left do
abbrev pub invariant-loop-decl : goal.invariant-loop-decl
invariant-loop-decl l =
    AllByRecursion (InputFits l.enums (instance_from l.given) l.process) (drop l.decl-index l.decl-items)
    → AllByRecursion (InputFits l.enums (instance_from l.given) l.process) l.decls
