use Rattle.std.proofs.Common.{ℕ, ◌<◌}
use Rattle.std.specs.List.{AllByRecursion}
use Rattle.brisk_values.specs.Names.{member}
use Rattle.brisk_syntax.specs.Instance.{InputFits}
use Rattle.brisk_instance.specs.Walks.{instance_from}
use Rattle.brisk_instance.proofs.fit.members_fit.Given as goal

-- the members so far fit
abbrev pub invariant-loop-member : goal.invariant-loop-member
invariant-loop-member l =
    (k : ℕ) → k < l.member → AllByRecursion (InputFits l.enums (instance_from l.given) (member l.role.name k)) l.role.decls
