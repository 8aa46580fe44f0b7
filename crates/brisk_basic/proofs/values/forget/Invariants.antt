use Rattle.std.proofs.Common.{◌≡◌, drop}
use Rattle.brisk_facts.specs.Facts.{without_facts}
use Rattle.brisk_basic.proofs.values.forget.Given as goal

abbrev pub invariant-loop-variable : goal.invariant-loop-variable
invariant-loop-variable l = without_facts l.at (drop l.variable-index l.variable-items) l.facts ≡ without_facts l.at l.variable-items l.initial.facts
