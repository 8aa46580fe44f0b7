use Rattle.std.proofs.Common.{◌≡◌, drop}
use Rattle.brisk_rules.specs.Rules.{without_drops}
use Rattle.brisk_loops.proofs.enter.drop_facts.Given as goal

abbrev pub invariant-loop-fact : goal.invariant-loop-fact
invariant-loop-fact l = without_drops (drop l.fact-index l.fact-items) l.facts ≡ without_drops l.fact-items l.initial.facts
