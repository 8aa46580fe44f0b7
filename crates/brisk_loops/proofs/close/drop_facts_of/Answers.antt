use Rattle.std.proofs.Common.{ap, sym, ◌∙◌}
use Rattle.brisk_loops.specs.CloseSeen.{drops_in}
use Rattle.brisk_rules.specs.Rules.{without_drops}
use Rattle.brisk_loops.proofs.Dropping.{none_dropped}
use Rattle.brisk_loops.proofs.close.drop_facts_of.Goals as goal

pub returns-in-Basic : goal.returns-in-Basic
returns-in-Basic c = sym (none_dropped c.args.facts.now) ∙ ap (λ s. without_drops (drops_in s) c.args.facts.now) (sym c.in-Basic.is)

pub returns-in-Branch : goal.returns-in-Branch
returns-in-Branch c = sym (none_dropped c.args.facts.now) ∙ ap (λ s. without_drops (drops_in s) c.args.facts.now) (sym c.in-Branch.is)
