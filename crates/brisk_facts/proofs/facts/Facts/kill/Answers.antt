use Rattle.std.proofs.Common.{ap, ◌∙◌}
use Rattle.brisk_facts.specs.Facts.{without_fact}
use Rattle.brisk_facts.proofs.Places.{removed}
use Rattle.brisk_facts.proofs.facts.Facts.kill.Goals as goal

pub returns : goal.returns
returns c =
    c.remove.ensures.entries ∙ removed c.args.at c.args.variable c.self.inside.entries.entries c.self.invariant ∙ ap (without_fact c.args.at c.args.variable) c.self.view_is
