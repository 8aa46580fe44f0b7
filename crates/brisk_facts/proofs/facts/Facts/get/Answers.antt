use Rattle.std.proofs.Common.{ap, ◌∙◌}
use Rattle.brisk_facts.specs.Facts.{fact}
use Rattle.brisk_facts.proofs.Places.{find_entry}
use Rattle.brisk_facts.proofs.facts.Facts.get.Goals as goal

pub returns : goal.returns
returns c =
    c.copied.ensures ∙ c.get.ensures.value ∙ find_entry (c.args.at, c.args.variable) c.self.inside.entries.entries ∙ ap (λ f. fact f c.args.at c.args.variable) c.self.view_is
