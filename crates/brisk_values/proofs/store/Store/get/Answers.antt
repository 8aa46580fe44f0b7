use Rattle.std.proofs.Common.{ap, sym, ◌∙◌}
use Rattle.std.specs.FinMap as map
use Rattle.brisk_values.proofs.Entries.{get_place}
use Rattle.brisk_values.proofs.store.Store.get.Goals as goal

pub returns : goal.returns
returns c =
    c.copied.ensures ∙ c.get.ensures.value ∙ sym (get_place c.self.inside.entries.entries (c.args.process, c.args.variable)) ∙ ap (λ m. map.get m (c.args.process, c.args.variable)) c.self.view_is
