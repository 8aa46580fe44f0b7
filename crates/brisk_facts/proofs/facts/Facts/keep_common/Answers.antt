use Rattle.std.proofs.Common.{rules, ap, ◌∙◌}
use Rattle.std.proofs.lemmas.Map.Made.{filter_same_pairs}
use Rattle.brisk_facts.specs.Facts.{is_fact, common}
use Rattle.brisk_facts.proofs.Common.{kept_common}
use Rattle.brisk_facts.proofs.facts.Facts.keep_common.Goals as goal

pub returns : goal.returns
returns c =
    filter_same_pairs _ (is_fact c.args.other.now) _ (λ k v b w f' t. search rules) _ _ c.retain.ensures.filtered
    ∙ kept_common c.self.inside.entries.entries c.args.other.now c.self.invariant
    ∙ ap (λ f. common f c.args.other.now) c.self.view_is
