use Rattle.std.proofs.Common.{rules, ap, ◌∙◌}
use Rattle.std.specs.Prelude.{not, filter}
use Rattle.std.proofs.lemmas.Map.Made.{filter_same_pairs}
use Rattle.brisk_facts.specs.Facts.{is_fact}
use Rattle.brisk_facts.proofs.facts.Facts.drop_common.Goals as goal

pub returns : goal.returns
returns c =
    filter_same_pairs _ (λ e. not (is_fact c.args.other.now e)) _ (λ k v b w f' t. search rules) _ _ c.retain.ensures.filtered
    ∙ ap (filter (λ e. not (is_fact c.args.other.now e))) c.self.view_is
