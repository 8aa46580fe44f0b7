use Rattle.std.proofs.Common.{refl, sym, ◌∙◌}
use Rattle.std.proofs.lemmas.Bool.{eqb-false}
use Rattle.std.specs.Vec.{vec_len}
use Rattle.brisk_rules.specs.Standing.{has_code}
use Rattle.brisk_search.specs.Views.{seen}
use Rattle.brisk_search.proofs.Candidates.{must_end_owners}
use Rattle.brisk_search.proofs.closing.Premise.has_to_end.Goals as goal

pub returns-then-not-is_empty : goal.returns-then-not-is_empty
returns-then-not-is_empty c =
    let owners = c.args.self.now.closing.owners.items in
    c.is_at_work.ensures ∙ must_end_owners (has_code c.args.state.now) (seen c.args.self.now.closing) owners refl (λ none. eqb-false (vec_len c.args.self.now.closing.owners) 0 (sym c.is_empty.ensures ∙ c.if-not-is_empty.true) (c.args.self.now.closing.owners.ok.0 ∙ none))
