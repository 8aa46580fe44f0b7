-- Facts that are dropped one by one.
use Rattle.std.proofs.Common.{◌≡◌, Bool, true, false, List, [], ◌∷◌, refl, ap}
use Rattle.std.specs.Prelude.{◌&&◌, ◌||◌, not, cond}
use Rattle.std.specs.List.{list_any}
use Rattle.brisk_values.specs.Names.{same_name}
use Rattle.brisk_facts.specs.Facts.{Place, Facts, without_fact}
use Rattle.brisk_derivation.specs.declared.steps.Fact.{Fact}
use Rattle.brisk_rules.specs.Rules.{without_drops}

-- where nothing is dropped, all stays
pub none_dropped : (F : Facts) → without_drops [] F ≡ F
none_dropped [] = refl
none_dropped (e ∷ F) = ap (λ (G : Facts). e ∷ G) (none_dropped F)

-- the test of one drop
abbrev hit : Fact → Place → Bool
hit d q = same_name d.at q.0 && same_name d.variable q.1

-- one is dropped, and then the others
pub one_dropped : (d : Fact) (ds : List Fact) (F : Facts) → without_drops (d ∷ ds) F ≡ without_drops ds (without_fact d.at d.variable F)
one_dropped d ds [] = refl
one_dropped d ds (e ∷ F) =
    let more = one_dropped d ds F in let b = list_any (λ c. hit c e.0) ds in
    elim (hit d e.0) as (λ a. cond (not (a || b)) (e ∷ without_drops (d ∷ ds) F) (without_drops (d ∷ ds) F) ≡ without_drops ds (cond (not a) (e ∷ without_fact d.at d.variable F) (without_fact d.at d.variable F))) [
      | true ↦ more
      | false ↦ ap (λ (G : Facts). cond (not b) (e ∷ G) G) more
    ]
