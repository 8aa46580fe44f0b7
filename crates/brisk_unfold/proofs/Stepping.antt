-- Steps of an unfolding in code, one after another.
use Rattle.std.proofs.Common.{◌≡◌, ℕ, ◌+◌, ◌<◌, Bool, List, ◌∷◌, length, drop, get_or, Option, sym, ap, subst, ◌∙◌}
use Rattle.std.proofs.lemmas.List.{drop_more}
use Rattle.brisk_values.specs.Names.{Name}
use Rattle.brisk_seq.specs.declared.fault.SeqFault.{SeqFault}
use Rattle.brisk_seq.specs.declared.tree.Seq.{Seq}
use Rattle.brisk_seq.specs.Items.{Item, Items}
use Rattle.brisk_seq.specs.Seen.{items_of}
use Rattle.brisk_seq.specs.Sequential.{Focus, Given}
use Rattle.brisk_basic.specs.Outcomes.{and_then}
use Rattle.brisk_derivation.specs.declared.steps.Step.{Step}
use Rattle.brisk_derivation.specs.Seen.{step_of, steps_of}
use Rattle.brisk_derivation.specs.Steps.{Steps}
use Rattle.brisk_rules.specs.Unfolding.{Unfolding, Unfolded, item_for, items_after, unfold_all, unfold_step}
use Rattle.brisk_unfold.specs.declared.progress.Progress.{Progress}
use Rattle.brisk_unfold.specs.Going.{Goes, Leads, Stops, unfolding_of}
use Rattle.brisk_unfold.proofs.Leading.{leads_by, leads_on, stops_on}

-- one step, and then the others
module _ (choices : List ℕ) (given : Given) (loose : Name → Bool) (who : Focus) (a b : Progress) (D : Steps) (X : Items) (ss : List Step) (i : ℕ) (s : Step) (rest : List Seq)
    (h : i < length ss) (is : s ≡ get_or ss i s) (o : Option Item) (here : o ≡ item_for (step_of s) (items_of rest))
    (leads : Leads choices a b (unfold_all given loose D X who) (unfold_all given loose (steps_of (drop i ss)) (items_of rest) who)) where
  abbrev others : Items → Unfolding → Unfolded
  others later = unfold_all given loose (steps_of (drop (i + 1) ss)) later who

  at_step : Leads choices a b (unfold_all given loose D X who) (λ u. and_then (unfold_step given loose (step_of s) o who u) (others (items_after (step_of s) (items_of rest))))
  at_step =
      leads_by choices a b (unfold_all given loose D X who) (unfold_all given loose (steps_of (drop i ss)) (items_of rest) who)
      (λ u. and_then (unfold_step given loose (step_of s) o who u) (others (items_after (step_of s) (items_of rest)))) leads
      (λ n. ap (λ (ps : List Step). unfold_all given loose (steps_of ps) (items_of rest) who (unfolding_of choices n b)) (drop_more ss i s h ∙ ap (λ (p : Step). p ∷ drop (i + 1) ss) (sym is))
      ∙ ap (λ (q : Option Item). and_then (unfold_step given loose (step_of s) q who (unfolding_of choices n b)) (others (items_after (step_of s) (items_of rest)))) (sym here))

  pub steps_go : (c : Progress) (later : List Seq) → items_of later ≡ items_after (step_of s) (items_of rest) → Goes choices b c (unfold_step given loose (step_of s) o who) →
      Leads choices a c (unfold_all given loose D X who) (unfold_all given loose (steps_of (drop (i + 1) ss)) (items_of later) who)
  steps_go c later after goes =
      subst (λ (x : Items). Leads choices a c (unfold_all given loose D X who) (others x)) (sym after)
      (leads_on choices a b c (unfold_all given loose D X who) (unfold_step given loose (step_of s) o who) (others (items_after (step_of s) (items_of rest))) at_step goes)

  pub steps_stop : (f : SeqFault) → Stops choices b (unfold_step given loose (step_of s) o who) f → Stops choices a (unfold_all given loose D X who) f
  steps_stop f stops = stops_on choices a b (unfold_all given loose D X who) (unfold_step given loose (step_of s) o who) (others (items_after (step_of s) (items_of rest))) f at_step stops
