use Rattle.std.proofs.Common.{◌+◌, ◌∷◌, ap, sym, ◌∙◌, drop, arith}
use Rattle.std.proofs.lemmas.List.{at_drop_all, at_drop_more}
use Rattle.brisk_rules.specs.Rules.{without_drops}
use Rattle.brisk_loops.proofs.Dropping.{none_dropped, one_dropped}
use Rattle.brisk_loops.proofs.enter.drop_facts.Goals as goal

pub loop-fact-preserved : goal.loop-fact-preserved
loop-fact-preserved c =
    let xs = c.deref-fact-items.result.now in let i = c.loop-fact.fact-index in let d = c.fact-item.result in let F = c.loop-fact.facts in
    ap (without_drops (drop (i + 1) xs)) c.kill.ensures ∙ sym (one_dropped d (drop (i + 1) xs) F) ∙ ap (λ z. without_drops (z ∷ drop (i + 1) xs) F) c.fact-item.is
    ∙ sym (at_drop_more (λ ds. without_drops ds F) xs i d c.loop-fact-test.true) ∙ c.loop-fact.invariant

pub returns : goal.returns
returns c =
    let xs = c.deref-fact-items.result.now in let F = c.loop-fact.facts in
    sym (none_dropped F) ∙ sym (at_drop_all (λ ds. without_drops ds F) xs c.loop-fact.fact-index (omega arith)) ∙ c.loop-fact.invariant
    ∙ ap (λ ds. without_drops ds c.args.facts.now) (c.deref-fact-items.ensures.value ∙ c.drops.view_is)
