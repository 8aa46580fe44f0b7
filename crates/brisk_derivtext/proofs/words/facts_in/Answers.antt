use Rattle.brisk_derivtext.proofs.Fronts.{one_fact_more, no_facts}
use Rattle.brisk_derivtext.proofs.words.facts_in.Goals as goal

pub loop-word-preserved : goal.loop-word-preserved
loop-word-preserved c = one_fact_more _ _ _ _ _ _ _ c.loop-word.invariant c.in-Some.ensures c.in-Some-fact_in.ensures c.in_ok-push.ensures.items

pub returns-in_default-fact_in : goal.returns-in_default-fact_in
returns-in_default-fact_in c =
    let so_far = c.loop-word.invariant in
    no_facts _ _ _ _ _ so_far.whole so_far.facts so_far.ends c.in-Some.ensures c.in_default-fact_in.ensures
