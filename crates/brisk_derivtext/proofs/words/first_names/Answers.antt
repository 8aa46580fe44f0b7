use Rattle.brisk_derivtext.proofs.Fronts.{no_name_here, one_more_name}
use Rattle.brisk_derivtext.proofs.words.first_names.Goals as goal

pub loop-word-preserved : goal.loop-word-preserved
loop-word-preserved c = one_more_name _ _ _ _ _ _ _ c.loop-word.invariant c.in-Some.ensures c.in-Some-name_in.ensures c.in_ok-push.ensures.items

pub returns-in_default-name_in : goal.returns-in_default-name_in
returns-in_default-name_in c =
    let so_far = c.loop-word.invariant in
    record { whole = so_far.whole; names = so_far.names; ends = so_far.ends; last = no_name_here c.in-Some.ensures c.in_default-name_in.ensures }
