use Rattle.std.proofs.Common.{arith}
use Rattle.std.proofs.lemmas.List.{at_drop_all}
use Rattle.brisk_derivation.specs.Counts.{steps_among}
use Rattle.brisk_derivation.specs.Seen.{steps_of}
use Rattle.brisk_derivation.proofs.count.+count.Goals as goal

pub count_steps-returns : goal.count_steps-returns
count_steps-returns t c =
    let left = at_drop_all (λ xs. steps_among (steps_of xs)) c.deref-step-items.result.now c.loop-step.step-index (omega arith) in
    omega (arith, left)
