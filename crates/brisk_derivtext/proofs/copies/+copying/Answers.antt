use Rattle.std.proofs.Common.{◌+◌, sym, ◌∙◌, drop, arith}
use Rattle.std.proofs.lemmas.List.{at_drop_all}
use Rattle.brisk_derivation.specs.Seen.{steps_of}
use Rattle.brisk_derivtext.specs.Reading.{◌then◌}
use Rattle.brisk_derivtext.proofs.Appended.{here_and_behind}
use Rattle.brisk_derivtext.proofs.Pushed.{step_copied}
use Rattle.brisk_derivtext.proofs.Putting.{then_nothing}
use Rattle.brisk_derivtext.proofs.copies.+copying.Goals as goal

pub copy_steps-loop-step-preserved : goal.copy_steps-loop-step-preserved
copy_steps-loop-step-preserved t c =
    let items = c.deref-step-items.result.now in
    let i = c.loop-step.step-index in
    let here = here_and_behind items i c.step-item.result c.loop-step-test.true c.step-item.is in
    step_copied c.loop-step.items.items c.push.new.self.items (drop (i + 1) items) (drop i items) c.in_ok-copy_step.field-0 c.step-item.result _ c.in_ok-push.ensures.items c.in_ok-copy_step.ensures here c.loop-step.invariant

pub copy_steps-returns : goal.copy_steps-returns
copy_steps-returns t c =
    let left = at_drop_all (λ xs. steps_of c.loop-step.items.items then steps_of xs) c.deref-step-items.result.now c.loop-step.step-index (omega arith) in
    sym (then_nothing (steps_of c.loop-step.items.items)) ∙ sym left ∙ c.loop-step.invariant
