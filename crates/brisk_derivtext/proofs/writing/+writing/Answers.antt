use Rattle.std.proofs.Common.{◌∷◌, [], ◌+◌, ap, drop}
use Rattle.std.proofs.lemmas.Result.{on_ok_weaker}
use Rattle.brisk_derivation.specs.Seen.{step_of}
use Rattle.brisk_derivtext.specs.declared.line.Line.TheVariants.{Close}
use Rattle.brisk_derivtext.specs.Texts.{lines_of}
use Rattle.brisk_derivtext.proofs.Appended.{branch_written, here_and_behind, steps_written, two_texts}
use Rattle.brisk_derivtext.proofs.writing.+writing.Goals as goal

pub put_premise-returns : goal.put_premise-returns
put_premise-returns t c =
    let words = two_texts c.args.out.now.items (lines_of c.args.premise.now) (Close ∷ []) in
    on_ok_weaker c.put.result (λ e. cc (words, e, c.in_ok-put_steps.ensures)) c.put.ensures

pub put_step-returns-in_ok-put_steps-in-Branch-2 : goal.put_step-returns-in_ok-put_steps-in-Branch-2
put_step-returns-in_ok-put_steps-in-Branch-2 t c =
    on_ok_weaker c.put-in-Branch.result (branch_written _ _ _ _ _ _ (step_of c.args.step.now) _ _ _ (ap step_of c.in-Branch.is) c.in_ok-put_first_line.ensures c.in_ok-put_steps-in-Branch.ensures c.in_ok-put-in-Branch.ensures c.in_ok-put_steps-in-Branch-2.ensures) c.put-in-Branch.ensures

pub put_steps-loop-step-preserved : goal.put_steps-loop-step-preserved
put_steps-loop-step-preserved t c =
    let items = c.deref-step-items.result.now in
    let i = c.loop-step.step-index in
    let here = here_and_behind items i c.step-item.result c.loop-step-test.true c.step-item.is in
    steps_written c.loop-step.out.items c.put_step.new.out.items _ c.step-item.result (drop (i + 1) items) (drop i items) here c.loop-step.invariant c.in_ok-put_step.ensures
