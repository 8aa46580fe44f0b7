use Rattle.std.proofs.Common.{◌∷◌, [], ◌+◌, ap, drop}
use Rattle.std.proofs.lemmas.Result.{on_ok_weaker}
use Rattle.brisk_derivation.specs.Seen.{step_of}
use Rattle.brisk_derivtext.specs.declared.line.Line.TheVariants.{Close}
use Rattle.brisk_derivtext.specs.Parts.{places_lines}
use Rattle.brisk_derivtext.specs.Shared.{shared}
use Rattle.brisk_derivtext.specs.SharedKept.{steps_at}
use Rattle.brisk_derivtext.proofs.Appended.{here_and_behind, two_texts}
use Rattle.brisk_derivtext.proofs.Shares.{fork_written, place_written}
use Rattle.brisk_derivtext.proofs.sharing.+sharing.Goals as goal

pub put_premise-returns : goal.put_premise-returns
put_premise-returns t c =
    let words = two_texts c.args.out.now.items (places_lines (shared (steps_at c.args.parts.now) c.args.premise.now)) (Close ∷ []) in
    on_ok_weaker c.put.result (λ e. cc (words, e, c.in_ok-put_shared.ensures)) c.put.ensures

pub put_opened-returns-in_ok-put_shared-in-Branch-2 : goal.put_opened-returns-in_ok-put_shared-in-Branch-2
put_opened-returns-in_ok-put_shared-in-Branch-2 t c =
    on_ok_weaker c.put-in-Branch.result (fork_written (steps_at c.args.parts.now) _ _ _ _ _ _ (step_of c.args.step.now) _ _ _ (ap step_of c.in-Branch.is) c.in_ok-put_first_line.ensures c.in_ok-put_shared-in-Branch.ensures c.in_ok-put-in-Branch.ensures c.in_ok-put_shared-in-Branch-2.ensures) c.put-in-Branch.ensures

pub put_shared-loop-step-preserved : goal.put_shared-loop-step-preserved
put_shared-loop-step-preserved t c =
    let items = c.deref-step-items.result.now in
    let i = c.loop-step.step-index in
    let here = here_and_behind items i c.step-item.result c.loop-step-test.true c.step-item.is in
    place_written (steps_at c.args.parts.now) c.loop-step.out.items c.put_place.new.out.items _ c.step-item.result (drop (i + 1) items) (drop i items) here c.loop-step.invariant c.in_ok-put_place.ensures
