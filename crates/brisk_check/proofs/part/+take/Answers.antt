use Rattle.std.proofs.Common.{◌+◌, ◌∷◌, ap, sym, ◌∙◌, drop}
use Rattle.std.proofs.lemmas.List.{at_drop_more}
use Rattle.std.proofs.lemmas.Result.{err_from_is_err_and}
use Rattle.brisk_derivation.specs.Seen.{step_of, steps_of}
use Rattle.brisk_loops.specs.Walk.{calls, calls_of}
use Rattle.brisk_loops.specs.Walk as walks
use Rattle.brisk_loops.specs.WalkKept.{kept_all}
use Rattle.brisk_loops.specs.WalkSeen.{Tells}
use Rattle.brisk_loops.proofs.Taking.{answers_ok, answers_err, handed_on, tells_with, loop_tells, loop_leaves, branch_tells, branch_second_tells, branch_leaves, steps_go, steps_tell}
use Rattle.brisk_check.proofs.part.+take.Goals as goal

pub take-returns-in_err-take_all-in-While-clause-cause : goal.take-returns-in_err-take_all-in-While-clause-cause
take-returns-in_err-take_all-in-While-clause-cause t c =
    let p = err_from_is_err_and c.from_residual-in_err-take_all-in-While.result c.from_residual-in_err-take_all-in-While.ensures.1 in
    handed_on c.from_residual-in_err-take_all-in-While.result p.0 (λ f. Tells (kept_all (calls (step_of c.args.step.now)) c.args.walk.now) f) p.1
    (rw p.2 (loop_tells c.args.step.now c.in-While.premise c.in-While.is c.args.walk.now c.enter-in-While.new.self c.in_err-take_all-in-While.field-0.0 c.in_ok-enter-in-While.ensures.ok c.in_err-take_all-in-While.ensures.cause))

pub take-returns-in_ok-take_all-in-While-clause-ok : goal.take-returns-in_ok-take_all-in-While-clause-ok
take-returns-in_ok-take_all-in-While-clause-ok t c =
    answers_ok c.leave-in-While.result (walks.leave c.take_all-in-While.new.walk) (kept_all (calls (step_of c.args.step.now)) c.args.walk.now) c.leave-in-While.new.self
    (loop_leaves c.args.step.now c.in-While.premise c.in-While.is c.args.walk.now c.enter-in-While.new.self c.take_all-in-While.new.walk c.in_ok-enter-in-While.ensures.ok c.in_ok-take_all-in-While.ensures.ok) c.leave-in-While.ensures.ok

pub take-returns-in_ok-take_all-in-While-clause-cause : goal.take-returns-in_ok-take_all-in-While-clause-cause
take-returns-in_ok-take_all-in-While-clause-cause t c =
    answers_err c.leave-in-While.result (walks.leave c.take_all-in-While.new.walk) (kept_all (calls (step_of c.args.step.now)) c.args.walk.now)
    (loop_leaves c.args.step.now c.in-While.premise c.in-While.is c.args.walk.now c.enter-in-While.new.self c.take_all-in-While.new.walk c.in_ok-enter-in-While.ensures.ok c.in_ok-take_all-in-While.ensures.ok) c.leave-in-While.ensures.cause

pub take-returns-in_err-take_all-in-Branch-clause-cause : goal.take-returns-in_err-take_all-in-Branch-clause-cause
take-returns-in_err-take_all-in-Branch-clause-cause t c =
    let p = err_from_is_err_and c.from_residual-in_err-take_all-in-Branch.result c.from_residual-in_err-take_all-in-Branch.ensures.1 in
    handed_on c.from_residual-in_err-take_all-in-Branch.result p.0 (λ f. Tells (kept_all (calls (step_of c.args.step.now)) c.args.walk.now) f) p.1
    (rw p.2 (branch_tells c.args.step.now c.in-Branch.field-0 c.in-Branch.first c.in-Branch.second c.in-Branch.is c.args.walk.now c.enter.new.self c.in_err-take_all-in-Branch.field-0.0 c.in_ok-enter-in-Branch.ensures.ok c.in_err-take_all-in-Branch.ensures.cause))

pub take-returns-in_err-take_all-in-Branch-2-clause-cause : goal.take-returns-in_err-take_all-in-Branch-2-clause-cause
take-returns-in_err-take_all-in-Branch-2-clause-cause t c =
    let p = err_from_is_err_and c.from_residual-in_err-take_all-in-Branch-2.result c.from_residual-in_err-take_all-in-Branch-2.ensures.1 in
    handed_on c.from_residual-in_err-take_all-in-Branch-2.result p.0 (λ f. Tells (kept_all (calls (step_of c.args.step.now)) c.args.walk.now) f) p.1
    (rw p.2 (branch_second_tells c.args.step.now c.in-Branch.field-0 c.in-Branch.first c.in-Branch.second c.in-Branch.is c.args.walk.now c.enter.new.self c.take_all.new.walk c.other.new.self c.in_err-take_all-in-Branch-2.field-0.0 c.in_ok-enter-in-Branch.ensures.ok c.in_ok-take_all-in-Branch.ensures.ok c.in_ok-other-in-Branch.ensures.ok c.in_err-take_all-in-Branch-2.ensures.cause))

pub take-returns-in_ok-take_all-in-Branch-2-clause-ok : goal.take-returns-in_ok-take_all-in-Branch-2-clause-ok
take-returns-in_ok-take_all-in-Branch-2-clause-ok t c =
    answers_ok c.leave.result (walks.leave c.take_all-in-Branch.new.walk) (kept_all (calls (step_of c.args.step.now)) c.args.walk.now) c.leave.new.self
    (branch_leaves c.args.step.now c.in-Branch.field-0 c.in-Branch.first c.in-Branch.second c.in-Branch.is c.args.walk.now c.enter.new.self c.take_all.new.walk c.other.new.self c.take_all-in-Branch.new.walk c.in_ok-enter-in-Branch.ensures.ok c.in_ok-take_all-in-Branch.ensures.ok c.in_ok-other-in-Branch.ensures.ok c.in_ok-take_all-in-Branch-2.ensures.ok) c.leave.ensures.ok

pub take-returns-in_ok-take_all-in-Branch-2-clause-cause : goal.take-returns-in_ok-take_all-in-Branch-2-clause-cause
take-returns-in_ok-take_all-in-Branch-2-clause-cause t c =
    answers_err c.leave.result (walks.leave c.take_all-in-Branch.new.walk) (kept_all (calls (step_of c.args.step.now)) c.args.walk.now)
    (branch_leaves c.args.step.now c.in-Branch.field-0 c.in-Branch.first c.in-Branch.second c.in-Branch.is c.args.walk.now c.enter.new.self c.take_all.new.walk c.other.new.self c.take_all-in-Branch.new.walk c.in_ok-enter-in-Branch.ensures.ok c.in_ok-take_all-in-Branch.ensures.ok c.in_ok-other-in-Branch.ensures.ok c.in_ok-take_all-in-Branch-2.ensures.ok) c.leave.ensures.cause

pub take_all-loop-step-preserved : goal.take_all-loop-step-preserved
take_all-loop-step-preserved t c =
    let xs = c.deref-step-items.result.now in let i = c.loop-step.step-index in
    c.loop-step.invariant ∙ at_drop_more (λ ss. kept_all (calls_of (steps_of ss)) c.loop-step.walk) xs i c.step-item.result c.loop-step-test.true
    ∙ ap (λ s. kept_all (calls_of (steps_of (s ∷ drop (i + 1) xs))) c.loop-step.walk) (sym c.step-item.is) ∙ steps_go c.step-item.result (drop (i + 1) xs) c.loop-step.walk c.take.new.walk c.in_ok-take.ensures.ok

pub take_all-returns-in_err-take-clause-cause : goal.take_all-returns-in_err-take-clause-cause
take_all-returns-in_err-take-clause-cause t c =
    let xs = c.deref-step-items.result.now in let i = c.loop-step.step-index in
    let p = err_from_is_err_and c.from_residual.result c.from_residual.ensures.1 in
    handed_on c.from_residual.result p.0 (λ f. Tells (kept_all (calls_of c.args.steps.now) c.args.walk.now) f) p.1
    (rw p.2 (tells_with _ _ c.in_err-take.field-0.0
    (ap (λ D. kept_all (calls_of D) c.args.walk.now) (sym (ap steps_of c.deref-step-items.ensures.value ∙ c.steps.view_is)) ∙ c.loop-step.invariant
    ∙ at_drop_more (λ ss. kept_all (calls_of (steps_of ss)) c.loop-step.walk) xs i c.step-item.result c.loop-step-test.true
    ∙ ap (λ s. kept_all (calls_of (steps_of (s ∷ drop (i + 1) xs))) c.loop-step.walk) (sym c.step-item.is))
    (steps_tell c.step-item.result (drop (i + 1) xs) c.loop-step.walk c.in_err-take.field-0.0 c.in_err-take.ensures.cause)))
