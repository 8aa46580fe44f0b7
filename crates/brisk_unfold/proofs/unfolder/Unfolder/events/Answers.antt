use Rattle.std.proofs.Common.{ℕ, Option, inl, inr, sym, subst}
use Rattle.std.specs.Prelude.{OnOk}
use Rattle.brisk_values.specs.declared.value.Pid.{Pid}
use Rattle.brisk_syntax.specs.Declarations.{is_loose}
use Rattle.brisk_seq.specs.Running.{focus_on}
use Rattle.brisk_seq.proofs.Evaluating.{on_ok}
use Rattle.brisk_async.specs.PlainRuns.{plain_place}
use Rattle.brisk_derivation.specs.declared.steps.BasicStep.{BasicStep}
use Rattle.brisk_rules.specs.Unfolding.{events_of, moves}
use Rattle.brisk_unfold.specs.Going.{Marks, receives_at}
use Rattle.brisk_unfold.proofs.Marking.{marks_then}
use Rattle.brisk_unfold.proofs.unfolder.Unfolder.events.Goals as goal

pub returns-in-Fill : goal.returns-in-Fill
returns-in-Fill c =
    subst (λ (b : BasicStep). OnOk c.step.result (Marks c.args.progress.now c.step.new.self (events_of (is_loose c.args.self.now.channels.now) (focus_on c.args.focus.now) b))) (sym c.in-Fill.is)
    (subst (λ (p : Pid). OnOk c.step.result (Marks c.args.progress.now c.step.new.self (moves p))) c.process.ensures c.step.ensures)

pub returns-in-Assign : goal.returns-in-Assign
returns-in-Assign c =
    let r = c.step-in-Assign.result in let loose = is_loose c.args.self.now.channels.now in let who = focus_on c.args.focus.now in
    let P : BasicStep → Type 0 = λ b. OnOk r (Marks c.args.progress.now c.step-in-Assign.new.self (events_of loose who b)) in
    let done = subst (λ (p : Pid). OnOk r (Marks c.args.progress.now c.step-in-Assign.new.self (moves p))) c.process-in-Assign.ensures c.step-in-Assign.ensures in
    elim c.in-Assign.is [ inl e ↦ subst P (sym e) done | inr e ↦ subst P (sym e) done ]

pub returns-in-Take : goal.returns-in-Take
returns-in-Take c =
    let old = c.args.progress.now in let new = c.receive-in-Take.new.self in
    subst (λ (b : BasicStep). OnOk c.receive-in-Take.result (Marks old new (events_of (is_loose c.args.self.now.channels.now) (focus_on c.args.focus.now) b))) (sym c.in-Take.is)
    (subst (λ (p : Pid). OnOk c.receive-in-Take.result (Marks old new (receives_at (plain_place (is_loose c.args.self.now.channels.now c.in-Take.channel)) p))) c.process-in-Take.ensures
    (subst (λ (o : Option ℕ). OnOk c.receive-in-Take.result (Marks old new (receives_at o c.process-in-Take.result))) c.place_on-in-Take.ensures c.receive-in-Take.ensures))

pub returns-in_ok-step-in-Pass : goal.returns-in_ok-step-in-Pass
returns-in_ok-step-in-Pass c =
    let old = c.args.progress.now in let mid = c.step-in-Pass.new.self in let new = c.receive.new.self in let who = focus_on c.args.focus.now in
    subst (λ (b : BasicStep). OnOk c.receive.result (Marks old new (events_of (is_loose c.args.self.now.channels.now) who b))) (sym c.in-Pass.is)
    (on_ok c.receive.result _ _
    (marks_then old mid new (moves (who c.in-Pass.from)) (receives_at (plain_place (is_loose c.args.self.now.channels.now c.in-Pass.channel)) (who c.in-Pass.to)) (subst (λ (p : Pid). Marks old mid (moves p)) c.process-in-Pass.ensures c.in_ok-step-in-Pass.ensures))
    (subst (λ (p : Pid). OnOk c.receive.result (Marks mid new (receives_at (plain_place (is_loose c.args.self.now.channels.now c.in-Pass.channel)) p))) c.process-in-Pass-2.ensures
    (subst (λ (o : Option ℕ). OnOk c.receive.result (Marks mid new (receives_at o c.process-in-Pass-2.result))) c.place_on.ensures c.receive.ensures)))
