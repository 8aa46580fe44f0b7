use Rattle.std.proofs.Common.{◌≡◌, ◌+◌, take, drop, Some, None, sym, ap, ◌∙◌, arith, subst}
use Rattle.std.proofs.lemmas.List.{length-take}
use Rattle.brisk_async.specs.Machine.{start, step}
use Rattle.brisk_async.specs.States.{Kept, state_of}
use Rattle.brisk_async.specs.Refusals.{refusal}
use Rattle.brisk_schedule.specs.declared.schedule.Schedule.{Schedule}
use Rattle.brisk_instance.specs.Given.{instance_of}
use Rattle.brisk_schedule.proofs.Plays.{one_more, parts, program_kept, reason}
use Rattle.brisk_schedule.proofs.played.play.Goals as goal

pub loop-event-preserved : goal.loop-event-preserved
loop-event-preserved c =
    let s = start c.args.program.now (instance_of c.args.schedule.now.instance) in
    let items = c.deref-event-items.result.now in
    (omega (arith, c.loop-event.invariant.0), program_kept (state_of c.loop-event.machine) (state_of c.step.new.self) c.event-item.result c.in_default.ensures.ok ∙ c.loop-event.invariant.1, one_more s (state_of c.loop-event.machine) (state_of c.step.new.self) items c.loop-event.event-index c.event-item.result (omega (arith, c.loop-event-test.true)) c.loop-event.invariant.2 c.event-item.is c.in_default.ensures.ok)

pub returns-in_default-why-clause-ends : goal.returns-in_default-why-clause-ends
returns-in_default-why-clause-ends c =
    let items = c.deref-event-items.result.now in
    let i = c.loop-event.event-index in
    let e = c.event-item.result in
    let same = sym c.in-Err.ensures.err in
    let why = reason (state_of c.loop-event.machine) e c.in-Err.why c.in_default-why.not-NoMemory c.in-Err.ensures.cause in (
      take i items,
      e,
      drop (i + 1) items,
      ap (λ (d : Schedule). d.events) (sym c.schedule.view_is) ∙ sym c.deref-event-items.ensures.value ∙ parts items i e (omega (arith, c.loop-event-test.true)) c.event-item.is,
      omega (arith, c.loop-event.invariant.0, length-take i items, c.loop-event-test.true),
      c.loop-event.invariant.2 ∙ ap (λ (k : Kept). Some (state_of k)) same,
      subst (λ (k : Kept). step (state_of k) e ≡ None) same why.0,
      subst (λ (k : Kept). refusal (state_of k) e ≡ Some c.in-Err.why) same why.1,
    )
