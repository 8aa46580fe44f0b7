use Rattle.std.proofs.Common.{◌∙◌}
use Rattle.brisk_schedule.specs.Taking.{LacksEnd}
use Rattle.brisk_schedule.specs.Texts.{IsTold, event_line}
use Rattle.brisk_schedule.proofs.Takes.{free_event, one_so_far, passed_on, past_end, to_end, unwanted_so_far}
use Rattle.brisk_schedule.proofs.events.read_events.Goals as goal

pub loop-items-preserved : goal.loop-items-preserved
loop-items-preserved c =
    let more = one_so_far (event_line c.args.sizes.now) (IsTold c.args.sizes.now) _ _ _ _ _ c.in_ok-add_event.field-0 c.loop-items.invariant.so_far c.if-branch.true c.in_ok-add_event.ensures.ok in
    record { so_far = more.0; format = more.1 ∙ c.loop-items.invariant.format }

pub returns-in_err-add_event-clause-err : goal.returns-in_err-add_event-clause-err
returns-in_err-add_event-clause-err c = passed_on (LacksEnd c.args.sizes.now c.args.lines.now) c.from_residual.result c.in_err-add_event.field-0.0 c.from_residual.ensures.1 (unwanted_so_far (event_line c.args.sizes.now) (IsTold c.args.sizes.now) c.args.sizes.now _ _ _ c.in_err-add_event.field-0.0 (free_event c.args.sizes.now) c.loop-items.invariant.so_far c.in_err-add_event.ensures.err)

pub returns-in_err-finish-clause-err : goal.returns-in_err-finish-clause-err
returns-in_err-finish-clause-err c = passed_on (LacksEnd c.args.sizes.now c.args.lines.now) c.from_residual-in_err-finish.result c.in_err-finish.field-0.0 c.from_residual-in_err-finish.ensures.1 (past_end (event_line c.args.sizes.now) (IsTold c.args.sizes.now) c.args.sizes.now _ _ _ _ _ c.in_err-finish.field-0.0 c.in_ok-add_event.field-0 (free_event c.args.sizes.now) c.loop-items.invariant.so_far c.if-branch.false c.in_ok-add_event.ensures.ok c.in_err-finish.ensures.err)

pub returns-clause-ok : goal.returns-clause-ok
returns-clause-ok c = (to_end (event_line c.args.sizes.now) (IsTold c.args.sizes.now) _ _ _ _ _ c.in_ok-add_event.field-0 c.loop-items.invariant.so_far c.if-branch.false c.in_ok-add_event.ensures.ok c.in_ok-finish.ensures.ok).0

pub returns-clause-told : goal.returns-clause-told
returns-clause-told c = (to_end (event_line c.args.sizes.now) (IsTold c.args.sizes.now) _ _ _ _ _ c.in_ok-add_event.field-0 c.loop-items.invariant.so_far c.if-branch.false c.in_ok-add_event.ensures.ok c.in_ok-finish.ensures.ok).1
