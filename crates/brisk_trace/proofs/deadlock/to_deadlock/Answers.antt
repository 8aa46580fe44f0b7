use Rattle.std.proofs.Common.{◌∙◌, rules}
use Rattle.brisk_async.specs.States.{state_of}
use Rattle.brisk_trace.proofs.Deadlocked.{is_schedule, not_deadlocked}
use Rattle.brisk_trace.proofs.deadlock.to_deadlock.Goals as goal

pub returns-then-not-is_deadlocked : goal.returns-then-not-is_deadlocked
returns-then-not-is_deadlocked c =
    not_deadlocked c.args.program.now 1 100000 c.in_ok-instance.instance c.deref.result.now c.in_ok-run.run'.events c.in_ok-instance.ensures
    (c.deref.ensures.value ∙ c.in_ok-order.ensures) c.in_ok-run.ensures.events (state_of c.in_ok-run.run'.machine) c.in_ok-run.ensures.reached (λ d. let t = c.is_deadlocked.ensures.1 d in cc)

pub returns : goal.returns
returns c = (
  record {
    instance = c.in_ok-instance.ensures;
    events = is_schedule c.args.program.now 1 100000 c.in_ok-instance.instance c.deref.result.now c.in_ok-run.run'.events c.in_ok-instance.ensures
        (c.deref.ensures.value ∙ c.in_ok-order.ensures) c.in_ok-run.ensures.events;
  },
  (state_of c.in_ok-run.run'.machine, c.in_ok-run.ensures.reached, c.is_deadlocked.ensures.0 (search rules)),
)
