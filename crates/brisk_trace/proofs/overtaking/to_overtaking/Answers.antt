use Rattle.std.proofs.Common.{Option, List, ◌∙◌, subst}
use Rattle.std.specs.Prelude.{MatchOption}
use Rattle.brisk_instance.specs.Given.{instance_of}
use Rattle.brisk_async.specs.declared.event.Event.{Event}
use Rattle.brisk_async.specs.Machine.{start}
use Rattle.brisk_async.specs.PlainRuns.{Overtakes, plain_from}
use Rattle.brisk_trace.specs.Plain.{IsCut}
use Rattle.brisk_trace.proofs.Watched.{cut_plain, not_overtaking}
use Rattle.brisk_trace.proofs.overtaking.to_overtaking.Goals as goal

pub returns-in-None : goal.returns-in-None
returns-in-None c =
    let P = c.args.program.now in let g = c.in_ok-instance.instance in let order = c.deref.result.now in
    let whole = plain_from 100000 order (start P (instance_of g)) in
    not_overtaking P 2 100000 g order c.in_ok-instance.ensures (c.deref.ensures.value ∙ c.in_ok-order.ensures)
    (subst (λ (o : Option (List Event)). MatchOption o (¬ Overtakes P (instance_of g) whole) (λ es. IsCut P (instance_of g) whole es)) c.in-None.is c.in_ok-overtaking_run.ensures)

pub returns-in-Some : goal.returns-in-Some
returns-in-Some c =
    let P = c.args.program.now in let g = c.in_ok-instance.instance in let order = c.deref.result.now in
    let whole = plain_from 100000 order (start P (instance_of g)) in
    record {
      instance = c.in_ok-instance.ensures;
      events = cut_plain P 2 100000 g order c.in_ok-instance.ensures (c.deref.ensures.value ∙ c.in_ok-order.ensures) c.in-Some.events
          (subst (λ (o : Option (List Event)). MatchOption o (¬ Overtakes P (instance_of g) whole) (λ es. IsCut P (instance_of g) whole es)) c.in-Some.is c.in_ok-overtaking_run.ensures);
    }
