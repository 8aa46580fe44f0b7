use Rattle.std.proofs.Common.{◌≡◌, ◌++◌, ◌-◌, [], ap, sym, ◌∙◌, arith}
use Rattle.std.proofs.lemmas.List.{append-nil}
use Rattle.brisk_instance.specs.Given.{instance_of}
use Rattle.brisk_async.specs.Machine.{run, start, step}
use Rattle.brisk_async.specs.PlainRuns.{plain_from}
use Rattle.brisk_async.specs.States.{state_of}
use Rattle.brisk_trace.proofs.Nexts.{is_there, next_enabled, none_left, none_taken, one_more_taken, program_kept, run_more}
use Rattle.brisk_trace.proofs.plain.plain_run.Goals as goal
use Rattle.brisk_trace.proofs.plain.plain_run.Goals.{else-loop-test, then-loop-test+in_default}

pub take-requires : goal.take-requires
take-requires c =
    let s = state_of c.loop.machine in
    let t = next_enabled c.args.order.now s c.in-Some.event (sym c.in-Some.ensures) in
    is_there (step s c.in-Some.event) t.0 t.1

pub loop-preserved : goal.loop-preserved
loop-preserved c =
    let s = state_of c.loop.machine in let t = state_of c.take.new.machine in let e = c.in-Some.event in
    let first = start c.args.program.now (instance_of c.args.instance.now) in (
      program_kept s t e c.in_ok-take.ensures ∙ c.loop.invariant.0,
      ap (run first) c.in_ok-push.ensures.items ∙ run_more first s t c.loop.items.items e c.loop.invariant.1 c.in_ok-take.ensures,
      one_more_taken c.loop.counter c.args.most c.args.order.now s t e c.loop.items.items c.push.new.self.items _ c.loop-test.true (sym c.in-Some.ensures) c.in_ok-take.ensures c.in_ok-push.ensures.items c.loop.invariant.2,
    )

pub returns-clause-events : goal.returns-clause-events
returns-clause-events c =
    let s = state_of c.loop.machine in
    sym (append-nil c.loop.items.items) ∙ ap (λ es. c.loop.items.items ++ es) (sym (elim c.loop-test.branch as (λ _. plain_from (c.args.most - c.loop.counter) c.args.order.now s ≡ []) [
      | else-loop-test w ↦ none_left c.args.most c.loop.counter c.args.order.now s (omega arith)
      | then-loop-test+in_default w ↦ none_taken (c.args.most - c.loop.counter) c.args.order.now s (sym w.in_default.ensures)
    ])) ∙ c.loop.invariant.2
