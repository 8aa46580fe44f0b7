use Rattle.std.proofs.Common.{◌≡◌, ◌++◌, ◌-◌, ◌+◌, ◌∷◌, [], List, refl, ap, sym, ◌∙◌, arith, subst}
use Rattle.std.proofs.lemmas.List.{append-nil}
use Rattle.brisk_values.specs.declared.value.Pid.{Pid}
use Rattle.brisk_instance.specs.Given.{instance_of}
use Rattle.brisk_async.specs.declared.event.Event.{Event}
use Rattle.brisk_async.specs.Machine.{State, start, step}
use Rattle.brisk_async.specs.PlainRuns.{Overtakes, plain_from}
use Rattle.brisk_async.specs.States.{state_of}
use Rattle.brisk_trace.specs.declared.standing.Standing.{Standing}
use Rattle.brisk_trace.specs.Plain.{IsCut}
use Rattle.brisk_trace.specs.Watches.{standing_in}
use Rattle.brisk_trace.proofs.Nexts.{is_there, next_enabled, none_left, none_taken, one_more_taken, program_kept}
use Rattle.brisk_trace.proofs.Watched.{Watched, from_overtakes, is_cut, overtakes_now, runs_on, watched_from, watched_next}
use Rattle.brisk_trace.proofs.overtaking.overtaking_run.Goals as goal
use Rattle.brisk_trace.proofs.overtaking.overtaking_run.Goals.{else-loop-test, then-loop-test+in_default}

pub loop-init : goal.loop-init
loop-init c =
    let P = c.args.program.now in let i = instance_of c.args.instance.now in
    let all_left : c.args.most - 0 ≡ c.args.most = omega arith in (
      ap (λ (s : State). s.program) c.in_ok-machine.ensures,
      watched_from P i c.new-items.result.items (state_of c.in_ok-machine.machine) (standing_in c.new-watch.result) c.requires.unbegun c.new-items.ensures.items c.in_ok-machine.ensures c.new-watch.ensures,
      λ j. c.new-items.ensures.items j ++ plain_from (all_left j) c.args.order.now (c.in_ok-machine.ensures j),
    )

pub note-requires : goal.note-requires
note-requires c =
    let s = state_of c.loop.machine in
    let t = next_enabled c.args.order.now s c.in-Some.event (sym c.in-Some.ensures) in
    is_there (step s c.in-Some.event) t.0 t.1

pub take-requires : goal.take-requires
take-requires c =
    let s = state_of c.loop.machine in
    let t = next_enabled c.args.order.now s c.in-Some.event (sym c.in-Some.ensures) in
    is_there (step s c.in-Some.event) t.0 t.1

pub returns-then-overtakes : goal.returns-then-overtakes
returns-then-overtakes c =
    let P = c.args.program.now in let i = instance_of c.args.instance.now in
    let order = c.args.order.now in let k = c.loop.counter in let n = c.args.most in
    let s = state_of c.loop.machine in let t = state_of c.take.new.machine in let e = c.in-Some.event in
    let es = c.loop.items.items in
    let whole = plain_from n order (start P i) in
    let watched = c.loop.invariant.1 in
    let again = sym c.takes_again-overtakes.ensures ∙ c.if-overtakes.true in
    subst (IsCut P i whole) (sym c.in_ok-push.ensures.items)
    (is_cut P i whole es (plain_from (n - (k + 1)) order t) e t
    (sym (one_more_taken k n order s t e es (es ++ e ∷ []) whole c.loop-test.true (sym c.in-Some.ensures) c.in_ok-take.ensures refl c.loop.invariant.2))
    (runs_on (start P i) es s t (standing_in c.loop.watch) e watched c.in_ok-take.ensures)
    watched.none
    (overtakes_now (start P i) es s t (standing_in c.loop.watch) e watched c.in_ok-take.ensures again))

pub loop-preserved : goal.loop-preserved
loop-preserved c =
    let P = c.args.program.now in let i = instance_of c.args.instance.now in
    let s = state_of c.loop.machine in let t = state_of c.take.new.machine in let e = c.in-Some.event in
    let es = c.loop.items.items in
    let first = sym c.takes_again-overtakes.ensures ∙ c.if-overtakes.false in (
      program_kept s t e c.in_ok-take.ensures ∙ c.loop.invariant.0,
      subst (λ (z : List Event). Watched (start P i) z t (standing_in c.note.new.self)) (sym c.in_ok-push.ensures.items)
          (subst (λ (z : Pid → Standing). Watched (start P i) (es ++ e ∷ []) t z) (sym c.in_ok-note.ensures)
          (watched_next (start P i) es s t (standing_in c.loop.watch) e c.loop.invariant.1 c.in_ok-take.ensures first)),
      one_more_taken c.loop.counter c.args.most c.args.order.now s t e es c.push.new.self.items _ c.loop-test.true (sym c.in-Some.ensures) c.in_ok-take.ensures c.in_ok-push.ensures.items c.loop.invariant.2,
    )

pub returns : goal.returns
returns c over =
    let P = c.args.program.now in let i = instance_of c.args.instance.now in
    let s = state_of c.loop.machine in
    let es = c.loop.items.items in
    let none : plain_from (c.args.most - c.loop.counter) c.args.order.now s ≡ [] = elim c.loop-test.branch as (λ _. plain_from (c.args.most - c.loop.counter) c.args.order.now s ≡ []) [
      | else-loop-test w ↦ none_left c.args.most c.loop.counter c.args.order.now s (omega arith)
      | then-loop-test+in_default w ↦ none_taken (c.args.most - c.loop.counter) c.args.order.now s (sym w.in_default.ensures)
    ] in
    let whole = sym c.loop.invariant.2 ∙ ap (λ z. es ++ z) none ∙ append-nil es in
    c.loop.invariant.1.none (from_overtakes P i es (subst (Overtakes P i) whole over))
