use Rattle.std.proofs.Common.{List, [], sym, subst}
use Rattle.std.specs.Prelude.{IfErr}
use Rattle.std.proofs.lemmas.Result.{err_from_is_err_and}
use Rattle.brisk_values.specs.declared.value.Pid.{Pid}
use Rattle.brisk_values.specs.Places.{value_in}
use Rattle.brisk_syntax.specs.Declarations.{is_loose}
use Rattle.brisk_seq.specs.Running.{Tells, focus_on, given_in}
use Rattle.brisk_async.specs.declared.event.Event.{Event}
use Rattle.brisk_unfold.specs.declared.progress.Progress.{Progress}
use Rattle.brisk_unfold.specs.Going.{Goes, Stops, steps_in, unfolded_from}
use Rattle.brisk_unfold.proofs.Canonical.{halts, leaves, stopped}
use Rattle.brisk_unfold.proofs.schedule.events_from.Goals as goal

pub returns-in_err-steps-clause-err : goal.returns-in_err-steps-clause-err
returns-in_err-steps-clause-err c =
    let s = c.args.unfolder.now in let cs = s.setting.choices.now in let D = c.args.derivation.now in let X = c.args.body.now in
    let first : List Event → Progress = λ es. record { run = record { store = c.args.store; boxes = c.new.result; asked = 0; turns = c.args.turns; moves = 0 }; events = es; senders = c.new-3.result } in
    let p = err_from_is_err_and c.from_residual.result c.from_residual.ensures.1 in let f = c.in_err-steps.field-0.0 in
    let e = unfolded_from (given_in s.setting) (is_loose s.channels.now) cs D X (value_in c.args.store) c.args.turns in
    subst (λ r. IfErr r (Tells e)) (sym p.1)
    (subst (Tells e) (sym p.2)
    (stopped (given_in s.setting) (is_loose s.channels.now) cs D X c.args.store c.new.result c.new-3.result c.args.turns c.new.ensures c.new-3.ensures f
    (subst (λ (es : List Event). Stops cs (first es) (steps_in s D X (focus_on [])) f) c.new-2.ensures.items
    (subst (λ (xs : List Pid). Stops cs (first c.new-2.result.items) (steps_in s D X (focus_on xs)) f) c.new-focus.ensures.items c.in_err-steps.ensures.stops))))

pub returns-then-progress-unfolder-clause-err : goal.returns-then-progress-unfolder-clause-err
returns-then-progress-unfolder-clause-err c =
    let s = c.args.unfolder.now in let cs = s.setting.choices.now in let D = c.args.derivation.now in let X = c.args.body.now in
    let first : List Event → Progress = λ es. record { run = record { store = c.args.store; boxes = c.new.result; asked = 0; turns = c.args.turns; moves = 0 }; events = es; senders = c.new-3.result } in
    leaves (given_in s.setting) (is_loose s.channels.now) cs D X c.args.store c.new.result c.new-3.result c.args.turns c.new.ensures c.new-3.ensures c.steps.new.progress
    (subst (λ (es : List Event). Goes cs (first es) c.steps.new.progress (steps_in s D X (focus_on []))) c.new-2.ensures.items
    (subst (λ (xs : List Pid). Goes cs (first c.new-2.result.items) c.steps.new.progress (steps_in s D X (focus_on xs))) c.new-focus.ensures.items c.in_ok-steps.ensures.goes))
    c.if-progress-unfolder.true

pub returns-clause-ok : goal.returns-clause-ok
returns-clause-ok c =
    let s = c.args.unfolder.now in let cs = s.setting.choices.now in let D = c.args.derivation.now in let X = c.args.body.now in
    let first : List Event → Progress = λ es. record { run = record { store = c.args.store; boxes = c.new.result; asked = 0; turns = c.args.turns; moves = 0 }; events = es; senders = c.new-3.result } in
    halts (given_in s.setting) (is_loose s.channels.now) cs D X c.args.store c.new.result c.new-3.result c.args.turns c.new.ensures c.new-3.ensures c.steps.new.progress
    (subst (λ (es : List Event). Goes cs (first es) c.steps.new.progress (steps_in s D X (focus_on []))) c.new-2.ensures.items
    (subst (λ (xs : List Pid). Goes cs (first c.new-2.result.items) c.steps.new.progress (steps_in s D X (focus_on xs))) c.new-focus.ensures.items c.in_ok-steps.ensures.goes))
    c.if-progress-unfolder.false
