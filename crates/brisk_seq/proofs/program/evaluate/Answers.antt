use Rattle.std.proofs.Common.{List, sym, subst}
use Rattle.std.specs.Prelude.{IfErr}
use Rattle.std.proofs.lemmas.Result.{err_from_is_err_and}
use Rattle.brisk_values.specs.declared.value.Pid.{Pid}
use Rattle.brisk_values.specs.Places.{value_in}
use Rattle.brisk_seq.specs.Running.{Goes, Stops, Tells, focus_on, given_in, outcome}
use Rattle.brisk_seq.specs.Sequential.{do_all}
use Rattle.brisk_seq.proofs.Outcomes.{halts, leaves, stopped}
use Rattle.brisk_seq.proofs.program.evaluate.Goals as goal

pub returns-in_err-items-clause-stops : goal.returns-in_err-items-clause-stops
returns-in_err-items-clause-stops c =
    let cs = c.args.setting.now.choices.now in let given = given_in c.args.setting.now in let b = c.args.body.now in
    let p = err_from_is_err_and c.from_residual.result c.from_residual.ensures.1 in let f = c.in_err-items.field-0.0 in
    let e = outcome given b (value_in c.args.store) cs c.args.turns in
    subst (λ r. IfErr r (Tells e)) (sym p.1)
    (subst (Tells e) (sym p.2)
    (stopped cs given b c.args.store c.new.result c.args.turns c.new.ensures f
    (subst (λ (xs : List Pid). Stops cs (record { store = c.args.store; boxes = c.new.result; asked = 0; turns = c.args.turns; moves = 0 }) (do_all given b (focus_on xs)) f) c.new-focus.ensures.items c.in_err-items.ensures.stops)))

pub returns-then-run-setting-clause-stops : goal.returns-then-run-setting-clause-stops
returns-then-run-setting-clause-stops c =
    let cs = c.args.setting.now.choices.now in let given = given_in c.args.setting.now in let b = c.args.body.now in
    leaves cs given b c.args.store c.new.result c.args.turns c.new.ensures c.items.new.run
    (subst (λ (xs : List Pid). Goes cs (record { store = c.args.store; boxes = c.new.result; asked = 0; turns = c.args.turns; moves = 0 }) c.items.new.run (do_all given b (focus_on xs))) c.new-focus.ensures.items c.in_ok-items.ensures.goes)
    c.if-run-setting.true

pub returns-clause-halts : goal.returns-clause-halts
returns-clause-halts c =
    let cs = c.args.setting.now.choices.now in let given = given_in c.args.setting.now in let b = c.args.body.now in
    halts cs given b c.args.store c.new.result c.args.turns c.new.ensures c.items.new.run
    (subst (λ (xs : List Pid). Goes cs (record { store = c.args.store; boxes = c.new.result; asked = 0; turns = c.args.turns; moves = 0 }) c.items.new.run (do_all given b (focus_on xs))) c.new-focus.ensures.items c.in_ok-items.ensures.goes)
    c.if-run-setting.false
