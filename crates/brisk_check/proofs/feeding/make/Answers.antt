use Rattle.std.proofs.Common.{◌≡◌, Ok, subst, sym}
use Rattle.std.specs.Prelude.{IfOk, IfErr}
use Rattle.brisk_loops.specs.Walk.{Called}
use Rattle.brisk_loops.specs.WalkSeen.{Tells}
use Rattle.brisk_check.proofs.Seeing.{used_calls}
use Rattle.brisk_check.proofs.feeding.make.Goals as goal

pub returns-in-Some-clause-ok : goal.returns-in-Some-clause-ok
returns-in-Some-clause-ok c =
    let P : Called → Type 0 = λ z. IfOk c.take_all.result (λ x. z ≡ Ok c.take_all.new.walk) in
    subst P (sym (used_calls c.args.lines.now.reading c.args.line c.in-Use.name c.in-Some.steps.now c.args.walk.now c.in-Use.is c.in-Some.ensures)) c.take_all.ensures.ok

pub returns-in-Some-clause-cause : goal.returns-in-Some-clause-cause
returns-in-Some-clause-cause c =
    let P : Called → Type 0 = λ z. IfErr c.take_all.result (λ f. Tells z f) in
    subst P (sym (used_calls c.args.lines.now.reading c.args.line c.in-Use.name c.in-Some.steps.now c.args.walk.now c.in-Use.is c.in-Some.ensures)) c.take_all.ensures.cause
