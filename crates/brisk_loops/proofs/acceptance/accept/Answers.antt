use Rattle.std.proofs.Common.{ap, sym, ◌∙◌}
use Rattle.std.proofs.lemmas.Result.{err_from_is_err_and}
use Rattle.brisk_rules.specs.Derives.{outcome}
use Rattle.brisk_loops.specs.Walk.{calls_of}
use Rattle.brisk_loops.specs.WalkKept.{kept_all}
use Rattle.brisk_loops.specs.WalkSeen.{Fails}
use Rattle.brisk_loops.proofs.Taking.{handed_on, tells_with, outcome_fails, outcome_gives, outcome_refuses}
use Rattle.brisk_loops.proofs.acceptance.accept.Goals as goal

pub returns-in_err-take_all-clause-cause : goal.returns-in_err-take_all-clause-cause
returns-in_err-take_all-clause-cause c =
    let p = err_from_is_err_and c.from_residual-in_err-take_all.result c.from_residual-in_err-take_all.ensures.1 in
    handed_on c.from_residual-in_err-take_all.result p.0 (λ f. Fails (outcome c.args.program.now c.args.derivation.now) f) p.1
    (rw p.2 (outcome_fails c.args.program.now c.args.derivation.now c.in_err-take_all.field-0.0
    (tells_with _ _ c.in_err-take_all.field-0.0 (ap (kept_all (calls_of c.args.derivation.now)) (sym c.in_ok-walk.ensures)) c.in_err-take_all.ensures.cause)))

pub returns-clause-ok : goal.returns-clause-ok
returns-clause-ok c =
    outcome_gives c.args.program.now c.args.derivation.now c.take_all.new.walk c.finish.result (ap (kept_all (calls_of c.args.derivation.now)) (sym c.in_ok-walk.ensures) ∙ c.in_ok-take_all.ensures.ok) c.finish.ensures.ok

pub returns-clause-cause : goal.returns-clause-cause
returns-clause-cause c =
    outcome_refuses c.args.program.now c.args.derivation.now c.take_all.new.walk c.finish.result (ap (kept_all (calls_of c.args.derivation.now)) (sym c.in_ok-walk.ensures) ∙ c.in_ok-take_all.ensures.ok) c.finish.ensures.cause
