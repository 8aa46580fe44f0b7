use Rattle.std.proofs.Common.{Option, sym, subst, ap, ◌∙◌, ◌≡◌}
use Rattle.std.specs.Prelude.{IfOk, Result}
use Rattle.brisk_derivation.specs.Seen.{step_of}
use Rattle.brisk_loops.specs.Walk.{entry}
use Rattle.brisk_loops.specs.WalkSeen.{AreEntered}
use Rattle.brisk_loops.proofs.Ending.{last_entered, none_left, why_so}
use Rattle.brisk_loops.proofs.walk.Walk.close_refusal.Goals as goal

pub returns : goal.returns
returns c =
    let i = c.self.inside in let r = c.in-Some.rule.now in
    let last = sym c.deref.ensures.value ∙ c.in-Some.ensures.cases.0 in
    let entered = last_entered i.program c.in-Some.field-0-1.now r (subst (AreEntered i.program) last c.self.invariant.0) in
    why_so i.program i.state i.items i.rules.items i.applied i.counted c.args.self.now c.self.view_is c.in-Some.field-0-1.now r last c.ending.result c.why_not.result (c.ending.ensures.ok i.program entered) (c.ending.ensures.cause i.program entered) c.why_not.ensures.done c.why_not.ensures.cause
