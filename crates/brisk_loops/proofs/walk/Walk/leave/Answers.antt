use Rattle.std.proofs.Common.{Option, refl, sym, subst, ap, ◌∙◌}
use Rattle.brisk_derivation.specs.Seen.{step_of}
use Rattle.brisk_seq.specs.Items.{◌followed_by◌, ◌⨟◌, nothing}
use Rattle.brisk_seq.specs.Seen.{item_of, items_of}
use Rattle.brisk_loops.specs.declared.fault.AcceptFault.{AcceptFault}
use Rattle.brisk_loops.specs.declared.leave.Ended.{Ended}
use Rattle.brisk_loops.specs.LeaveSeen.{EndsAs, item_after, state_after}
use Rattle.brisk_loops.specs.Walk as walks
use Rattle.brisk_loops.specs.Walk.{entry}
use Rattle.brisk_loops.specs.WalkSeen.{AreEntered, Fails, inside_of}
use Rattle.brisk_loops.proofs.Crossing.{no_more, stays}
use Rattle.brisk_loops.proofs.Ending.{first_stays, last_entered, leave_fails, leave_gives, none_left}
use Rattle.brisk_loops.proofs.Enters.{entered_fewer}
use Rattle.brisk_loops.proofs.Runs.{items_more}
use Rattle.brisk_loops.proofs.walk.Walk.leave.Goals as goal

pub returns-in_default-clause-ok : goal.returns-in_default-clause-ok
returns-in_default-clause-ok c =
    let i = c.self.inside in
    stays i.program i.state i.items i.rules.items i.applied i.counted c.args.self.now c.self.view_is walks.leave c.pop.new.self.items
    (none_left i.program i.state i.items i.rules.items i.applied i.counted c.args.self.now c.self.view_is (sym i.rules.ok.0 ∙ c.in_default.ensures.cases.0))
    (c.in_default.ensures.items ∙ no_more c.pop.new.self.items)
    c.self.ranges.1.1.1.1.1.0.1 c.self.ranges.1.1.1.1.1.1.0.1

pub invariant_of-self-in-Ok-Some : goal.invariant_of-self-in-Ok-Some
invariant_of-self-in-Ok-Some c =
    (entered_fewer c.self.inside.program c.pop.new.self.items c.in-Some.rule (subst (AreEntered c.self.inside.program) c.in-Some.ensures.items c.self.invariant.0), c.self.invariant.1)

pub returns-in-Err-clause-cause : goal.returns-in-Err-clause-cause
returns-in-Err-clause-cause c =
    let i = c.self.inside in let r = c.in-Some.rule in
    let entered = last_entered i.program c.pop.new.self.items r (subst (AreEntered i.program) c.in-Some.ensures.items c.self.invariant.0) in
    subst (λ (f : AcceptFault). Fails (walks.leave c.args.self.now) f) (sym c.refused.ensures)
    (leave_fails i.program i.state i.items i.rules.items i.applied i.counted c.args.self.now c.self.view_is c.pop.new.self.items r c.in-Some.ensures.items c.in-Err.why (c.in-Err.ensures.cause i.program entered))

pub returns-in-Ok-None-clause-ok : goal.returns-in-Ok-None-clause-ok
returns-in-Ok-None-clause-ok c =
    let i = c.self.inside in let r = c.in-Some.rule in
    let entered = last_entered i.program c.pop.new.self.items r (subst (AreEntered i.program) c.in-Some.ensures.items c.self.invariant.0) in
    let ends = subst (λ (e : Option Ended). EndsAs (inside_of (entry i.program r.state (step_of r.step)) r.side r.state) r.side i.state e) c.in-Ok-None.field-0-is (c.in-Ok-None.ensures.ok i.program entered) in
    stays i.program i.state i.items i.rules.items i.applied i.counted c.args.self.now c.self.view_is walks.leave c.push_reserved-in-Ok-None.new.self.items
    (first_stays i.program i.state i.items i.rules.items i.applied i.counted c.args.self.now c.self.view_is c.pop.new.self.items r c.in-Some.ensures.items ends)
    (c.in-Some.ensures.items ∙ sym c.push_reserved-in-Ok-None.ensures.items)
    c.self.ranges.1.1.1.1.1.0.1 c.self.ranges.1.1.1.1.1.1.0.1

pub returns-else-is_err-clause-ok : goal.returns-else-is_err-clause-ok
returns-else-is_err-clause-ok c =
    let i = c.self.inside in let r = c.in-Some.rule in let e = c.in-Ok-Some.ended in
    let entered = last_entered i.program c.pop.new.self.items r (subst (AreEntered i.program) c.in-Some.ensures.items c.self.invariant.0) in
    let ends = subst (λ (e : Option Ended). EndsAs (inside_of (entry i.program r.state (step_of r.step)) r.side r.state) r.side i.state e) c.in-Ok-Some.field-0-is (c.in-Ok-Some.ensures.ok i.program entered) in
    leave_gives i.program i.state i.items i.rules.items i.applied i.counted c.args.self.now c.self.view_is c.pop.new.self.items r c.in-Some.ensures.items
    (state_after e r.side i.state) c.left.new.end (item_of c.left.result) (items_of c.push_reserved-in-Ok-Some.new.self.items) c.pop.new.self.items c.saturating_add-self-inside.result c.saturating_add-self-inside-in-Ok-Some.result
    ends.0 ends.1 (c.left.ensures.item ∙ (λ j. item_after e (c.rule.view_is j).side (c.replace-body.ensures.value j)) ∙ sym (ends.2 i.items)) (c.left.ensures.state ∙ (λ j. state_after e (c.rule.view_is j).side i.state))
    (ap items_of c.push_reserved-in-Ok-Some.ensures.items ∙ items_more c.reserve.new.self.items c.left.result ∙ ap (λ xs. items_of xs followed_by (item_of c.left.result ⨟ nothing)) c.reserve.ensures.items ∙ (λ j. (c.rule.view_is j).items followed_by (item_of c.left.result ⨟ nothing))) refl
    c.saturating_add-self-inside.ensures c.saturating_add-self-inside-in-Ok-Some.ensures
