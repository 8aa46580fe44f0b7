use Rattle.std.proofs.Common.{sym, subst, ap, ◌∙◌}
use Rattle.brisk_seq.specs.Seen.{items_of}
use Rattle.brisk_loops.specs.declared.rule.Rule.{Rule}
use Rattle.brisk_loops.specs.declared.rule.Side.TheVariants as side
use Rattle.brisk_derivation.specs.Seen.{step_of}
use Rattle.brisk_loops.specs.Walk as walks
use Rattle.brisk_loops.specs.Walk.{entry}
use Rattle.brisk_loops.specs.WalkSeen.{AreEntered, IsEntered}
use Rattle.brisk_loops.proofs.Crossing.{no_more, stays, none_entered, no_side_more, crossed_is, crosses}
use Rattle.brisk_loops.proofs.Enters.{entered_fewer, entered_more}
use Rattle.brisk_loops.proofs.walk.Walk.other.Goals as goal

pub returns-in_default-clause-ok : goal.returns-in_default-clause-ok
returns-in_default-clause-ok c =
    let i = c.self.inside in
    stays i.program i.state i.items i.rules.items i.applied i.counted c.args.self.now c.self.view_is walks.other c.pop.new.self.items
    (none_entered i.program i.state i.items i.rules.items i.applied i.counted c.args.self.now c.self.view_is (sym i.rules.ok.0 ∙ c.in_default.ensures.cases.0))
    (c.in_default.ensures.items ∙ no_more c.pop.new.self.items)
    c.self.ranges.1.1.1.1.1.0.1 c.self.ranges.1.1.1.1.1.1.0.1

pub invariant_of-self-in-Ok-Some : goal.invariant_of-self-in-Ok-Some
invariant_of-self-in-Ok-Some c =
    let i = c.self.inside in let r = c.in-Some.rule in (
      subst (AreEntered i.program) (sym c.push_reserved-in-Ok-Some.ensures.items)
          (entered_more i.program c.pop.new.self.items c.across.result (entered_fewer i.program c.pop.new.self.items r (subst (AreEntered i.program) c.in-Some.ensures.items c.self.invariant.0))
          (subst (λ (z : Rule). IsEntered (entry i.program z.state (step_of z.step)) z.side) (sym c.across.ensures)
          (crossed_is i.program i.state i.items i.rules.items i.applied i.counted c.args.self.now c.self.view_is c.pop.new.self.items r c.in-Some.ensures.items c.in-Ok-Some.second (sym c.in-Ok-Some.field-0-is ∙ c.in-Ok-Some.ensures i.program) c.replace-state.result c.replace-items.result))),
      c.self.invariant.1,
    )

pub returns-in-Ok-None-clause-ok : goal.returns-in-Ok-None-clause-ok
returns-in-Ok-None-clause-ok c =
    let i = c.self.inside in
    stays i.program i.state i.items i.rules.items i.applied i.counted c.args.self.now c.self.view_is walks.other c.push_reserved-in-Ok-None.new.self.items
    (no_side_more i.program i.state i.items i.rules.items i.applied i.counted c.args.self.now c.self.view_is c.pop.new.self.items c.in-Some.rule c.in-Some.ensures.items (sym c.in-Ok-None.field-0-is ∙ c.in-Ok-None.ensures i.program))
    (c.in-Some.ensures.items ∙ sym c.push_reserved-in-Ok-None.ensures.items)
    c.self.ranges.1.1.1.1.1.0.1 c.self.ranges.1.1.1.1.1.1.0.1

pub returns-in-Ok-Some-clause-ok : goal.returns-in-Ok-Some-clause-ok
returns-in-Ok-Some-clause-ok c =
    let i = c.self.inside in let r = c.in-Some.rule in
    crosses i.program i.state i.items i.rules.items i.applied i.counted c.args.self.now c.self.view_is c.pop.new.self.items r c.in-Some.ensures.items
    c.in-Ok-Some.second c.replace-state.new.dest c.replace-items.new.dest c.across.result c.push_reserved-in-Ok-Some.new.self.items c.saturating_add-self-inside.result
    (sym c.in-Ok-Some.field-0-is ∙ c.in-Ok-Some.ensures i.program) c.replace-state.ensures.after (c.replace-items.ensures.after ∙ ap items_of c.new.ensures.items)
    (c.across.ensures ∙ (λ j. record r { side = side.Second (c.replace-state.ensures.value j) (c.replace-items.ensures.value j) })) c.push_reserved-in-Ok-Some.ensures.items
    c.self.ranges.1.1.1.1.1.0.1 c.saturating_add-self-inside.ensures
