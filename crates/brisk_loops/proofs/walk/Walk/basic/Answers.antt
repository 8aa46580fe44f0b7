use Rattle.std.proofs.Common.{List, ap, sym, subst, ◌∙◌}
use Rattle.brisk_seq.specs.Items.{◌followed_by◌}
use Rattle.brisk_seq.specs.Seen.{item_of, items_of}
use Rattle.std.specs.Prelude.{option_map}
use Rattle.brisk_rules.specs.Derives.{items_in}
use Rattle.brisk_loops.specs.declared.fault.AcceptFault.{AcceptFault}
use Rattle.brisk_loops.specs.declared.rule.Rule.{Rule}
use Rattle.brisk_rules.specs.Following.{loose_fault}
use Rattle.brisk_loops.specs.Walk.{basic as applied_by, follows}
use Rattle.brisk_loops.specs.WalkSeen.{AreEntered, Fails, opened_by}
use Rattle.brisk_loops.specs.contracts.walk.Walk.{the_view}
use Rattle.brisk_loops.proofs.Runs.{basic_ran, loosely_fails}
use Rattle.brisk_loops.proofs.walk.Walk.basic.Goals as goal

pub returns-in-Ok-clause-ok : goal.returns-in-Ok-clause-ok
returns-in-Ok-clause-ok c =
    let P = c.self-inside.inside.0.1.0 in let S = c.self-inside.inside.0.1.1.0 in
    let entered = subst (λ w. AreEntered w.program w.rules.items) (sym c.self-inside.view_is) c.self.invariant.0 in
    basic_ran _ c.args.self.now c.args.step.now c.rule_of-rule.result c.in-Ok.statement c.apply.new.state _ _ _ (ap the_view c.self-inside.view_is ∙ c.self.view_is) c.rule_of-rule.ensures
    (sym c.in-None.is ∙ c.in_ok-fault.ensures (subst (AreEntered P) (sym c.deref.ensures.value) entered) ∙ ap (λ (rs : List Rule). loose_fault P (follows (opened_by P rs)) S c.rule_of-rule.result) c.deref.ensures.value) c.in-Ok.ensures.ok
    (c.add.ensures ∙ ap (λ xs. items_of xs followed_by items_in (option_map item_of c.in-Ok.statement)) c.reserve.ensures.items) c.saturating_add-self-inside-inside.ensures c.saturating_add-self-inside-inside-in-Ok.ensures

pub returns-in-Some-clause-cause : goal.returns-in-Some-clause-cause
returns-in-Some-clause-cause c =
    let P = c.self-inside.inside.0.1.0 in let S = c.self-inside.inside.0.1.1.0 in
    let entered = subst (λ w. AreEntered w.program w.rules.items) (sym c.self-inside.view_is) c.self.invariant.0 in
    subst (λ (f : AcceptFault). Fails (applied_by c.args.self.now c.args.step.now) f) (sym c.told_first.ensures)
    (loosely_fails _ c.args.self.now c.args.step.now c.rule_of-rule.result c.refusal-own.result c.in-Some.fault (ap the_view c.self-inside.view_is ∙ c.self.view_is) c.rule_of-rule.ensures c.refusal-own.ensures
    (sym c.in-Some.is ∙ c.in_ok-fault.ensures (subst (AreEntered P) (sym c.deref.ensures.value) entered) ∙ ap (λ (rs : List Rule). loose_fault P (follows (opened_by P rs)) S c.rule_of-rule.result) c.deref.ensures.value))
