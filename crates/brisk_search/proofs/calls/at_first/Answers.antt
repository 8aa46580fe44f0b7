use Rattle.std.proofs.Common.{sym, ap, ◌∙◌, subst}
use Rattle.std.specs.Prelude.{IfOk}
use Rattle.brisk_search.specs.declared.standing.Head.TheVariants.{While}
use Rattle.brisk_search.specs.Met.{MeetsAttempt}
use Rattle.brisk_search.specs.Turns.{Attempt}
use Rattle.brisk_search.specs.Views.{at_walk, first_rule, left_of}
use Rattle.brisk_search.proofs.Calling.{none_first}
use Rattle.brisk_search.proofs.Meeting.{alike_self}
use Rattle.brisk_search.proofs.calls.at_first.Goals as goal

pub returns-in-Assign : goal.returns-in-Assign
returns-in-Assign c =
    let w = c.args.walk.now in
    subst (λ h. IfOk c.basically.result (λ t. MeetsAttempt c.args.limits.now.budget (first_rule (at_walk w) w.state c.args.name h) t w c.basically.new.walk)) (sym c.in-Assign.is) c.basically.ensures

pub returns-in-Send : goal.returns-in-Send
returns-in-Send c =
    let w = c.args.walk.now in
    subst (λ h. IfOk c.sends.result (λ t. MeetsAttempt c.args.limits.now.budget (first_rule (at_walk w) w.state c.args.name h) t w c.sends.new.walk)) (sym c.in-Send.is) c.sends.ensures

pub returns-in-Receive : goal.returns-in-Receive
returns-in-Receive c =
    let w = c.args.walk.now in
    subst (λ h. IfOk c.basically-in-Receive.result (λ t. MeetsAttempt c.args.limits.now.budget (first_rule (at_walk w) w.state c.args.name h) t w c.basically-in-Receive.new.walk)) (sym c.in-Receive.is) c.basically-in-Receive.ensures

pub returns-in-If : goal.returns-in-If
returns-in-If c =
    let w = c.args.walk.now in
    subst (λ h. IfOk c.basically-in-If.result (λ t. MeetsAttempt c.args.limits.now.budget (first_rule (at_walk w) w.state c.args.name h) t w c.basically-in-If.new.walk)) (sym c.in-If.is) c.basically-in-If.ensures

pub returns-then-is_false : goal.returns-then-is_false
returns-then-is_false c =
    let w = c.args.walk.now in
    subst (λ h. IfOk c.basically-then-is_false.result (λ t. MeetsAttempt c.args.limits.now.budget (first_rule (at_walk w) w.state c.args.name h) t w c.basically-then-is_false.new.walk)) (sym (c.in-While.is ∙ ap (λ b. While b) c.if-is_false.true)) c.basically-then-is_false.ensures

pub returns-in_default : goal.returns-in_default
returns-in_default c = λ fs.
    let w = c.args.walk.now in
    (alike_self c.args.limits.now.budget w c.requires, ap (λ (f : Attempt). f fs (left_of c.args.limits.now.budget w.applied)) (none_first (at_walk w) w.state c.args.name c.args.head.now c.in_default.not-Assign c.in_default.not-Send c.in_default.not-Receive c.in_default.not-If c.in_default.not-While))
