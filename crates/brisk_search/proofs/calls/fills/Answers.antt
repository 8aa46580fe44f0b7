use Rattle.std.proofs.Common.{sym, ap, ◌∙◌, subst}
use Rattle.std.proofs.lemmas.Result.{IfOk-weaker}
use Rattle.brisk_state.specs.Symbolic.{Symbolic}
use Rattle.brisk_rules.specs.Standing.{least_free}
use Rattle.brisk_search.specs.Advance.{filled}
use Rattle.brisk_search.specs.Met.{MeetsAttempt}
use Rattle.brisk_search.specs.Views.{at_walk, left_of}
use Rattle.brisk_search.proofs.FreeBox.{least_is}
use Rattle.brisk_search.proofs.Meeting.{alike_self}
use Rattle.brisk_search.proofs.calls.fills.Goals as goal

pub returns-in-None : goal.returns-in-None
returns-in-None c = λ fs.
    let w = c.args.walk.now in
    let none = ap least_free (ap (λ (S : Symbolic). S.pending) (sym c.state.ensures)) ∙ sym (least_is c.state.result.now.pending c.least_free.result c.least_free.ensures) ∙ c.in-None.is in
    (alike_self c.args.limits.now.budget w c.requires, ap (λ o. filled (at_walk w) w.state c.args.from c.args.to c.args.channel o fs (left_of c.args.limits.now.budget w.applied)) none)

pub returns-in-Some : goal.returns-in-Some
returns-in-Some c =
    let w = c.args.walk.now in
    let some = ap least_free (ap (λ (S : Symbolic). S.pending) (sym c.state.ensures)) ∙ sym (least_is c.state.result.now.pending c.least_free.result c.least_free.ensures) ∙ c.in-Some.is in
    IfOk-weaker c.basically.result _ _ (λ t m fs. subst (λ o. MeetsAttempt c.args.limits.now.budget (filled (at_walk w) w.state c.args.from c.args.to c.args.channel o) t w c.basically.new.walk) (sym some) m fs) c.basically.ensures
