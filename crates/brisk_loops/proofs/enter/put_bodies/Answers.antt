use Rattle.std.proofs.Common.{◌≡◌, [], rules, sym, ap, ◌∙◌}
use Rattle.brisk_loops.specs.EnterSeen.{at_codes}
use Rattle.brisk_loops.proofs.Crossing.{empty}
use Rattle.brisk_loops.proofs.Owners.{none_at}
use Rattle.brisk_loops.proofs.enter.put_bodies.Goals as goal

pub returns : goal.returns
returns c =
    let codes = c.loop-body.body-iterator.rest in let S = c.loop-body.state in let left = c.loop-body.left.now in
    let none : codes.items ≡ [] = empty codes.items (sym codes.ok.0 ∙ c.in-None.ensures.steps.0) in
    let given : c.into_iter-body-iterator.result.rest.items ≡ c.args.bodies.items = search rules in
    (λ i. record { threads = sym (ap (λ cs. at_codes left cs S.threads) none ∙ none_at left S.threads) i; pending = S.pending; facts = S.facts }) ∙ c.loop-body.invariant
    ∙ (λ i. record { threads = at_codes c.args.owners.now (given i) c.args.state.now.threads; pending = c.args.state.now.pending; facts = c.args.state.now.facts })
