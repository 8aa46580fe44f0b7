use Rattle.std.proofs.Common.{[], List, ap, subst, ◌∙◌}
use Rattle.brisk_values.specs.Names.{Name}
use Rattle.brisk_state.specs.declared.thread.Mode.TheVariants.{At}
use Rattle.brisk_state.specs.Symbolic.{Symbolic, with_mode}
use Rattle.brisk_rules.specs.Rules.{loops_of}
use Rattle.brisk_loops.specs.EnterSeen.{AreBodies, at_codes}
use Rattle.brisk_loops.proofs.Owners.{for_starts}
use Rattle.brisk_loops.proofs.enter.in_for.Goals as goal

pub returns-clause-ok : goal.returns-clause-ok
returns-clause-ok c =
    let S = c.args.state.now in let s = c.args.set in let bodies = c.in-Ok.bodies.items in
    for_starts S s c.args.owners.now c.args.drops.now bodies c.put_bodies.new.state c.in_default.ensures
    (subst (λ (ts : List Name). AreBodies (loops_of S s [] ts) bodies) (c.deref.ensures.value ∙ c.owners.view_is) c.in-Ok.ensures.ok)
    (c.put_bodies.ensures
    ∙ (λ i. let m : Symbolic = (c.set_mode.ensures ∙ ap (λ (z : Symbolic). record z { threads = with_mode s At z.threads }) c.in_ok-next.ensures) i in
    record { threads = at_codes ((c.deref-2.ensures.value ∙ c.owners.view_is) i) bodies m.threads; pending = m.pending; facts = m.facts }))
