use Rattle.std.proofs.Common.{◌≡◌, ap, subst}
use Rattle.std.specs.Prelude.{IfOk}
use Rattle.brisk_state.specs.Symbolic.{Symbolic}
use Rattle.brisk_loops.specs.CloseSeen.{drops_in}
use Rattle.brisk_loops.specs.Walk.{Walked}
use Rattle.brisk_rules.specs.Standing.{fault_aside}
use Rattle.brisk_loops.proofs.Enters.{entry_there, no_premise}
use Rattle.brisk_loops.proofs.Starting.{starts_like}
use Rattle.brisk_loops.proofs.walk.Walk.fault_aside.Goals as goal

pub returns-in-None : goal.returns-in-None
returns-in-None c r p k =
    let i = c.self.inside in
    absurd (no_premise c.args.self.now i.program i.state i.items i.rules.items c.deref.result.now i.applied i.counted c.self.view_is c.deref.ensures.value c.args.around r c.in-None.ensures.lookup.3 p)

pub returns-in-Some : goal.returns-in-Some
returns-in-Some c r p k =
    let i = c.self.inside in
    let e = entry_there c.args.self.now i.program i.state i.items i.rules.items c.deref.result.now i.applied i.counted c.self.view_is c.deref.ensures.value c.args.around c.in-Some.rule.now c.in-Some.ensures.lookup.3.0 c.in-Some.ensures.lookup.3.1 r c.self.invariant.0 p in
    subst (λ (w : Walked). IfOk c.fault_aside.result (λ o. o ≡ fault_aside r w.state)) c.self.view_is
    (c.fault_aside.ensures r (drops_in c.in-Some.rule.now.step) (starts_like i.program c.in-Some.rule.now.state c.in-Some.rule.now.step r e) k)
