use Rattle.brisk_loops.proofs.Enters.{entry_there}
use Rattle.brisk_loops.proofs.walk.Walk.closing.Goals as goal

pub returns-in-Some : goal.returns-in-Some
returns-in-Some c r p =
    let i = c.self.inside in
    c.closing_of.ensures i.program r (entry_there c.args.self.now i.program i.state i.items i.rules.items c.deref.result.now i.applied i.counted c.self.view_is c.deref.ensures.value c.args.around c.in-Some.rule.now c.in-Some.ensures.lookup.3.0 c.in-Some.ensures.lookup.3.1 r c.self.invariant.0 p)
