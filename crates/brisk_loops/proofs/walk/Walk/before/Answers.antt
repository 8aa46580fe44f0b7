use Rattle.std.proofs.Common.{sym, ap}
use Rattle.std.specs.Prelude.{option_map}
use Rattle.brisk_loops.specs.Walk.{Open}
use Rattle.brisk_loops.proofs.Enters.{none_there, some_there}
use Rattle.brisk_loops.proofs.walk.Walk.before.Goals as goal

pub returns-in-None : goal.returns-in-None
returns-in-None c =
    let i = c.self.inside in
    sym (ap (option_map (λ (o : Open). o.state)) (none_there c.args.self.now i.program i.state i.items i.rules.items c.deref.result.now i.applied i.counted c.self.view_is c.deref.ensures.value c.args.depth c.in-None.ensures.lookup.3))

pub returns-in-Some : goal.returns-in-Some
returns-in-Some c =
    let i = c.self.inside in
    sym (ap (option_map (λ (o : Open). o.state)) (some_there c.args.self.now i.program i.state i.items i.rules.items c.deref.result.now i.applied i.counted c.self.view_is c.deref.ensures.value c.args.depth c.in-Some.rule.now c.in-Some.ensures.lookup.3.0 c.in-Some.ensures.lookup.3.1))
