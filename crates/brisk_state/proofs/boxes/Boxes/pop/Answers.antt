use Rattle.std.proofs.Common.{sym}
use Rattle.brisk_state.proofs.Kept.{kept_popped}
use Rattle.brisk_state.proofs.boxes.Boxes.pop.Goals as goal

pub invariant_of-self : goal.invariant_of-self
invariant_of-self c =
    kept_popped c.args.key.now c.in-Some.number c.self.inside.queues c.empty.new.queues c.self.inside.used c.remove.new.self c.self.invariant (sym c.in-Some.ensures)
    c.empty.ensures.ordered c.empty.ensures.emptied c.remove.ensures.updates
