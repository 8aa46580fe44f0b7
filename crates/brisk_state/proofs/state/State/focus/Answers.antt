use Rattle.brisk_state.specs.declared.thread.Mode.TheVariants.{At}
use Rattle.brisk_state.proofs.Places.{modes_differ}
use Rattle.brisk_state.proofs.state.State.focus.Goals as goal

pub invariant_of-self : goal.invariant_of-self
invariant_of-self c = modes_differ c.args.set At c.self.inside.threads.items c.put_mode.new.threads.items c.put_mode.ensures c.self.invariant
