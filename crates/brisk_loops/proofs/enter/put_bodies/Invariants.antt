use Rattle.std.proofs.Common.{◌≡◌}
use Rattle.brisk_state.specs.Symbolic.{Symbolic}
use Rattle.brisk_loops.specs.EnterSeen.{at_codes}
use Rattle.brisk_loops.proofs.enter.put_bodies.Given as goal

abbrev pub invariant-loop-body : goal.invariant-loop-body
invariant-loop-body l = ◌≡◌ {A = Symbolic} record { threads = at_codes l.left l.body-iterator.rest.items l.state.threads; pending = l.state.pending; facts = l.state.facts } record { threads = at_codes l.initial.left l.initial.body-iterator.rest.items l.initial.state.threads; pending = l.initial.state.pending; facts = l.initial.state.facts }
