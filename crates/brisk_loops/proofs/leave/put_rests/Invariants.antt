use Rattle.std.proofs.Common.{◌≡◌}
use Rattle.brisk_state.specs.Symbolic.{Symbolic}
use Rattle.brisk_rules.specs.Rules.{at_rests}
use Rattle.brisk_loops.proofs.leave.put_rests.Given as goal

abbrev pub invariant-loop-owner : goal.invariant-loop-owner
invariant-loop-owner l = ◌≡◌ {A = Symbolic} record { threads = at_rests l.owner-iterator.rest.items l.state.threads; pending = l.state.pending; facts = l.state.facts } record { threads = at_rests l.initial.owner-iterator.rest.items l.initial.state.threads; pending = l.initial.state.pending; facts = l.initial.state.facts }
