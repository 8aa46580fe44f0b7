use Rattle.std.proofs.Common.{◌≡◌, length}
use Rattle.brisk_state.specs.Symbolic.{first_facts}
use Rattle.brisk_state.proofs.initial.add_declared.Given as goal

abbrev pub invariant-loop-decl : goal.invariant-loop-decl
invariant-loop-decl l = first_facts l.at l.ahead l.facts ≡ first_facts l.at l.initial.ahead l.initial.facts

abbrev pub decreases-loop-decl : goal.decreases-loop-decl
decreases-loop-decl l = length l.ahead
