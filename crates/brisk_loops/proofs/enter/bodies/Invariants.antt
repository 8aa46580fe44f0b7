use Rattle.brisk_loops.proofs.Owners.{Loops}
use Rattle.brisk_loops.proofs.enter.bodies.Given as goal

abbrev pub invariant-loop-place : goal.invariant-loop-place
invariant-loop-place l = Loops l.state l.set l.owners l.place l.bodies.items
