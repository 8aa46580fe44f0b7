use Rattle.std.proofs.Common.{◌≡◌, drop}
use Rattle.brisk_seq.specs.Running.{chosen_or, focus_on}
use Rattle.brisk_seq.proofs.evaluator.process.Given as goal

abbrev pub invariant-loop-p : goal.invariant-loop-p
invariant-loop-p l = chosen_or l.found (drop l.p-index l.focus) l.name ≡ focus_on l.focus l.name
