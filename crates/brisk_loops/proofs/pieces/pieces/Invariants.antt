use Rattle.std.proofs.Common.{◌≡◌, reverse, take}
use Rattle.brisk_syntax.specs.declared.program.Program.{Program}
use Rattle.brisk_loops.specs.Walk.{follows}
use Rattle.brisk_loops.specs.WalkSeen.{AreEntered, opened_by}
use Rattle.brisk_loops.proofs.pieces.pieces.Given as goal

abbrev pub invariant-loop-rule : goal.invariant-loop-rule
invariant-loop-rule l = (P : Program) → AreEntered P l.rules → reverse l.pieces.items ≡ follows (opened_by P (take l.rule-index l.rules)) l.name
