use Rattle.std.proofs.Common.{add-one, arith}
use Rattle.std.proofs.lemmas.Grind.{common_steps}
use Rattle.brisk_drill.proofs.drill.put_asker.Goals as goal

pub loop-round-preserved : goal.loop-round-preserved
loop-round-preserved c = rw (add-one c.loop-round.round) (grind (arith, common_steps))
