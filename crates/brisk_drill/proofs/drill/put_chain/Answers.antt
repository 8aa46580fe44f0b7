use Rattle.std.proofs.Common.{add-one, arith}
use Rattle.std.proofs.lemmas.Grind.{common_steps}
use Rattle.brisk_drill.proofs.drill.put_chain.Goals as goal

pub loop-number-preserved : goal.loop-number-preserved
loop-number-preserved c = rw (add-one c.loop-number.number) (grind (arith, common_steps))
