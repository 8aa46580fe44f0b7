use Rattle.brisk_derivtext.proofs.Shares.{next_part}
use Rattle.brisk_derivtext.proofs.sharing.put_parts.Goals as goal

pub loop-i-preserved : goal.loop-i-preserved
loop-i-preserved c =
    next_part c.args.parts.now c.loop-i.i c.index-parts-i.result c.loop-i.out.items c.put_part.new.out.items _ c.loop-i-test.true c.index-parts-i.is c.loop-i.invariant c.in_ok-put_part.ensures
