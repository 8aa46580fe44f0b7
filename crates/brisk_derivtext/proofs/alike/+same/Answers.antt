use Rattle.brisk_derivtext.proofs.Equals.{same_count}
use Rattle.brisk_derivtext.proofs.alike.+same.Goals as goal

pub same_all-returns-then-xs-ys : goal.same_all-returns-then-xs-ys
same_all-returns-then-xs-ys t c = (λ h. cc, λ e. absurd (c.if-xs-ys.true (same_count c.args.xs.now c.args.ys.now e)))
