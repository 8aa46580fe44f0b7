use Rattle.brisk_syntax.proofs.Codes.{same_length}
use Rattle.brisk_syntax.proofs.equal.+same.Goals as goal

pub same_all-returns-then-xs-ys : goal.same_all-returns-then-xs-ys
same_all-returns-then-xs-ys t c = (λ h. cc, λ e. absurd (c.if-xs-ys.true (same_length c.args.xs.now c.args.ys.now e)))
