use Rattle.std.proofs.Common.{◌≡◌, length, min, Some, ap, sym, ◌∙◌, arith}
use Rattle.brisk_check.proofs.Differs.{from_start, other_length}
use Rattle.brisk_check.specs.Checking.{differs_at}
use Rattle.brisk_check.proofs.checker.differs_at.Goals as goal

pub loop-i-init : goal.loop-i-init
loop-i-init c = from_start (differs_at c.args.a.now c.args.b.now)

pub returns-else-a-b : goal.returns-else-a-b
returns-else-a-b c =
    let e : min (length c.args.a.now) (length c.args.b.now) ≡ c.loop-i.i = omega arith in
    let all : c.loop-i.i ≡ c.min-shorter.result = omega arith in
    ap Some (sym all) ∙ other_length c.args.a.now c.args.b.now c.loop-i.i e c.if-a-b.false c.loop-i.invariant
