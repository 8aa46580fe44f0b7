use Rattle.brisk_lines.proofs.Cuts.{lacks_more, cut_here, cut_nowhere}
use Rattle.std.proofs.Common.{[], refl}
use Rattle.brisk_derivtext.proofs.words.cut.Goals as goal

pub loop-i-preserved : goal.loop-i-preserved
loop-i-preserved c = lacks_more c.args.end c.loop-i.i c.args.bytes.now c.loop-i-test.true c.loop-i.invariant c.if-byte-end.false

pub returns-then-byte-end : goal.returns-then-byte-end
returns-then-byte-end c =
    cut_here c.args.end c.loop-i.i c.args.bytes.now c.split_at.result.0.now c.split_at.result.1.now c.loop-i-test.true c.loop-i.invariant c.if-byte-end.true c.split_at.ensures.front c.split_at.ensures.back

pub returns : goal.returns
returns c = cut_nowhere c.args.end c.loop-i.i c.args.bytes.now [] c.loop-i-test.false c.loop-i.invariant refl
