use Rattle.std.proofs.Common.{◌<◌, ◌^◌, length, arith}
use Rattle.brisk_check.specs.Checking.{begun}
use Rattle.brisk_check.proofs.Seeing.{causes_err, judges_ok}
use Rattle.brisk_check.proofs.checker.check.Goals as goal

pub returns-clause-ok : goal.returns-clause-ok
returns-clause-ok c =
    let fed = c.in_ok-feed.ensures.ok (begun c.args.program.now) c.in_ok-checker.ensures in
    judges_ok c.args.program.now c.args.deriv_text.now c.args.seq_text.now c.feed.new.self c.finish.result fed c.finish.ensures.ok

pub returns-clause-cause : goal.returns-clause-cause
returns-clause-cause c =
    let fed = c.in_ok-feed.ensures.ok (begun c.args.program.now) c.in_ok-checker.ensures in
    let few : length c.args.deriv_text.now < 2 ^ 63 = omega arith in
    causes_err c.args.program.now c.args.deriv_text.now c.args.seq_text.now c.feed.new.self c.finish.result few fed c.finish.ensures.cause
