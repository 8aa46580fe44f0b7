use Rattle.std.proofs.Common.{◌<◌, arith}
use Rattle.brisk_quiet.specs.Left.{number_in, taken_at}
use Rattle.brisk_quiet.proofs.Counted.{one_taken}
use Rattle.brisk_quiet.proofs.walk.receive.Goals as goal

pub returns-in_ok-add : goal.returns-in_ok-add
returns-in_ok-add c =
    let some : taken_at c.args.taken.now c.args.channel.now < number_in c.args.asked.now c.args.channel.now = omega (arith, c.if-at-number.true, c.at.ensures, c.number.ensures) in
    one_taken (number_in c.args.asked.now) (taken_at c.args.taken.now) (taken_at c.add.new.self) c.args.channel.now some c.in_ok-add.ensures
