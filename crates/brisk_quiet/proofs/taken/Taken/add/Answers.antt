use Rattle.std.proofs.Common.{◌+◌, ap, ◌∙◌}
use Rattle.brisk_values.specs.Functions.{changed}
use Rattle.brisk_values.specs.Names.{same_name}
use Rattle.brisk_quiet.specs.Left.{taken_at}
use Rattle.brisk_quiet.proofs.Counted.{inserted}
use Rattle.brisk_quiet.proofs.taken.Taken.add.Goals as goal

pub returns : goal.returns
returns c =
    inserted c.args.self.now.counts c.insert.new.self c.args.channel.now (c.at-count.result + 1) c.in_ok-insert.ensures.updates.0
    ∙ ap (λ n. changed same_name (taken_at c.args.self.now) c.args.channel.now (n + 1)) c.at-count.ensures
