use Rattle.std.proofs.Common.{ap, ◌∙◌}
use Rattle.std.specs.FinMap as map
use Rattle.brisk_values.proofs.Entries.{exact_processes, process_total}
use Rattle.brisk_async.proofs.Maps.{one_insert}
use Rattle.brisk_async.proofs.codes.Codes.add.Goals as goal

pub returns : goal.returns
returns c =
    one_insert process_total exact_processes c.self.inside.codes.entries c.insert.new.self.entries c.args.process c.args.code c.in_ok-insert.ensures.updates.0
    ∙ ap (λ m. map.insert m c.args.process c.args.code) c.self.view_is
