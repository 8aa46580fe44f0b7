use Rattle.std.proofs.Common.{ap, sym, ◌∙◌}
use Rattle.std.specs.FinMap as map
use Rattle.brisk_values.proofs.Entries.{process_total}
use Rattle.brisk_async.proofs.Maps.{get_listed}
use Rattle.brisk_async.proofs.codes.Codes.get.Goals as goal

pub returns : goal.returns
returns c = c.get.ensures.value ∙ sym (get_listed process_total c.self.inside.codes.entries c.args.process.now) ∙ ap (λ m. map.get m c.args.process.now) c.self.view_is
