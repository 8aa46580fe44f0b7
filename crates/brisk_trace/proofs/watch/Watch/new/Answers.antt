use Rattle.std.proofs.Common.{ap, ◌∙◌}
use Rattle.std.specs.BTreeMap.{is_at}
use Rattle.std.specs.Map.{lookup}
use Rattle.brisk_values.specs.Places.{process_cmp}
use Rattle.brisk_values.proofs.Entries.{process_total}
use Rattle.brisk_async.proofs.Maps.{get_listed}
use Rattle.brisk_trace.specs.Watches.{or_start}
use Rattle.brisk_trace.proofs.watch.Watch.new.Goals as goal

pub returns : goal.returns
returns c = λ i p. ap or_start (get_listed process_total c.new.result.entries p ∙ ap (lookup (is_at (process_cmp p))) c.new.ensures.empty) i
