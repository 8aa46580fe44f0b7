use Rattle.std.proofs.Common.{ap, sym, ◌∙◌}
use Rattle.std.specs.FinMap as map
use Rattle.brisk_values.proofs.Entries.{process_total}
use Rattle.brisk_async.proofs.Maps.{get_listed}
use Rattle.brisk_trace.specs.Standings.{takes_again}
use Rattle.brisk_trace.specs.Watches.{or_start}
use Rattle.brisk_trace.proofs.Kept.{none_at_start}
use Rattle.brisk_trace.proofs.watch.Watch.takes_again.Goals as goal

pub returns-in-None : goal.returns-in-None
returns-in-None c =
    sym (none_at_start c.args.event.now.sender)
    ∙ ap (λ o. takes_again c.args.event.now.sender (or_start o))
    (c.in-None.ensures.value ∙ sym (get_listed process_total c.self.inside.standings.entries c.args.event.now.process) ∙ ap (λ m. map.get m c.args.event.now.process) c.self.view_is)

pub returns-in-Some : goal.returns-in-Some
returns-in-Some c =
    c.takes_again.ensures
    ∙ ap (λ o. takes_again c.args.event.now.sender (or_start o))
    (c.in-Some.ensures.value ∙ sym (get_listed process_total c.self.inside.standings.entries c.args.event.now.process) ∙ ap (λ m. map.get m c.args.event.now.process) c.self.view_is)
