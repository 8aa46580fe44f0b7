use Rattle.std.proofs.Common.{ap, ◌∙◌}
use Rattle.std.specs.FinMap.{insert}
use Rattle.brisk_values.proofs.Entries.{exact_processes, process_total}
use Rattle.brisk_seq.proofs.Filling.{one_insert}
use Rattle.brisk_unfold.specs.Carried.{Carried}
use Rattle.brisk_unfold.proofs.senders.Senders.put.Goals as goal

pub returns : goal.returns
returns c =
    one_insert process_total exact_processes c.self.inside.next.entries c.insert.new.self.entries c.args.process c.args.sender c.in_ok-insert.ensures.updates.0
    ∙ ap (λ (m : Carried). insert m c.args.process c.args.sender) c.self.view_is
