use Rattle.std.proofs.Common.{ap, sym, ◌∙◌}
use Rattle.std.specs.FinMap.{get, remove}
use Rattle.brisk_values.proofs.Entries.{exact_processes, process_total}
use Rattle.brisk_seq.proofs.Filling.{get_listed, one_remove}
use Rattle.brisk_unfold.specs.Carried.{Carried}
use Rattle.brisk_unfold.proofs.senders.Senders.take.Goals as goal

pub returns-clause-sender : goal.returns-clause-sender
returns-clause-sender c = c.remove.ensures.value ∙ sym (get_listed process_total c.self.inside.next.entries c.args.process.now) ∙ ap (λ (m : Carried). get m c.args.process.now) c.self.view_is

pub returns-clause-none : goal.returns-clause-none
returns-clause-none c =
    one_remove process_total exact_processes c.self.inside.next.entries c.remove.new.self.entries c.args.process.now c.remove.ensures.updates.0
    ∙ ap (λ (m : Carried). remove m c.args.process.now) c.self.view_is
