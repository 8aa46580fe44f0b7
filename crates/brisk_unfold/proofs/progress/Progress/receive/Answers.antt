use Rattle.brisk_seq.proofs.Evaluating.{on_ok}
use Rattle.brisk_unfold.proofs.Marking.{received}
use Rattle.brisk_unfold.proofs.progress.Progress.receive.Goals as goal

pub returns : goal.returns
returns c =
    on_ok c.add.result _ _
    (received c.args.self.now c.args.process c.args.place c.take-sender.result c.take-sender.new.self c.add.new.events c.take-sender.ensures.sender c.take-sender.ensures.none) c.add.ensures
