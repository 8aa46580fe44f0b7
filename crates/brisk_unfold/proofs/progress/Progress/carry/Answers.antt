use Rattle.brisk_seq.proofs.Evaluating.{on_ok}
use Rattle.brisk_unfold.proofs.Marking.{carried}
use Rattle.brisk_unfold.proofs.progress.Progress.carry.Goals as goal

pub returns : goal.returns
returns c = on_ok c.put.result _ _ (carried c.args.self.now c.args.process c.args.sender c.put.new.self) c.put.ensures
