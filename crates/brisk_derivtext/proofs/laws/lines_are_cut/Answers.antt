use Rattle.brisk_derivtext.proofs.Differ.{lines_are_cut}
use Rattle.brisk_derivtext.proofs.laws.lines_are_cut.Goals as goal

pub returns : goal.returns
returns c = lines_are_cut
