use Rattle.brisk_lines.proofs.Ended.{lines_are_cut}
use Rattle.brisk_lines.proofs.laws.lines_are_cut.Goals as goal

pub returns : goal.returns
returns c = lines_are_cut
