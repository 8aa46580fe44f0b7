use Rattle.brisk_lines.proofs.Differ.{lines_differ}
use Rattle.brisk_lines.proofs.laws.lines.Goals as goal

pub returns : goal.returns
returns c = lines_differ
