use Rattle.brisk_derivtext.proofs.Differ.{lines_differ}
use Rattle.brisk_derivtext.proofs.laws.lines_differ.Goals as goal

pub returns : goal.returns
returns c = lines_differ
