use Rattle.brisk_derivtext.proofs.Parsed.{lines_are_found}
use Rattle.brisk_derivtext.proofs.laws.lines_are_found.Goals as goal

pub returns : goal.returns
returns c = lines_are_found
