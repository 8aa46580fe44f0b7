use Rattle.brisk_written.proofs.Determined.{spellings_determine}
use Rattle.brisk_written.proofs.laws.spellings_determine.Goals as goal

pub returns : goal.returns
returns c = spellings_determine
