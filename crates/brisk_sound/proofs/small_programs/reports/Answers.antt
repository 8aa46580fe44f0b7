use Rattle.brisk_sound.proofs.Reported.{reported}
use Rattle.brisk_sound.proofs.small_programs.reports.Goals as goal

pub returns : goal.returns
returns c = reported
