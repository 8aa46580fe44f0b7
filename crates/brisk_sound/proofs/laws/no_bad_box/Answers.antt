use Rattle.brisk_sound.proofs.Schedules.{no_bad_box}
use Rattle.brisk_sound.proofs.laws.no_bad_box.Goals as goal

pub returns : goal.returns
returns c = no_bad_box
