use Rattle.brisk_sound.proofs.Link.{ends_done}
use Rattle.brisk_sound.proofs.laws.ends_are_done.Goals as goal

pub returns : goal.returns
returns c = ends_done
