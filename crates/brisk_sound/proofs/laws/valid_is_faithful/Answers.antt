use Rattle.brisk_sound.proofs.Top.{sound}
use Rattle.brisk_sound.proofs.laws.valid_is_faithful.Goals as goal

pub returns : goal.returns
returns c = sound
