use Rattle.brisk_sound.proofs.Tampered.{derived}
use Rattle.brisk_sound.proofs.small_programs.derivations.Goals as goal

pub returns : goal.returns
returns c = derived
