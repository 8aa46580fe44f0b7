use Rattle.brisk_sound.proofs.Computed.{computed}
use Rattle.brisk_sound.proofs.small_programs.examples.Goals as goal

pub returns : goal.returns
returns c = computed
