use Rattle.brisk_sound.proofs.Schedules.{reaches}
use Rattle.brisk_sound.proofs.laws.unfolding_reaches_the_store.Goals as goal

pub returns : goal.returns
returns c = reaches
