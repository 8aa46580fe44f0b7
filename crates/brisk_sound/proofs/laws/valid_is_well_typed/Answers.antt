use Rattle.brisk_sound.proofs.ItemsTyped.{well_typed}
use Rattle.brisk_sound.proofs.laws.valid_is_well_typed.Goals as goal

pub returns : goal.returns
returns c = well_typed
