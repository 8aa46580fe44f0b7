use Rattle.brisk_schedule.proofs.Told.{choices_differ}
use Rattle.brisk_schedule.proofs.laws.choices_differ.Goals as goal

pub returns : goal.returns
returns c = choices_differ
