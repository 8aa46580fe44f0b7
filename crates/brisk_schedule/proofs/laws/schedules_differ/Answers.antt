use Rattle.brisk_schedule.proofs.Told.{schedules_differ}
use Rattle.brisk_schedule.proofs.laws.schedules_differ.Goals as goal

pub returns : goal.returns
returns c = schedules_differ
