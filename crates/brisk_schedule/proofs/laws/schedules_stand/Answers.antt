use Rattle.brisk_schedule.proofs.Faultless.{schedules_stand}
use Rattle.brisk_schedule.proofs.laws.schedules_stand.Goals as goal

pub returns : goal.returns
returns c = schedules_stand
