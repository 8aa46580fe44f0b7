use Rattle.brisk_schedule.proofs.Faultless.{choices_stand}
use Rattle.brisk_schedule.proofs.laws.choices_stand.Goals as goal

pub returns : goal.returns
returns c = choices_stand
