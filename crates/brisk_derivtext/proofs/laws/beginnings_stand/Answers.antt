use Rattle.brisk_derivtext.proofs.Begun.{beginnings_stand}
use Rattle.brisk_derivtext.proofs.laws.beginnings_stand.Goals as goal

pub returns : goal.returns
returns c = beginnings_stand
