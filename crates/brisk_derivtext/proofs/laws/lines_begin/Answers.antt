use Rattle.brisk_derivtext.proofs.Begun.{lines_begin}
use Rattle.brisk_derivtext.proofs.laws.lines_begin.Goals as goal

pub returns : goal.returns
returns c = lines_begin
