use Rattle.brisk_derivtext.proofs.Lined.{lines_are_the_text}
use Rattle.brisk_derivtext.proofs.laws.lines_are_the_text.Goals as goal

pub returns : goal.returns
returns c = lines_are_the_text
