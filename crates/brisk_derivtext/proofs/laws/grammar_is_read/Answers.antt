use Rattle.brisk_derivtext.proofs.Placed.{grammar_is_read}
use Rattle.brisk_derivtext.proofs.laws.grammar_is_read.Goals as goal

pub returns : goal.returns
returns c = grammar_is_read
