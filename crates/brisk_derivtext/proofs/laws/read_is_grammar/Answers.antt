use Rattle.brisk_derivtext.proofs.Grammar.{read_is_grammar}
use Rattle.brisk_derivtext.proofs.laws.read_is_grammar.Goals as goal

pub returns : goal.returns
returns c = read_is_grammar
