use Rattle.brisk_lex.proofs.Cutting.{longest_is_cut, spellings_are_texts}
use Rattle.brisk_lex.proofs.laws.longest.Goals as goal

pub returns-clause-cut : goal.returns-clause-cut
returns-clause-cut c = longest_is_cut

pub returns-clause-spelled : goal.returns-clause-spelled
returns-clause-spelled c = spellings_are_texts
