use Rattle.brisk_parse.proofs.Denoted.{programs_pass_none, sequences_pass_none}
use Rattle.brisk_parse.proofs.laws.limits.Goals as goal

pub returns-clause-programs : goal.returns-clause-programs
returns-clause-programs c = programs_pass_none

pub returns-clause-sequences : goal.returns-clause-sequences
returns-clause-sequences c = sequences_pass_none
