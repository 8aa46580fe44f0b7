use Rattle.brisk_parse.proofs.Denoted.{sequence_stopped}
use Rattle.brisk_parse.proofs.FoundSequences.{sequential_found}
use Rattle.brisk_parse.proofs.sequences.sequential.Goals as goal

pub returns-in-Ok-clause-answer : goal.returns-in-Ok-clause-answer
returns-in-Ok-clause-answer c = sequential_found c.args.tokens.now c.in-Ok.program c.in-Ok.ensures

pub returns-in-Err-clause-answer : goal.returns-in-Err-clause-answer
returns-in-Err-clause-answer c = rw c.fault.ensures (sequence_stopped c.args.tokens.now c.in-Err.stop c.in-Err.ensures)
