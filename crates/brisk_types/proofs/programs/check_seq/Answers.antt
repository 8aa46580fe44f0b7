use Rattle.brisk_seq.specs.Tokens.{seq_tokens}
use Rattle.brisk_types.specs.Sequences.{seq_failures}
use Rattle.brisk_types.proofs.Bounding_items.{sequence_below}
use Rattle.brisk_types.proofs.Firsts.{checked, told_below}
use Rattle.brisk_types.proofs.programs.check_seq.Goals as goal

pub returns-in-Ok : goal.returns-in-Ok
returns-in-Ok c =
    let P = c.args.program.now in
    let exact = checked (seq_failures P) c.in-Ok.first.failure c.answer.result c.in-Ok.ensures c.answer.ensures in
    record { exact = exact; below = told_below (seq_tokens P) (seq_failures P) c.answer.result (sequence_below P) exact }
