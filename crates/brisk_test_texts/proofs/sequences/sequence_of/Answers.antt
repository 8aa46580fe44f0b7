use Rattle.std.proofs.Common.{arith}
use Rattle.brisk_types.proofs.Sequencing.{seq_typed}
use Rattle.brisk_types.proofs.Spelled_items.{short_sequence}
use Rattle.brisk_test_texts.proofs.sequences.sequence_of.Goals as goal

pub check_seq-requires : goal.check_seq-requires
check_seq-requires c = short_sequence c.deref.result.now c.in_ok-program.program c.in_ok-program.ensures.answer (omega (arith, c.if-text-gt-MOST_BYTES.false, c.in_ok-tokens.ensures.few, c.deref.ensures.len))

pub returns-in-Ok : goal.returns-in-Ok
returns-in-Ok c = seq_typed c.in_ok-program.program c.in-Ok.ensures.exact
