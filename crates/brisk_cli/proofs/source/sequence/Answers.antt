use Rattle.std.proofs.Common.{arith}
use Rattle.brisk_types.proofs.Spelled_items.{short_sequence}
use Rattle.brisk_cli.proofs.source.sequence.Goals as goal

pub check_seq-requires : goal.check_seq-requires
check_seq-requires c = short_sequence c.deref.result.now c.in-Ok.program c.in-Ok.ensures.answer (omega (arith, c.requires, c.in_ok-tokens.ensures.few, c.deref.ensures.len))
