use Rattle.std.proofs.Common.{arith}
use Rattle.brisk_types.proofs.Spelled.{short}
use Rattle.brisk_cli.proofs.source.source.Goals as goal

pub check-requires : goal.check-requires
check-requires c = short c.deref.result.now c.in-Ok.program c.in-Ok.ensures.answer (omega (arith, c.requires, c.in_ok-tokens.ensures.few, c.deref.ensures.len))
