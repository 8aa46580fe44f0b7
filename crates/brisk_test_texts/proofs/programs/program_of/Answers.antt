use Rattle.std.proofs.Common.{arith}
use Rattle.brisk_types.proofs.Agreeing.{is_typed}
use Rattle.brisk_types.proofs.Spelled.{short}
use Rattle.brisk_test_texts.proofs.Read.{program_unbegun, tagged}
use Rattle.brisk_test_texts.proofs.programs.program_of.Goals as goal

pub check-requires : goal.check-requires
check-requires c = short c.deref.result.now c.in_ok-program.program c.in_ok-program.ensures.answer (omega (arith, c.if-source-gt-MOST_BYTES.false, c.in_ok-tokens.ensures.few, c.deref.ensures.len))

pub returns-in-Ok-clause-typed : goal.returns-in-Ok-clause-typed
returns-in-Ok-clause-typed c = is_typed c.in_ok-program.program c.in-Ok.ensures.exact

pub returns-in-Ok-clause-unbegun : goal.returns-in-Ok-clause-unbegun
returns-in-Ok-clause-unbegun c = program_unbegun c.in_ok-program.program c.in_ok-program.ensures.answer.levelled

pub returns-in-Ok-clause-tagged : goal.returns-in-Ok-clause-tagged
returns-in-Ok-clause-tagged c = tagged c.in_ok-program.program.enums c.in_ok-program.ensures.answer.levelled.enums
