use Rattle.std.proofs.Common.{subst, sym}
use Rattle.brisk_syntax.specs.WellTyped.{IsProgramWellTyped}
use Rattle.brisk_state.proofs.Sampled.{sample_typed}
use Rattle.brisk_basic.proofs.tests.begun.Goals as goal

pub initial-requires : goal.initial-requires
initial-requires c = subst IsProgramWellTyped (sym c.in_ok-program.ensures) sample_typed
