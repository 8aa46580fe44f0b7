use Rattle.std.proofs.Common.{subst, sym}
use Rattle.brisk_syntax.specs.WellTyped.{IsProgramWellTyped}
use Rattle.brisk_report.proofs.Sampled.{sample_typed}
use Rattle.brisk_report.proofs.tests.a_report_is_written.Goals as goal

pub print_report-requires : goal.print_report-requires
print_report-requires g c = subst IsProgramWellTyped (sym c.in_ok-program.ensures) sample_typed
