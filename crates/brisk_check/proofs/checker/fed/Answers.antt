use Rattle.std.proofs.Common.{ap, sym, ◌∙◌}
use Rattle.brisk_check.specs.Working.{checked_of}
use Rattle.brisk_check.proofs.Seeing.{stays}
use Rattle.brisk_check.proofs.checker.fed.Goals as goal

pub returns-in-Err-clause-fed : goal.returns-in-Err-clause-fed
returns-in-Err-clause-fed c = λ h d e. sym (stays d c.in-Err.fault c.args.piece.now (sym e ∙ ap checked_of c.in-Err.is))
