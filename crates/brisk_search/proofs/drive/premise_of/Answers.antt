use Rattle.std.proofs.Common.{Option, refl, subst}
use Rattle.std.specs.Option.{IfSome}
use Rattle.brisk_loops.specs.declared.leave.Closing.{Closing}
use Rattle.brisk_loops.specs.LeaveSeen.{Closes}
use Rattle.brisk_search.proofs.drive.premise_of.Goals as goal

pub returns-in-Some : goal.returns-in-Some
returns-in-Some c = λ r there. (refl, refl, subst (λ (o : Option Closing). IfSome o (λ k. Closes k r)) c.in-Some.is (c.in_ok-closing.ensures r there))
