-- The checker with the reader of lines that is found by computation.
use Rattle.std.proofs.Common.{◌≡◌, refl}
use Rattle.std.specs.Prelude.{Result, Ok, Err}
use Rattle.brisk_derivtext.specs.Parsing.{line_in}
use Rattle.brisk_derivtext.specs.Reading.{TextFault}
use Rattle.brisk_derivtext.proofs.Parsed.{lines_are_found}
use Rattle.brisk_check.specs.Checking.{Verdict, after, finish}
use Rattle.brisk_check.specs.Laws.{IsAnswer, CheckIsExact}
use Rattle.brisk_check.proofs.Decided.{told_fault_holds, given_verdict_holds}

pub check_is_exact : CheckIsExact
check_is_exact P text seq = by (finish (after line_in P text) seq) refl
  where
    by : (x : Result Verdict TextFault) → finish (after line_in P text) seq ≡ x → IsAnswer P text seq x
    by (Ok v) e = given_verdict_holds line_in P text seq v lines_are_found e
    by (Err fault) e = told_fault_holds line_in P text seq fault lines_are_found e
