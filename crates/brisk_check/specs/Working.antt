-- A checker at work, as it is seen.
use Rattle.std.specs.Prelude.{◌≡◌, ℕ, drop, Result, Ok, Err, None}
use Rattle.brisk_text.specs.Values.{Text}
use Rattle.brisk_basic.specs.Outcomes.{and_then}
use Rattle.brisk_loops.specs.Walk.{Called, finish}
use Rattle.brisk_derivtext.specs.declared.fault.DerivFault.{DerivFault}
use Rattle.brisk_derivtext.specs.declared.fault.DerivFault.TheVariants as deriv
use Rattle.brisk_derivtext.specs.Parsing.{line_in}
use Rattle.brisk_check.specs.declared.work.Path.{Path}
use Rattle.brisk_check.specs.declared.work.Path.TheVariants.{Walks, Fails}
use Rattle.brisk_check.specs.declared.work.Work.{Work}
use Rattle.brisk_check.specs.declared.verdict.Verdict as declared
use Rattle.brisk_check.specs.Checking.{judged, Checking, feed, taken}
use Rattle.brisk_check.specs.Seen.{kept_calls, Checked, Going, seen}
use Rattle.brisk_check.specs.Told.{told}

abbrev pub path_of : Path → Called
path_of (Walks w) = Ok w
path_of (Fails k why) = Err record { line = k; why = why }

abbrev pub work_of : Work → Going
work_of w = record { rest = w.rest.items; lined = w.lines; walk = path_of w.path }

abbrev pub checked_of : Result Work DerivFault → Checked
checked_of (Ok w) = Ok (work_of w)
checked_of (Err f) = Err f

-- the checker has this fault, or there is no memory
abbrev pub HasFault : Checking → DerivFault → Type 0
HasFault c (deriv.Line k) = seen c ≡ Err (deriv.Line k)
HasFault c (deriv.TooLarge k) = seen c ≡ Err (deriv.TooLarge k)
HasFault c deriv.NoMemory = Unit {0}

-- the checker is kept so, or there is no memory
abbrev pub IsKept : Checking → Result Work DerivFault → Type 0
IsKept c (Ok w) = seen c ≡ Ok (work_of w)
IsKept c (Err f) = HasFault c f

-- the bytes kept are a whole line, which is read
abbrev pub LineRead : Going → Result Work DerivFault → Type 0
LineRead g r = (c : Checking) → seen c ≡ Ok g → IsKept (taken c None (line_in c.rest)) r

-- some first bytes of these are fed, or with them the text fails
abbrev pub SomeFed : Going → Text → Result (Work × ℕ) DerivFault → Type 0
SomeFed g left (Ok r) = (c : Checking) → seen c ≡ Ok g → (d : Checking) × (seen d ≡ Ok (work_of r.0)) × (feed line_in c left ≡ feed line_in d (drop r.1 left))
SomeFed g left (Err f) = (c : Checking) → seen c ≡ Ok g → HasFault (feed line_in c left) f

-- all are fed
abbrev pub AllFed : Going → Text → Result Work DerivFault → Type 0
AllFed g piece r = (c : Checking) → seen c ≡ Ok g → IsKept (feed line_in c piece) r

-- the verdict by what the calls of all steps have come to, as it is told
abbrev pub IsVerdictOf : Called → Text → declared.Verdict → Type 0
IsVerdictOf p seq v = (x : Called) → kept_calls x ≡ p → v ≡ told (judged seq (and_then x finish))
