-- What is kept of a checker: numbers stay at the greatest `u64` where they would pass it, and where the text has failed only
-- its fault is kept.
use Rattle.std.specs.Prelude.{◌≡◌, ℕ, map, Option, Some, None, Result, Ok, Err}
use Rattle.brisk_text.specs.Values.{Text}
use Rattle.brisk_basic.specs.Outcomes.{and_then, told_as}
use Rattle.brisk_loops.specs.Walk.{Called, Open, Walked}
use Rattle.brisk_loops.specs.WalkKept.{kept, kept_failure}
use Rattle.brisk_derivtext.specs.declared.fault.DerivFault.{DerivFault}
use Rattle.brisk_derivtext.specs.declared.fault.DerivFault.TheVariants as deriv
use Rattle.brisk_derivtext.specs.Lined.{Lined}
use Rattle.brisk_derivtext.specs.Parsing.{line_in}
use Rattle.brisk_derivtext.specs.Reading.{TextFault, AtLine, TooLarge}
use Rattle.brisk_check.specs.declared.verdict.CheckFault.{CheckFault}
use Rattle.brisk_check.specs.declared.verdict.CheckFault.TheVariants as fault
use Rattle.brisk_check.specs.declared.verdict.Verdict as declared
use Rattle.brisk_check.specs.Checking.{called, Checking, feed, finish, Verdict}
use Rattle.brisk_check.specs.Told.{told}

-- ---- walks

-- a walk, of which all numbers are kept
abbrev pub kept_open : Open → Open
kept_open o = record o { counted = kept o.counted }

abbrev pub kept_walk : Walked → Walked
kept_walk w = record w { entered = map kept_open w.entered; applied = kept w.applied; counted = kept w.counted }

-- what calls have come to, with the numbers that are kept
abbrev pub kept_calls : Called → Called
kept_calls call = and_then (told_as kept_failure call) (λ w. Ok (kept_walk w))

-- ---- checkers

-- what is kept while the text stands: the bytes after the last byte 10; what the whole lines come to; and the walk of the main
-- steps, or the first failure
pub record Going : Type 0 where
  pub rest : Text
  pub lined : Lined
  pub walk : Called

-- A checker: the text stands so far, or has this fault. Spent it has the fault of want of memory.
abbrev pub Checked : Type 0
Checked = Result Going DerivFault

abbrev pub spent : Checked
spent = Err deriv.NoMemory

-- a fault of a text, as it is kept
abbrev pub kept_fault : TextFault → DerivFault
kept_fault (AtLine k) = deriv.Line (kept k)
kept_fault (TooLarge k) = deriv.TooLarge (kept k)

-- what is kept of a checker
abbrev pub going_of : Checking → Going
going_of c = record {
  rest = c.rest;
  lined = record { count = kept c.whole; reading = c.reading };
  walk = kept_calls (called c.walk.walked c.walk.failure);
}

abbrev pub seen_by : Checking → Option TextFault → Checked
seen_by c None = Ok (going_of c)
seen_by c (Some fault) = Err (kept_fault fault)

abbrev pub seen : Checking → Checked
seen c = seen_by c c.fault

-- ---- pieces

-- whatever was fed before, with this piece it is fed next
abbrev pub Fed : Checked → Text → Checked → Type 0
Fed old piece new = (c : Checking) → old ≡ seen c → new ≡ seen (feed line_in c piece)

-- ---- verdicts

-- the verdict where all was fed
abbrev pub Ends : Checked → Text → declared.Verdict → Type 0
Ends s seq v = (c : Checking) → s ≡ seen c → (w : Verdict) × (finish c seq ≡ Ok w) × (v ≡ told w)

-- where all was fed, the text fails so; or there is no memory
abbrev pub Faults : Checked → Text → CheckFault → Type 0
Faults s seq (fault.Deriv k) = (c : Checking) → s ≡ seen c → (n : ℕ) × (finish c seq ≡ Err (AtLine n)) × (k ≡ kept n)
Faults s seq (fault.TooLarge k) = (c : Checking) → s ≡ seen c → (n : ℕ) × (finish c seq ≡ Err (TooLarge n)) × (k ≡ kept n)
Faults s seq fault.NoMemory = Unit {0}
