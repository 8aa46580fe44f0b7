-- A checker that is fed a derivation's text in pieces, on plain data.
use Rattle.std.specs.Prelude.{ℕ, ◌+◌, suc, Bool, true, false, ◌==◌, if◌then◌else◌, List, [], ◌∷◌, ◌++◌, Option, Some, None, is_none, option_map, Result, Ok, Err}
use Rattle.brisk_print.specs.Layout.{sequential}
use Rattle.brisk_text.specs.Values.{Text}
use Rattle.brisk_syntax.specs.declared.program.Program.{Program}
use Rattle.brisk_seq.specs.declared.tree.SeqProgram.{SeqProgram}
use Rattle.brisk_derivation.specs.Steps.{Branch, Steps, no_steps}
use Rattle.brisk_rules.specs.Derives.{Failure, outcome}
use Rattle.brisk_loops.specs.Walk.{Walked, Called, Call, Enter, Apply, Other, Leave, made}
use Rattle.brisk_loops.specs.Walk as walk
use Rattle.brisk_derivtext.specs.declared.line.Line.{Line}
use Rattle.brisk_derivtext.specs.declared.line.Line.TheVariants.{Plain, Fork, Else, Join, Close, Use}
use Rattle.brisk_derivtext.specs.declared.line.Line.TheVariants as line
use Rattle.brisk_derivtext.specs.Reading.{Reading, Trouble, NoLine, TooLong, read_line, part_named, around, TextFault, AtLine, TooLarge}
use Rattle.brisk_derivtext.specs.Reading as text
use Rattle.brisk_derivtext.specs.Texts.{lines_of}

-- how a line is read, where its bytes are one
abbrev pub Reader : Type 0
Reader = Text → Option Line

-- ---- the calls of lines

-- the calls of a line of steps, made on a walk
abbrev pub calls_at : Line → List Call
calls_at (Plain b) = Apply b ∷ []
calls_at (Fork t) = Enter (Branch t no_steps no_steps) ∷ []
calls_at (line.Enter loop) = Enter (around loop no_steps) ∷ []
calls_at Else = Other ∷ []
calls_at Join = Leave ∷ []
calls_at Close = Leave ∷ []
calls_at l = []

-- the calls of lines of steps
abbrev pub calls_in : List Line → List Call
calls_in [] = []
calls_in (l ∷ ls) = calls_at l ++ calls_in ls

-- the lines of steps, none where there are no steps
abbrev pub lines_if : Option Steps → List Line
lines_if None = []
lines_if (Some a) = lines_of a

-- the lines of format 1 for which a line stands: the use of a part for those of the part, and any other line for itself
abbrev pub stands_for : Reading → Line → List Line
stands_for r (Use n) = lines_if (part_named n r.parts)
stands_for r l = l ∷ []

-- the calls that a line asks for behind these: none in a part
abbrev pub calls_for : Reading → Line → List Call
calls_for r l = if is_none r.part then calls_in (stands_for r l) else []

-- ---- the walk

-- a walk after the last call that didn't fail, and the first failure, if there is one
pub record Walking : Type 0 where
  pub walked : Walked
  pub failure : Option Failure

-- what a walk has come to
abbrev pub called : Walked → Option Failure → Called
called w None = Ok w
called w (Some failure) = Err failure

-- the walk goes on so, or fails
abbrev pub gone : Walked → Called → Walking
gone w (Ok v) = record { walked = v; failure = None }
gone w (Err failure) = record { walked = w; failure = Some failure }

-- a call, unless one has failed, and calls one after another
abbrev pub after_call : Call → Walked → Option Failure → Walking
after_call c w None = gone w (made c w)
after_call c w (Some failure) = record { walked = w; failure = Some failure }

abbrev pub after_calls : List Call → Walking → Walking
after_calls [] w = w
after_calls (c ∷ cs) w = after_calls cs (after_call c w.walked w.failure)

-- ---- the checker

-- What is kept after some bytes: those after the last byte 10; the number of whole lines; what the lines come to; the first
-- line at which the text fails, if there is one; and the walk of the main steps.
pub record Checking : Type 0 where
  pub rest : Text
  pub whole : ℕ
  pub reading : Reading
  pub fault : Option TextFault
  pub walk : Walking

-- nothing was fed
abbrev pub begun : Program → Checking
begun P = record { rest = []; whole = 0; reading = text.start; fault = None; walk = record { walked = walk.start P; failure = None } }

-- the next line, and where it can't stand
abbrev pub stood : Checking → Line → Result Reading Trouble → Checking
stood c l (Ok r) = record c { rest = []; whole = c.whole + 1; reading = r; walk = after_calls (calls_for c.reading l) c.walk }
stood c l (Err NoLine) = record c { rest = []; whole = c.whole + 1; fault = Some (AtLine (c.whole + 1)) }
stood c l (Err TooLong) = record c { rest = []; whole = c.whole + 1; fault = Some (TooLarge (c.whole + 1)) }

-- a line is whole: it is read, unless the text has failed
abbrev pub taken : Checking → Option TextFault → Option Line → Checking
taken c (Some fault) o = record c { rest = []; whole = c.whole + 1 }
taken c None None = record c { rest = []; whole = c.whole + 1; fault = Some (AtLine (c.whole + 1)) }
taken c None (Some l) = stood c l (read_line c.reading l)

-- one byte, and bytes one after another
abbrev pub byte : Reader → Checking → ℕ → Checking
byte read c b = if b == 10 then taken c c.fault (read c.rest) else record c { rest = c.rest ++ b ∷ [] }

abbrev pub feed : Reader → Checking → Text → Checking
feed read c [] = c
feed read c (b ∷ bs) = feed read (byte read c b) bs

-- the checker after these bytes
abbrev pub after : Reader → Program → Text → Checking
after read P b = feed read (begun P) b

-- ---- the verdict

-- the place of the first byte at which two texts differ, counted from 0; where one is the front of the other, the shorter length
abbrev pub differs_at : Text → Text → Option ℕ
differs_at [] [] = None
differs_at [] (y ∷ b) = Some 0
differs_at (x ∷ a) [] = Some 0
differs_at (x ∷ a) (y ∷ b) = if x == y then option_map suc (differs_at a b) else Some 0

-- The derivation is valid and has this sequential program; it isn't, and this fails first; or it is valid but has another
-- program, whose text differs first at this byte.
pub data Verdict : Type 0 where
  Valid : Verdict
  Invalid : (failure : Failure) → Verdict
  OtherProgram : (k : ℕ) → Verdict

abbrev pub compared : Option ℕ → Verdict
compared None = Valid
compared (Some k) = OtherProgram k

-- the verdict by what a derivation gives
abbrev pub judged : Text → Result SeqProgram Failure → Verdict
judged seq (Ok Q) = compared (differs_at (sequential Q) seq)
judged seq (Err failure) = Invalid failure

-- the verdict on a derivation
abbrev pub verdict : Program → Text → Steps → Verdict
verdict P seq D = judged seq (outcome P D)

-- what the walk gives at the end
abbrev pub walk_ends : Walked → Option Failure → Result SeqProgram Failure
walk_ends w None = walk.finish w
walk_ends w (Some failure) = Err failure

-- the end of the text was read, and nothing behind it
abbrev pub is_done : Text → Bool → Bool
is_done [] ended = ended
is_done (b ∷ bs) ended = false

-- the text ends too early, or behind its end, unless it is done
abbrev pub unless_undone : Bool → ℕ → Verdict → Result Verdict TextFault
unless_undone true k v = Ok v
unless_undone false k v = Err (AtLine k)

-- the verdict, unless the text fails
abbrev pub unless_failed : Option TextFault → Result Verdict TextFault → Result Verdict TextFault
unless_failed None v = v
unless_failed (Some fault) v = Err fault

-- the verdict where all was fed
abbrev pub finish : Checking → Text → Result Verdict TextFault
finish c seq =
    unless_failed c.fault
    (unless_undone (is_done c.rest c.reading.ended) (c.whole + 1) (judged seq (walk_ends c.walk.walked c.walk.failure)))
