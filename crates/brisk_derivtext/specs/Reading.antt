-- Texts of both formats read line by line, and at which line a text first fails.
use Rattle.std.specs.Prelude.{◌≡◌, ℕ, ◌+◌, Bool, true, false, ◌&&◌, ◌||◌, not, nat_lt, if◌then◌else◌, List, [], ◌∷◌, ◌++◌, length, Option, Some, None, is_none, Result, Ok, Err}
use Rattle.std.specs.List.{AllByRecursion}
use Rattle.brisk_text.specs.Values.{Text}
use Rattle.brisk_values.specs.Names.{Name, same_name}
use Rattle.brisk_derivation.specs.Depths.{steps_depth}
use Rattle.brisk_derivation.specs.Steps.{Step, Basic, Branch, Steps, no_steps, ◌▷◌}
use Rattle.brisk_derivation.specs.Steps as tree
use Rattle.brisk_derivtext.specs.declared.line.Format.{Format}
use Rattle.brisk_derivtext.specs.declared.line.Format.TheVariants.{Format2}
use Rattle.brisk_derivtext.specs.declared.line.Loop.{Loop}
use Rattle.brisk_derivtext.specs.declared.line.Loop.TheVariants.{While, For, Repeat, Gather, Pick}
use Rattle.brisk_derivtext.specs.declared.line.Line.{Line}
use Rattle.brisk_derivtext.specs.declared.line.Line.TheVariants.{Head, Plain, Fork, Enter, Else, Join, Close, End, Part, EndPart, Use}
use Rattle.brisk_derivtext.specs.declared.open.Open.{Open}
use Rattle.brisk_derivtext.specs.declared.open.Open.TheVariants.{InLoop, InFirst, InSecond}
use Rattle.brisk_derivtext.specs.Lines.{IsLegal, BeginsWith}
use Rattle.brisk_derivtext.specs.Texts.{text_of_lines, lines_of, most_nested, most_bytes}

-- ---- steps

infixl 5 ◌then◌
-- steps, and steps behind them
abbrev pub ◌then◌ : Steps → Steps → Steps
no_steps then b = b
(s ▷ a) then b = s ▷ (a then b)

-- the step of a rule with this premise
abbrev pub around : Loop → Steps → Step
around (While t drops) a = tree.While t drops a
around (For s ts drops) a = tree.For s ts drops a
around (Repeat t drops) a = tree.Repeat t drops a
around (Gather t drops) a = tree.Gather t drops a
around (Pick t drops) a = tree.Pick t drops a

-- What lines of steps come to: the rules that are entered, the innermost first, and the steps so far in the innermost.
pub record Body : Type 0 where
  pub entered : List Open
  pub steps : Steps

-- nothing was read
abbrev pub empty : Body
empty = record { entered = []; steps = no_steps }

-- this step comes next
abbrev pub add : Body → Step → Body
add b s = record b { steps = b.steps then (s ▷ no_steps) }

-- a rule is entered, unless too many are
abbrev pub in_rule : Body → Open → Option Body
in_rule b o = if nat_lt (length b.entered) most_nested then Some record { entered = o ∷ b.entered; steps = no_steps } else None

-- the second side of a branch comes next
abbrev pub second_side : List Open → Steps → Option Body
second_side (InFirst before t ∷ more) a = Some record { entered = InSecond before t a ∷ more; steps = no_steps }
second_side os a = None

-- a branch ends
abbrev pub joined : List Open → Steps → Option Body
joined (InSecond before t first ∷ more) a = Some (add record { entered = more; steps = before } (Branch t first a))
joined os a = None

-- a rule with one premise ends
abbrev pub closed : List Open → Steps → Option Body
closed (InLoop before loop ∷ more) a = Some (add record { entered = more; steps = before } (around loop a))
closed os a = None

-- a line of steps is read; none is where such lines can't go on so
abbrev pub put : Line → Body → Option Body
put (Plain s) b = Some (add b (Basic s))
put (Fork t) b = in_rule b (InFirst b.steps t)
put (Enter loop) b = in_rule b (InLoop b.steps loop)
put Else b = second_side b.entered b.steps
put Join b = joined b.entered b.steps
put Close b = closed b.entered b.steps
put l b = None

-- the lines of format 1 of a rule that is entered, up to where they are, and of all of these
abbrev pub lines_before : Open → List Line
lines_before (InLoop before loop) = lines_of before ++ Enter loop ∷ []
lines_before (InFirst before t) = lines_of before ++ Fork t ∷ []
lines_before (InSecond before t first) = lines_of before ++ Fork t ∷ (lines_of first ++ Else ∷ [])

abbrev pub lines_around : List Open → List Line
lines_around [] = []
lines_around (o ∷ os) = lines_around os ++ lines_before o

-- the lines of format 1 so far
abbrev pub lines_so_far : Body → List Line
lines_so_far b = lines_around b.entered ++ lines_of b.steps

-- ---- parts

-- a part that has ended
pub record Ended : Type 0 where
  pub name : Name
  pub steps : Steps

-- the steps of the part of this name
abbrev pub part_named : Name → List Ended → Option Steps
part_named n [] = None
part_named n (p ∷ ps) = if same_name n p.name then Some p.steps else part_named n ps

-- What lines come to: the format, once the head was read; the parts that have ended, the last first; the name of the part that
-- is being read; whether a line of the main steps was read; the steps of that part, or else the main steps; and whether the
-- end was read.
pub record Reading : Type 0 where
  pub format : Option Format
  pub parts : List Ended
  pub part : Option Name
  pub main : Bool
  pub body : Body
  pub ended : Bool

-- nothing was read
abbrev pub start : Reading
start = record { format = None; parts = []; part = None; main = false; body = empty; ended = false }

-- the steps go on so
abbrev pub with_body : Reading → Body → Reading
with_body r b = record r { main = r.main || is_none r.part; body = b }

abbrev pub with_steps : Reading → Option Body → Option Reading
with_steps r None = None
with_steps r (Some b) = Some (with_body r b)

-- the steps of a part are used, unless there is none or they nest too deep here
abbrev pub used : Body → Option Steps → Option Body
used b None = None
used b (Some a) =
    if nat_lt most_nested (length b.entered + steps_depth a) then None else Some record b { steps = b.steps then a }

-- there are none
abbrev pub is_empty : List Open → Bool
is_empty [] = true
is_empty (o ∷ os) = false

-- no rule is entered that isn't closed
abbrev pub is_whole : Body → Bool
is_whole b = is_empty b.entered

-- a part begins: none is being read, no line of the main steps was, and its name is new
abbrev pub part_begun : Reading → Name → Option Reading
part_begun r n =
    if is_none r.part && not r.main && is_none (part_named n r.parts) then Some record r { part = Some n; body = empty } else None

-- a part ends
abbrev pub part_ended : Reading → Option Name → Option Reading
part_ended r None = None
part_ended r (Some n) =
    if is_whole r.body then Some record r { parts = record { name = n; steps = r.body.steps } ∷ r.parts; part = None; body = empty } else None

-- the text ends
abbrev pub at_end : Reading → Option Reading
at_end r = if is_none r.part && is_whole r.body then Some record r { ended = true } else None

-- a line behind the head
abbrev pub behind_head : Format → Reading → Line → Option Reading
behind_head f r End = at_end r
behind_head Format2 r (Part n) = part_begun r n
behind_head Format2 r EndPart = part_ended r r.part
behind_head Format2 r (Use n) = with_steps r (used r.body (part_named n r.parts))
behind_head f r l = with_steps r (put l r.body)

-- the head
abbrev pub at_head : Reading → Line → Option Reading
at_head r (Head f) = Some record r { format = Some f }
at_head r l = None

-- a line in a text of this format, or the first line
abbrev pub in_format : Option Format → Reading → Line → Option Reading
in_format None r l = at_head r l
in_format (Some f) r l = behind_head f r l

-- what lines come to with the next one; nothing where no text goes on so
abbrev pub next : Reading → Line → Option Reading
next r l = if r.ended then None else in_format r.format r l

-- ---- lines and bytes

-- why a line can't stand: no text goes on so, or the lines of format 1 have too many bytes with it
pub data Trouble : Type 0 where
  NoLine : Trouble
  TooLong : Trouble

abbrev pub within_bytes : Reading → Result Reading Trouble
within_bytes r = if nat_lt most_bytes (length (text_of_lines (lines_so_far r.body))) then Err TooLong else Ok r

abbrev pub bounded : Option Reading → Result Reading Trouble
bounded None = Err NoLine
bounded (Some r) = within_bytes r

-- goes on with what was read
abbrev pub and_then : Result Reading Trouble → (Reading → Result Reading Trouble) → Result Reading Trouble
and_then (Ok r) go = go r
and_then (Err why) go = Err why

-- a line, and lines one after another
abbrev pub read_line : Reading → Line → Result Reading Trouble
read_line r l = bounded (next r l)

abbrev pub read_all : List Line → Reading → Result Reading Trouble
read_all [] r = Ok r
read_all (l ∷ ls) r = and_then (read_line r l) (read_all ls)

-- the lines are legal and come to this
pub record ComesTo (ls : List Line) (r : Reading) : Type 0 where
  pub legal : AllByRecursion IsLegal ls
  pub read : read_all ls start ≡ Ok r

-- the bytes are a text, of this format, of these steps
pub record IsRead (f : Format) (text : Text) (D : Steps) : Type 0 where
  pub lines : List Line
  pub last : Reading
  pub parts : text ≡ text_of_lines lines
  pub comes : ComesTo lines last
  pub format : last.format ≡ Some f
  pub ended : last.ended ≡ true
  pub steps : last.body.steps ≡ D

-- the line at which a text fails, counted from 1
pub data TextFault : Type 0 where
  AtLine : (k : ℕ) → TextFault
  TooLarge : (k : ℕ) → TextFault

-- Why the text doesn't go on behind lines that come to r. AtLine: it doesn't end here, and each line that stands next is refused.
-- TooLarge: with the next line there are too many bytes.
abbrev pub FailsBehind : List Line → Reading → Text → TextFault → Type 0
FailsBehind ls r rest (AtLine k) =
    (k ≡ length ls + 1) × ((r.ended ≡ true) × (rest ≡ []) → ⊥) × ((l : Line) (more : Text) → BeginsWith rest l more → next r l ≡ None)
FailsBehind ls r rest (TooLarge k) =
    (k ≡ length ls + 1) × (l : Line) × (more : Text) × BeginsWith rest l more × (read_line r l ≡ Err TooLong)

-- the text fails so: the lines before stand, and behind them it doesn't go on
pub record Fails (text : Text) (fault : TextFault) : Type 0 where
  pub before : List Line
  pub here : Reading
  pub rest : Text
  pub parts : text ≡ text_of_lines before ++ rest
  pub comes : ComesTo before here
  pub fails : FailsBehind before here rest fault
