-- A drive, round by round; and both passes of the search.
use Rattle.std.specs.Prelude.{ℕ, zero, suc, List, [], ◌∷◌, map, sum_by, Option, Some, None, if◌then◌else◌}
use Rattle.brisk_values.specs.Names.{Name, same_name}
use Rattle.brisk_syntax.specs.declared.program.Program.{Program}
use Rattle.brisk_syntax.specs.Counts.{statements}
use Rattle.brisk_syntax.specs.Syntax.{Code}
use Rattle.brisk_seq.specs.Items.{Items, nothing, ◌followed_by◌}
use Rattle.brisk_state.specs.declared.thread.Thread.{Thread}
use Rattle.brisk_state.specs.Symbolic.{Symbolic, initial}
use Rattle.brisk_derivation.specs.Reports.{Try, Tries, no_tries, ◌▹◌}
use Rattle.brisk_derivation.specs.Steps.{Step, no_steps, ◌▷◌}
use Rattle.brisk_rules.specs.Following.{nothing_follows}
use Rattle.brisk_rules.specs.Standing.{resting, stands_at}
use Rattle.brisk_search.specs.Turns.{RulesLeft, Failures, Turn, Goes, Stays, Attempt, stay, ◌otherwise◌, first_of}
use Rattle.brisk_search.specs.Turns as turn
use Rattle.brisk_search.specs.Drives.{Drive, Way, Driven, Reached, Stuck, Spent, Driver, in_turn, top, side_of}
use Rattle.brisk_search.specs.Tries.{for_rule, nine_tries}
use Rattle.brisk_search.specs.Advance.{Around, advance}

-- a `for` over the set without owners
abbrev pub without_owners : Around → Symbolic → Name → Attempt
without_owners around S s = nine_tries around.program around.below S (for_rule around.follows S s s [])

-- a round: the first thread that can go does, or at the top the first set
abbrev pub round : Around → Drive → Symbolic → Attempt
round around d S = first_of (advance around S) (in_turn d S) otherwise (if d.sets then first_of (without_owners around S) (resting S) else stay)

-- the last try at a thread's head, where there was one
abbrev pub last_try : Failures → Name → Option Try
last_try [] t = None
last_try (f ∷ fs) t = if same_name t f.0 then Some f.1 else last_try fs t

abbrev pub with_try : Option Try → Tries → Tries
with_try None tries = tries
with_try (Some a) tries = a ▹ tries

-- the last try at each thread's head, in role order
abbrev pub last_tries : Failures → List Thread → Tries
last_tries failures [] = no_tries
last_tries failures (t ∷ ts) = with_try (last_try failures t.name) (last_tries failures ts)

-- no way at all
abbrev pub here : Symbolic → Way
here S = record { steps = no_steps; items = nothing; end = S }

-- the way after one more step at its beginning
abbrev pub longer : Step → Items → Way → Way
longer step items w = record { steps = step ▷ w.steps; items = items followed_by w.items; end = w.end }

abbrev pub after_step : Step → Items → Driven → Driven
after_step step items (Reached w left) = Reached (longer step items w) left
after_step step items (Stuck w tries left) = Stuck (longer step items w) tries left
after_step step items Spent = Spent

-- the drive goes on from where the round led, and is stuck where nothing went
abbrev pub after_round : (Symbolic → RulesLeft → Driven) → Symbolic → Turn → Driven
after_round go S (Goes step items next left) = after_step step items (go next left)
after_round go S (Stays failures left) = Stuck (here S) (last_tries failures S.threads) left
after_round go S turn.Spent = Spent

-- at most so many rounds
abbrev pub rounds : Around → Drive → ℕ → Symbolic → RulesLeft → Driven
rounds around d zero S left = Spent
rounds around d (suc n) S left = if d.goal S then Reached (here S) left else after_round (rounds around d n) S (round around d S [] left)

-- So many rounds are enough: each but the last applies a rule; and where rules aren't counted, there is no `while`, so each but the
-- last takes a statement from some thread.
abbrev pub enough : RulesLeft → Symbolic → ℕ
enough (Some n) S = suc n
enough None S = suc (sum_by (λ t. statements (stands_at S t)) (map (λ u. u.name) S.threads))

-- how a branch's sides are driven, by the drive around it, the branch's owner and the code after it
abbrev pub Sides : Type 0
Sides = Drive → Name → Code → Drive

-- what drives where so many rules may be entered one in another
abbrev pub driver : Program → Sides → ℕ → Driver
driver P sides zero F d S left = rounds record { program = P; below = None; side = sides d; follows = F } d (enough left S) S left
driver P sides (suc n) F d S left = rounds record { program = P; below = Some (driver P sides n); side = sides d; follows = F } d (enough left S) S left

-- a pass of the search; at most 256 rules stand one in another
abbrev pub pass : Program → Sides → RulesLeft → Driven
pass P sides left = driver P sides 256 nothing_follows top (initial P) left

-- in pass one a branch's owner alone must come to the code after it
abbrev pub first_pass : Program → RulesLeft → Driven
first_pass P left = pass P (λ around t rest. side_of t rest) left

-- in pass two its sides are driven as what is around it
abbrev pub second_pass : Program → RulesLeft → Driven
second_pass P left = pass P (λ around t rest. around) left
