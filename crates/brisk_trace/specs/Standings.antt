-- How a process stands to the gathers of its code, from event to event.
use Rattle.std.specs.Prelude.{ℕ, zero, suc, Bool, true, false, ◌&&◌, List, [], ◌∷◌, ◌++◌, Option, Some, None, if◌then◌else◌, nat_lt}
use Rattle.std.specs.List.{list_any}
use Rattle.brisk_values.specs.declared.value.Pid.{Pid}
use Rattle.brisk_values.specs.Names.{Name, same_process}
use Rattle.brisk_syntax.specs.Syntax.{Code}
use Rattle.brisk_async.specs.PlainRuns.{Gather}
use Rattle.brisk_trace.specs.declared.standing.Standing.{Standing}
use Rattle.brisk_trace.specs.Gathers.{gather_at}

-- the member is one of these
abbrev pub is_in : List Pid → Pid → Bool
is_in ws w = list_any (λ v. same_process v w) ws

-- the member was taken in the innermost run
abbrev pub in_first : List (List Pid) → Pid → Bool
in_first [] w = false
in_first (ws ∷ runs) w = is_in ws w

-- the runs, with the member taken in the innermost one
abbrev pub taking : Pid → List (List Pid) → List (List Pid)
taking w [] = []
taking w (ws ∷ runs) = (ws ++ w ∷ []) ∷ runs

-- the runs without the innermost one
abbrev pub tail : List (List Pid) → List (List Pid)
tail [] = []
tail (ws ∷ runs) = runs

-- the runs where a turn begins: the first one opens a run
abbrev pub opened : ℕ → List (List Pid) → List (List Pid)
opened zero runs = [] ∷ runs
opened (suc k) runs = runs

-- the runs where no turn is left
abbrev pub closed : ℕ → List (List Pid) → List (List Pid)
closed zero runs = runs
closed (suc k) runs = tail runs

-- the runs after a receive, from a sender if it takes one
abbrev pub received : Option Pid → List (List Pid) → List (List Pid)
received None runs = runs
received (Some w) runs = taking w runs

-- how the process stands after a turn's beginning, or after another event
abbrev pub followed_by : (Name → ℕ) → Option (Gather × ℕ) → Option Pid → Standing → Standing
followed_by sizes None sender st =
    record { at_receive = false; runs = if st.at_receive then received sender st.runs else st.runs }
followed_by sizes (Some f) sender st =
    if nat_lt f.1 (sizes f.0.set) then record { at_receive = true; runs = opened f.1 st.runs } else record { at_receive = false; runs = closed f.1 st.runs }

-- how the process stands after an event
abbrev pub followed : (Name → ℕ) → Code → Option Pid → Standing → Standing
followed sizes code sender st = followed_by sizes (gather_at code) sender st

-- the event takes from a member from which an earlier turn of the same run took
abbrev pub takes_again : Option Pid → Standing → Bool
takes_again None st = false
takes_again (Some w) st = st.at_receive && in_first st.runs w
