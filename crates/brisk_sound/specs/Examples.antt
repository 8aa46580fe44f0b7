-- What the definitions give on small programs.
use Rattle.std.specs.Prelude.{◌≡◌, ℕ, ◌+◌, ◌*◌, pos, negsuc, List, [], ◌∷◌, map, Option, Some, None, option_map, Result, Ok, Err}
use Rattle.brisk_values.specs.declared.value.Pid.{Pid}
use Rattle.brisk_values.specs.declared.value.Value.{Value}
use Rattle.brisk_values.specs.declared.value.Value.TheVariants as value
use Rattle.brisk_values.specs.Names.{Name, single, member}
use Rattle.brisk_syntax.specs.declared.program.Program.{Program}
use Rattle.brisk_syntax.specs.Instance.{Instance}
use Rattle.brisk_syntax.specs.Stores.{Store}
use Rattle.brisk_seq.specs.declared.tree.SeqProgram.{SeqProgram}
use Rattle.brisk_seq.specs.Sequential.{Stop, BadChoice, ChoicesLeft, seq}
use Rattle.brisk_async.specs.declared.event.Event.{Event}
use Rattle.brisk_async.specs.Machine.{State, start, run, IsHalted}
use Rattle.brisk_async.specs.PlainRuns.{plain_instance, plain_schedule, Deadlocks}
use Rattle.brisk_rules.specs.Faithful.{Faithful}
use Rattle.brisk_sound.specs.Samples.{A, B, M, Ws, n, r, x, y, k, last, ping_pong, ping_pong_in_order, two_messages, two_messages_loose, crossed, collect, collect_by_number, collect_in_order, maybe_empty_server}

-- a variable of a process
abbrev pub Place : Type 0
Place = Pid × Name

-- the values at places of a store
abbrev pub values_at : List Place → Store → List (Option Value)
values_at places store = map (λ q. store q.0 q.1) places

-- the values at places to which a schedule leads, if it runs
abbrev pub values_after : Program → Instance → List Event → List Place → Option (List (Option Value))
values_after P i es places = option_map (λ s. values_at places s.store) (run (start P i) es)

-- the values at places with which a sequential program halts, or what stops it
abbrev pub values_in_order : SeqProgram → Instance → List ℕ → ℕ → List Place → Result (List (Option Value)) Stop
values_in_order Q i choices turns places = in_store (seq Q i choices turns)
  where
    in_store : Result Store Stop → Result (List (Option Value)) Stop
    in_store (Ok store) = Ok (values_at places store)
    in_store (Err stop) = Err stop

-- the event of a single role
abbrev pub of_one : Name → Event
of_one p = record { process = single p; sender = None; place = None }

-- the event of a member
abbrev pub of_member : Name → ℕ → Event
of_member s k = record { process = member s k; sender = None; place = None }

-- the event of a single role that takes from a sender
abbrev pub taking_from : Name → Pid → Event
taking_from p w = record { process = single p; sender = Some w; place = None }

-- the event of a single role that takes at a place
abbrev pub taking_at : Name → ℕ → Event
taking_at p k = record { process = single p; sender = None; place = Some k }

-- the whole number as what a store holds
abbrev pub whole : ℕ → Option Value
whole m = Some (value.Int (pos m))

-- every input is m, and every set has size 0
abbrev pub all_inputs : ℕ → Instance
all_inputs m = record { size = λ s. 0; input = λ p z. value.Int (pos m) }

-- two members, with the inputs 10 and 20
abbrev pub two_members : Instance
two_members = record { size = λ s. 2; input = λ p z. value.Int (pos (10 + 10 * p.member)) }

-- 2^63 - 1
abbrev pub greatest : ℕ
greatest = 9223372036854775807

-- both members send, and M takes from w and then from u
abbrev pub collects : Pid → Pid → List Event
collects w u =
    of_member Ws 0 ∷ of_member Ws 1 ∷ of_one M ∷ taking_from M w ∷ of_one M ∷ of_one M ∷ taking_from M u ∷ of_one M ∷ of_one M ∷ []

-- A sends, B receives and sends, A receives
abbrev pub round_trip : List Event
round_trip = of_one A ∷ of_one B ∷ of_one B ∷ of_one A ∷ []

-- the variables that are compared
abbrev pub ping_pong_places : List Place
ping_pong_places = (single A, n) ∷ (single A, r) ∷ (single B, x) ∷ []

abbrev pub two_places : List Place
two_places = (single B, x) ∷ (single B, y) ∷ []

abbrev pub collect_places : List Place
collect_places = (single M, x) ∷ (single M, last) ∷ []

-- the outcomes of `collect` in order, on lists of choices
abbrev pub collect_on : List (List ℕ) → List (Result (List (Option Value)) Stop)
collect_on lists = map (λ choices. values_in_order collect_in_order two_members choices 0 collect_places) lists

-- what the definitions give
pub record Examples : Type 0 where
  -- the sum wraps, by the processes and in order
  pub ping_pong_wraps : values_after ping_pong (all_inputs greatest) round_trip ping_pong_places
      ≡ Some (whole greatest ∷ Some (value.Int (negsuc greatest)) ∷ whole greatest ∷ [])
  pub ping_pong_in_order_wraps : values_in_order ping_pong_in_order (all_inputs greatest) [] 0 ping_pong_places
      ≡ Ok (whole greatest ∷ Some (value.Int (negsuc greatest)) ∷ whole greatest ∷ [])
  -- after the round trip all codes are empty; without B's events A waits
  pub ping_pong_halts : (m : ℕ) (s : State) → run (start ping_pong (all_inputs m)) round_trip ≡ Some s → IsHalted s
  pub ping_pong_waits : run (start ping_pong (all_inputs 0)) (of_one A ∷ of_one A ∷ []) ≡ None
  -- a strict channel keeps the order of its messages, and a receive on it takes no place
  pub two_in_order : values_after two_messages (all_inputs 0) (of_one A ∷ of_one A ∷ of_one B ∷ of_one B ∷ []) two_places
      ≡ Some (whole 1 ∷ whole 2 ∷ [])
  pub strict_takes_no_place : run (start two_messages (all_inputs 0)) (of_one A ∷ of_one A ∷ taking_at B 0 ∷ []) ≡ None
  -- on a loose channel a receive takes from any place below the queue's length
  pub two_turned_round : values_after two_messages_loose (all_inputs 0) (of_one A ∷ of_one A ∷ taking_at B 1 ∷ taking_at B 0 ∷ []) two_places
      ≡ Some (whole 2 ∷ whole 1 ∷ [])
  pub no_such_place : run (start two_messages_loose (all_inputs 0)) (of_one A ∷ of_one A ∷ taking_at B 2 ∷ []) ≡ None
  -- each waits for the other at once, as the plain run finds
  pub crossed_plain : plain_schedule crossed 1 ≡ []
  pub crossed_deadlocks : Deadlocks crossed (plain_instance crossed 1) (plain_schedule crossed 1)
  -- M keeps the value of the member from which it takes last, by the processes and in order
  pub collect_second_first : values_after collect two_members (collects (member Ws 1) (member Ws 0)) collect_places
      ≡ Some (whole 10 ∷ whole 10 ∷ [])
  pub collect_first_first : values_after collect two_members (collects (member Ws 0) (member Ws 1)) collect_places
      ≡ Some (whole 20 ∷ whole 20 ∷ [])
  pub collect_by_choices : collect_on ((1 ∷ 0 ∷ []) ∷ (0 ∷ 1 ∷ []) ∷ (1 ∷ 1 ∷ []) ∷ (1 ∷ []) ∷ (1 ∷ 0 ∷ 0 ∷ []) ∷ [])
      ≡ Ok (whole 10 ∷ whole 10 ∷ []) ∷ Ok (whole 20 ∷ whole 20 ∷ []) ∷ Err (BadChoice 2) ∷ Err (BadChoice 2) ∷ Err ChoicesLeft ∷ []
  -- a loop by the members' numbers isn't faithful: it keeps the last member's value alone
  pub collect_by_number_unfaithful : Faithful collect collect_by_number → ⊥
  -- a task is offered in vain where the set has no member
  pub empty_server : values_after maybe_empty_server (all_inputs 1) (of_one M ∷ []) ((single M, n) ∷ (single M, k) ∷ [])
      ≡ Some (whole 1 ∷ whole 0 ∷ [])
  pub empty_server_deadlocks : Deadlocks maybe_empty_server (all_inputs 1) (of_one M ∷ [])
