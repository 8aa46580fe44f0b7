-- Why an event has no next state.
use Rattle.std.specs.Prelude.{ℕ, Bool, false, true, ◌&&◌, not, Option, Some, None, is_some, is_none, if◌then◌else◌}
use Rattle.brisk_values.specs.declared.value.Pid.{Pid}
use Rattle.brisk_values.specs.Names.{Name}
use Rattle.brisk_syntax.specs.Syntax.{Recv, RecvAny, Code, done, ◌⨾◌}
use Rattle.brisk_async.specs.declared.event.Event.{Event}
use Rattle.brisk_async.specs.declared.fault.StepFault.{StepFault}
use Rattle.brisk_async.specs.declared.fault.StepFault.TheVariants.{NoProcess, Finished, NeedsSender, TakesNoSender, NoSuchSender, NeedsPlace, TakesNoPlace, Blocked, NoSuchPlace}
use Rattle.brisk_async.specs.Machine.{State, View, Queue, Payload, partner, is_member, queue, seen_by}
use Rattle.brisk_async.specs.States.{is_process}

-- the code is empty
abbrev pub is_done : Code → Bool
is_done done = true
is_done (s ⨾ c) = false

-- the head is a receive from any
abbrev pub takes_sender : Code → Bool
takes_sender (RecvAny c xs v s b ⨾ rest) = true
takes_sender code = false

-- the head is a receive from any, and the given sender is no member of its set
abbrev pub is_outside : (Name → ℕ) → Code → Option Pid → Bool
is_outside sizes (RecvAny c xs v s b ⨾ rest) (Some w) = not (is_member sizes s w)
is_outside sizes code sender = false

-- the head is a receive on a loose channel
abbrev pub takes_place : (Name → Bool) → Code → Bool
takes_place loose (Recv c xs u ⨾ rest) = loose c
takes_place loose (RecvAny c xs v s b ⨾ rest) = loose c
takes_place loose code = false

-- the head is a receive, and its queue has no payload at the place
abbrev pub is_missing : (Queue → ℕ → Option Payload) → Pid → Code → Option Pid → ℕ → Bool
is_missing waiting p (Recv c xs u ⨾ rest) sender k = is_none (waiting (queue (partner u) p c) k)
is_missing waiting p (RecvAny c xs v s b ⨾ rest) (Some w) k = is_none (waiting (queue w p c) k)
is_missing waiting p code sender k = false

-- a place is given, and the test holds of it
abbrev pub given_and : Option ℕ → (ℕ → Bool) → Bool
given_and None test = false
given_and (Some k) test = test k

-- the fault where the test fails, and otherwise that of the later tests
abbrev pub tested : Bool → StepFault → Option StepFault → Option StepFault
tested fails fault later = if fails then Some fault else later

-- the first of the tests on p's code that fails
abbrev pub refusal_at : View → Pid → Code → Option Pid → Option ℕ → Option StepFault
refusal_at v p code sender place =
    tested (is_done code) Finished
    (tested (takes_sender code && is_none sender) NeedsSender
    (tested (not (takes_sender code) && is_some sender) TakesNoSender
    (tested (is_outside v.sizes code sender) NoSuchSender
    (tested (takes_place v.loose code && is_none place) NeedsPlace
    (tested (not (takes_place v.loose code) && is_some place) TakesNoPlace
    (tested (is_missing v.waiting p code sender 0) Blocked
    (tested (given_and place (is_missing v.waiting p code sender)) NoSuchPlace None)))))))

-- the first of the tests on an event that fails, in the order of the faults
abbrev pub refusal : State → Event → Option StepFault
refusal s e =
    tested (not (is_process s.program s.sizes e.process)) NoProcess (refusal_at (seen_by s e.process) e.process (s.code e.process) e.sender e.place)

-- the first of the tests on a queue that fails
abbrev pub queue_refusal : Bool → (ℕ → Option Payload) → Option ℕ → Option StepFault
queue_refusal loose waiting place =
    tested (loose && is_none place) NeedsPlace
    (tested (not loose && is_some place) TakesNoPlace
    (tested (is_none (waiting 0)) Blocked
    (tested (given_and place (λ k. is_none (waiting k))) NoSuchPlace None)))
