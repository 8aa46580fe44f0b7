-- The machine: processes that take one statement step at a time, with a queue for each sender, receiver and channel.
use Rattle.std.specs.Prelude.{◌≡◌, ℕ, zero, suc, ◌+◌, Bool, false, true, ◌&&◌, List, [], ◌∷◌, ◌++◌, map, Option, Some, None, option_map, option_and_then, if◌then◌else◌, nat_lt}
use Rattle.brisk_values.specs.declared.value.Pid.{Pid}
use Rattle.brisk_values.specs.declared.value.Value.{Value}
use Rattle.brisk_values.specs.Functions.{changed}
use Rattle.brisk_values.specs.Names.{Name, same_name, same_process, single, member}
use Rattle.brisk_syntax.specs.declared.program.Program.{Program}
use Rattle.brisk_syntax.specs.declared.tree.Who.{Who}
use Rattle.brisk_syntax.specs.declared.tree.Who.TheVariants as who
use Rattle.brisk_syntax.specs.Declarations.{code_in, is_loose}
use Rattle.brisk_syntax.specs.Instance.{Instance, role_of, set_sizes, start_store}
use Rattle.brisk_syntax.specs.Stores.{Store, stored, is_true}
use Rattle.brisk_syntax.specs.Substitution.{code_with}
use Rattle.brisk_syntax.specs.Syntax.{Assign, Send, Recv, RecvAny, If, IfElse, While, For, Repeat, Code, done, ◌⨾◌, ◌then◌}
use Rattle.brisk_syntax.specs.Value.{value_of}
use Rattle.brisk_async.specs.declared.event.Event.{Event}

-- the queue of a sender, a receiver and a channel
pub record Queue : Type 0 where
  pub from : Pid
  pub to : Pid
  pub channel : Name

-- the two queues are the same
abbrev pub same_queue : Queue → Queue → Bool
same_queue a b = same_process a.from b.from && same_process a.to b.to && same_name a.channel b.channel

-- the queue from u to p on the channel c
abbrev pub queue : Pid → Pid → Name → Queue
queue u p c = record { from = u; to = p; channel = c }

-- what one message carries
abbrev pub Payload : Type 0
Payload = List Value

-- each queue's payloads in the order of sending, the oldest first
abbrev pub Mail : Type 0
Mail = Queue → List Payload

-- the program and the sizes, which no event changes; each process's code, which is empty where there is no such process;
-- the store; and the mail
pub record State : Type 0 where
  pub program : Program
  pub sizes : Name → ℕ
  pub code : Pid → Code
  pub store : Store
  pub mail : Mail

-- the start of an instance: each role's code, the declared and given values, and empty mail
abbrev pub start : Program → Instance → State
start P i = record {
  program = P;
  sizes = set_sizes P.roles i;
  code = λ p. code_in (role_of P.roles i p);
  store = start_store P.roles i;
  mail = λ q. [];
}

-- the process for which a partner stands; a member in focus stands in no running code
abbrev pub partner : Who → Pid
partner (who.Name n) = single n
partner (who.At s) = single s
partner (who.Pid p) = p

-- the process is a member of the set
abbrev pub is_member : (Name → ℕ) → Name → Pid → Bool
is_member sizes set w = same_name set w.role && nat_lt w.member (sizes set)

-- the payload at a place, counted from 0 at the oldest
abbrev pub payload_at : List Payload → ℕ → Option Payload
payload_at [] k = None
payload_at (m ∷ ms) zero = Some m
payload_at (m ∷ ms) (suc k) = payload_at ms k

-- the payloads but the one at this place, in their order
abbrev pub without : List Payload → ℕ → List Payload
without [] k = []
without (m ∷ ms) zero = ms
without (m ∷ ms) (suc k) = m ∷ without ms k

-- what an event does to the mail
pub data Change : Type 0 where
  unchanged : Change
  appended : (q : Queue) (m : Payload) → Change
  taken : (q : Queue) (k : ℕ) → Change

-- the mail after a change
abbrev pub changed_mail : Change → Mail → Mail
changed_mail unchanged mail = mail
changed_mail (appended q m) mail = changed same_queue mail q (mail q ++ m ∷ [])
changed_mail (taken q k) mail = changed same_queue mail q (without (mail q) k)

-- what an event of a process does: its next code, the variables that it stores with their values, and the mail
pub record Effect : Type 0 where
  pub next : Code
  pub variables : List Name
  pub values : Payload
  pub mail : Change

-- what an event of a process looks at: the sizes, the loose channels, the process's variables, and the payloads that wait
pub record View : Type 0 where
  pub sizes : Name → ℕ
  pub loose : Name → Bool
  pub own : Name → Option Value
  pub waiting : Queue → ℕ → Option Payload

-- nothing but the code changes
abbrev pub goes_to : Code → Option Effect
goes_to next = Some record { next = next; variables = []; values = []; mail = unchanged }

-- the payload at place k of the queue, if there is one, is taken and stored
abbrev pub takes : Queue → List Name → Code → ℕ → Option Payload → Option Effect
takes q xs next k None = None
takes q xs next k (Some m) = Some record { next = next; variables = xs; values = m; mail = taken q k }

-- the place from which a receive takes: the oldest on a strict channel, where no place is given, and the given place on a loose one
abbrev pub place_of : Bool → Option ℕ → Option ℕ
place_of false None = Some 0
place_of true (Some k) = Some k
place_of loose place = None

-- a receive takes from the queue at its place
abbrev pub receives : View → Queue → List Name → Code → Option ℕ → Option Effect
receives v q xs next place = option_and_then (λ k. takes q xs next k (v.waiting q k)) (place_of (v.loose q.channel) place)

-- What an event of p does, from what it looks at, p's code, and the sender and the place if they are given. Only a
-- receive from any takes a sender, and only a receive on a loose channel a place.
abbrev pub effect : View → Pid → Code → Option Pid → Option ℕ → Option Effect
effect v p (Assign x e ⨾ rest) None None =
    Some record { next = rest; variables = x ∷ []; values = value_of v.sizes v.own e ∷ []; mail = unchanged }
effect v p (Send c es u ⨾ rest) None None =
    Some record { next = rest; variables = []; values = []; mail = appended (queue p (partner u) c) (map (value_of v.sizes v.own) es) }
effect v p (Recv c xs u ⨾ rest) None place = receives v (queue (partner u) p c) xs rest place
effect v p (RecvAny c xs b s a ⨾ rest) (Some w) place =
    if is_member v.sizes s w then receives v (queue w p c) xs (code_with b (who.Pid w) a then rest) place else None
effect v p (If e a ⨾ rest) None None = goes_to (if is_true (value_of v.sizes v.own e) then a then rest else rest)
effect v p (IfElse e a b ⨾ rest) None None = goes_to ((if is_true (value_of v.sizes v.own e) then a else b) then rest)
effect v p (While e a ⨾ rest) None None = goes_to (if is_true (value_of v.sizes v.own e) then a then (While e a ⨾ rest) else rest)
effect v p (For b s k a ⨾ rest) None None =
    goes_to (if nat_lt k (v.sizes s) then code_with b (who.Pid (member s k)) a then (For b s (k + 1) a ⨾ rest) else rest)
effect v p (Repeat s k a ⨾ rest) None None = goes_to (if nat_lt k (v.sizes s) then a then (Repeat s (k + 1) a ⨾ rest) else rest)
effect v p code sender place = None

-- what p's events look at in a state
abbrev pub seen_by : State → Pid → View
seen_by s p = record { sizes = s.sizes; loose = is_loose s.program.channels; own = s.store p; waiting = λ q. payload_at (s.mail q) }

-- what an event does in a state
abbrev pub effect_in : State → Event → Option Effect
effect_in s e = effect (seen_by s e.process) e.process (s.code e.process) e.sender e.place

-- the state after p's effect
abbrev pub after : State → Pid → Effect → State
after s p x = record {
  program = s.program;
  sizes = s.sizes;
  code = changed same_process s.code p x.next;
  store = stored s.store p x.variables x.values;
  mail = changed_mail x.mail s.mail;
}

-- the next state, or none
abbrev pub step : State → Event → Option State
step s e = option_map (after s e.process) (effect_in s e)

-- the state to which the events lead in order, and none at the first that has no next state
abbrev pub run : State → List Event → Option State
run s [] = Some s
run s (e ∷ es) = option_and_then (λ t. run t es) (step s e)

-- a schedule leads from the one state to the other
abbrev pub Reaches : State → State → Type 0
Reaches s t = (es : List Event) × (run s es ≡ Some t)

-- all codes are empty
abbrev pub IsHalted : State → Type 0
IsHalted s = (p : Pid) → s.code p ≡ done

-- no event has a next state
abbrev pub IsTerminal : State → Type 0
IsTerminal s = (e : Event) → step s e ≡ None

-- terminal and not halted
abbrev pub IsDeadlocked : State → Type 0
IsDeadlocked s = IsTerminal s × (IsHalted s → ⊥)
