-- What schedules do, as laws of the machine.
use Rattle.std.specs.Prelude.{◌≡◌, ◌⊎◌, ℕ, ◌+◌, false, true, not, Bool, List, [], ◌∷◌, ◌++◌, Option, Some, None, option_and_then, if◌then◌else◌}
use Rattle.brisk_values.specs.declared.value.Pid.{Pid}
use Rattle.brisk_values.specs.Functions.{changed}
use Rattle.brisk_values.specs.Names.{Name, same_process}
use Rattle.brisk_syntax.specs.declared.tree.Who.TheVariants as who
use Rattle.brisk_syntax.specs.Declarations.{is_loose}
use Rattle.brisk_syntax.specs.Substitution.{code_with}
use Rattle.brisk_syntax.specs.Syntax.{Recv, RecvAny, Code, ◌⨾◌, ◌then◌}
use Rattle.brisk_async.specs.declared.event.Event.{Event}
use Rattle.brisk_async.specs.Machine.{State, run, step, IsTerminal, is_member}

-- to run two lists of events is to run the one and then the other
abbrev pub RunAppends : Type 0
RunAppends = (s : State) (xs ys : List Event) → run s (xs ++ ys) ≡ option_and_then (λ t. run t ys) (run s xs)

-- enabled events of two processes stay enabled after each other, and lead to the same state in either order
abbrev pub Diamond : Type 0
Diamond =
    (s t t' : State) (e f : Event) → same_process e.process f.process ≡ false → step s e ≡ Some t → step s f ≡ Some t' →
    (u : State) × (step t f ≡ Some u) × (step t' e ≡ Some u)

-- the event of a process without a sender and without a place
abbrev pub plain_event : Pid → Event
plain_event p = record { process = p; sender = None; place = None }

-- the head is no receive from any, and no receive on a loose channel
abbrev pub is_plain : (Name → Bool) → Code → Bool
is_plain loose (Recv c xs u ⨾ rest) = not (loose c)
is_plain loose (RecvAny c xs v s b ⨾ rest) = false
is_plain loose code = true

-- a process at such a head has one event, the plain one, and no process at another head has it
pub record OneEvent : Type 0 where
  pub plain : (s t : State) (e : Event) → is_plain (is_loose s.program.channels) (s.code e.process) ≡ true → step s e ≡ Some t →
      e ≡ plain_event e.process
  pub only_there : (s t : State) (p : Pid) → step s (plain_event p) ≡ Some t → is_plain (is_loose s.program.channels) (s.code p) ≡ true

-- the number of events of a process
abbrev pub count : Pid → List Event → ℕ
count p [] = 0
count p (e ∷ es) = (if same_process p e.process then 1 else 0) + count p es

-- In a schedule to a terminal state an enabled plain event can be moved to the front: what is left leads from its next
-- state to the same end, and has as many events of each process, but one less of this one.
abbrev pub Front : Type 0
Front =
    (s t u : State) (p : Pid) (es : List Event) → step s (plain_event p) ≡ Some t → run s es ≡ Some u → IsTerminal u →
    (left : List Event) × (run t left ≡ Some u) × ((q : Pid) → count q es ≡ count q (plain_event p ∷ left))

-- a receive from any, and what stands behind it
pub record AnyReceive : Type 0 where
  pub channel : Name
  pub variables : List Name
  pub binder : Name
  pub set : Name
  pub body : Code
  pub rest : Code

-- the code that stands at it
abbrev pub any_code : AnyReceive → Code
any_code a = RecvAny a.channel a.variables a.binder a.set a.body ⨾ a.rest

-- the same with the sender w named
abbrev pub named_code : AnyReceive → Pid → Code
named_code a w = Recv a.channel a.variables (who.Pid w) ⨾ (code_with a.binder (who.Pid w) a.body then a.rest)

-- the state, but p's receive from any names the sender w
abbrev pub named : AnyReceive → Pid → Pid → State → State
named a p w s = record s { code = changed same_process s.code p (named_code a w) }

-- the event by which p receives from any
abbrev pub from_any : Pid → Pid → Option ℕ → Event
from_any p w place = record { process = p; sender = Some w; place = place }

-- the event by which it receives where the sender is named
abbrev pub from_named : Pid → Option ℕ → Event
from_named p place = record { process = p; sender = None; place = place }

-- p's first event takes from some member, and with the sender struck out the schedule leads from where it is named to the same end
pub record Takes (a : AnyReceive) (p : Pid) (s : State) (es : List Event) (z : State) : Type 0 where
  pub before : List Event
  pub from : Pid
  pub place : Option ℕ
  pub later : List Event
  pub parts : es ≡ before ++ from_any p from place ∷ later
  pub first : count p before ≡ 0
  pub inside : is_member s.sizes a.set from ≡ true
  pub runs : run (named a p from s) (before ++ from_named p place ∷ later) ≡ Some z

-- p has no event, and the schedule ends in a terminal state also where any member is named
pub record Waits (a : AnyReceive) (p : Pid) (s : State) (es : List Event) (z : State) : Type 0 where
  pub none : count p es ≡ 0
  pub runs : (w : Pid) → run (named a p w s) es ≡ Some (named a p w z)
  pub terminal : (w : Pid) → is_member s.sizes a.set w ≡ true → IsTerminal (named a p w z)

-- a schedule to a terminal state, from where p stands at a receive from any, takes some member's message or waits
abbrev pub NamedHead : Type 0
NamedHead =
    (a : AnyReceive) (p : Pid) (s : State) (es : List Event) (z : State) → s.code p ≡ any_code a → run s es ≡ Some z → IsTerminal z →
    Takes a p s es z ⊎ Waits a p s es z

-- the reverse: a schedule from where a member is named leads to the same end when p's first event carries this sender
abbrev pub NamedBack : Type 0
NamedBack =
    (a : AnyReceive) (p w : Pid) (place : Option ℕ) (s : State) (before later : List Event) (z : State) → s.code p ≡ any_code a →
    is_member s.sizes a.set w ≡ true → count p before ≡ 0 → run (named a p w s) (before ++ from_named p place ∷ later) ≡ Some z →
    run s (before ++ from_any p w place ∷ later) ≡ Some z
