-- Plain runs, and the schedules that deadlock or overtake.
use Rattle.std.specs.Prelude.{◌≡◌, ◌≢◌, ℕ, zero, suc, ◌+◌, Bool, false, not, List, [], ◌∷◌, ◌++◌, map, Option, Some, None, option_map, if◌then◌else◌, pos, filter, flat_map}
use Rattle.brisk_values.specs.declared.value.Kind.{Kind}
use Rattle.brisk_values.specs.declared.value.Kind.TheVariants as kind
use Rattle.brisk_values.specs.declared.value.Pid.{Pid}
use Rattle.brisk_values.specs.declared.value.Value.{Value}
use Rattle.brisk_values.specs.declared.value.Value.TheVariants as value
use Rattle.brisk_values.specs.Names.{Name, same_name, single}
use Rattle.brisk_syntax.specs.declared.program.EnumDecl.{EnumDecl}
use Rattle.brisk_syntax.specs.declared.program.Program.{Program}
use Rattle.brisk_syntax.specs.Declarations.{kind_in, role_named, decls_of, is_loose}
use Rattle.brisk_syntax.specs.Instance.{Instance}
use Rattle.brisk_syntax.specs.Syntax.{Recv, RecvAny, Repeat, Code, done, ◌⨾◌}
use Rattle.brisk_instance.specs.Given.{members}
use Rattle.brisk_async.specs.declared.event.Event.{Event}
use Rattle.brisk_async.specs.Machine.{State, start, step, run, IsDeadlocked}

-- the first tag of an enumeration
abbrev pub first_tag : List EnumDecl → Name → Name
first_tag [] e = []
first_tag (n ∷ ns) e = if same_name e n.name then first_of n.tags else first_tag ns e
  where
    first_of : List Name → Name
    first_of [] = []
    first_of (t ∷ ts) = t

-- the value of an input in a plain run: 0, false or the first tag
abbrev pub plain_value : List EnumDecl → Option Kind → Value
plain_value enums (Some kind.Int) = value.Int (pos 0)
plain_value enums (Some (kind.Enum e)) = value.Tag e (first_tag enums e)
plain_value enums k = value.Bool false

-- the instance of the plain run at size k: every set has this size
abbrev pub plain_instance : Program → ℕ → Instance
plain_instance P k = record {
  size = λ s. k;
  input = λ p x. plain_value P.enums (kind_in (decls_of (role_named P.roles p.role)) x);
}

-- the processes in the order of the plain run: the members of sets by declaration and number, and then the single roles
abbrev pub plain_order : Program → ℕ → List Pid
plain_order P k =
    flat_map (λ r. members r.name k) (filter (λ r. r.many) P.roles) ++ map (λ r. single r.name) (filter (λ r. not r.many) P.roles)

-- the place that the plain run gives on a channel: 0 on a loose one
abbrev pub plain_place : Bool → Option ℕ
plain_place loose = if loose then Some 0 else None

-- the events of p that the plain run tries in a state: for a receive from any those of all senders, the lowest first
abbrev pub plain_events : State → Pid → Code → List Event
plain_events s p (RecvAny c xs v set b ⨾ rest) =
    map (λ w. record { process = p; sender = Some w; place = plain_place (is_loose s.program.channels c) }) (members set (s.sizes set))
plain_events s p (Recv c xs u ⨾ rest) = record { process = p; sender = None; place = plain_place (is_loose s.program.channels c) } ∷ []
plain_events s p code = record { process = p; sender = None; place = None } ∷ []

-- the event with its next state, or else what was found
abbrev pub or_else : Event → Option State → Option (Event × State) → Option (Event × State)
or_else e None found = found
or_else e (Some t) found = Some (e, t)

-- the first of these events that has a next state, with this state
abbrev pub first_enabled : State → List Event → Option (Event × State)
first_enabled s [] = None
first_enabled s (e ∷ es) = or_else e (step s e) (first_enabled s es)

-- the event that the plain run takes in a state: that of the first process that has an enabled one
abbrev pub plain_next : List Pid → State → Option (Event × State)
plain_next order s = first_enabled s (flat_map (λ p. plain_events s p (s.code p)) order)

-- the event, and what follows from the next state
abbrev pub go_on : Option (Event × State) → (State → List Event) → List Event
go_on None more = []
go_on (Some f) more = f.0 ∷ more f.1

-- the plain run from a state, up to a terminal state or to so many events
abbrev pub plain_from : ℕ → List Pid → State → List Event
plain_from zero order s = []
plain_from (suc n) order s = go_on (plain_next order s) (plain_from n order)

-- the schedule of the plain run at size k
abbrev pub plain_schedule : Program → ℕ → List Event
plain_schedule P k = plain_from 100000 (plain_order P k) (start P (plain_instance P k))

-- the schedule leads from the start of the instance to a deadlocked state
abbrev pub Deadlocks : Program → Instance → List Event → Type 0
Deadlocks P i es = (t : State) × (run (start P i) es ≡ Some t) × IsDeadlocked t

-- a gather, and what stands behind it
pub record Gather : Type 0 where
  pub channel : Name
  pub variables : List Name
  pub binder : Name
  pub set : Name
  pub body : Code
  pub rest : Code

-- the code at the beginning of a turn of a gather
abbrev pub at_turn : Gather → ℕ → Code
at_turn g k = Repeat g.set k (RecvAny g.channel g.variables g.binder g.set g.body ⨾ done) ⨾ g.rest

-- the code at the receive of a turn, with the next turn behind it
abbrev pub at_receive : Gather → ℕ → Code
at_receive g k = RecvAny g.channel g.variables g.binder g.set g.body ⨾ at_turn g (k + 1)

-- the code of a process after a schedule
abbrev pub code_after : Program → Instance → List Event → Pid → Option Code
code_after P i es p = option_map (λ s. s.code p) (run (start P i) es)

-- The schedule runs, and in it two turns of one run of a gather take the same member: the process stands at the gather's
-- receive and takes, stands there again and takes from the same sender, and in between the gather isn't begun anew.
pub record Overtakes (P : Program) (i : Instance) (es : List Event) : Type 0 where
  pub end : State
  pub runs : run (start P i) es ≡ Some end
  pub gather : Gather
  pub first : Event
  pub second : Event
  pub same_process : second.process ≡ first.process
  pub same_sender : second.sender ≡ first.sender
  pub before : List Event
  pub between : List Event
  pub later : List Event
  pub parts : es ≡ before ++ first ∷ (between ++ second ∷ later)
  pub stands : (k : ℕ) × (code_after P i before first.process ≡ Some (at_receive gather k))
  pub stands_again : (k : ℕ) × (code_after P i (before ++ first ∷ between) first.process ≡ Some (at_receive gather k))
  pub one_run : (xs ys : List Event) → between ≡ xs ++ ys → code_after P i (before ++ first ∷ xs) first.process ≢ Some (at_turn gather 0)
