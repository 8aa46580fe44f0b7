-- The instance of a plain run and its schedule, as they are made.
use Rattle.std.specs.Prelude.{[], ◌++◌, ◌≡◌, ℕ, List, map, filter, flat_map, not, Option, Some, option_map}
use Rattle.brisk_values.specs.declared.instance.Input.{Input}
use Rattle.brisk_values.specs.declared.instance.Instance.{Instance as Given}
use Rattle.brisk_values.specs.declared.value.Pid.{Pid}
use Rattle.brisk_values.specs.Names.{Name, single}
use Rattle.brisk_syntax.specs.declared.program.EnumDecl.{EnumDecl}
use Rattle.brisk_syntax.specs.declared.program.Program.{Program}
use Rattle.brisk_syntax.specs.Declarations.{is_loose}
use Rattle.brisk_syntax.specs.Instance.{Instance}
use Rattle.brisk_syntax.specs.Roles.{RoleText}
use Rattle.brisk_instance.specs.Given.{FitsAsGiven, instance_of, members}
use Rattle.brisk_async.specs.declared.event.Event.{Event}
use Rattle.brisk_async.specs.Machine.{State, start}
use Rattle.brisk_async.specs.PlainRuns.{Overtakes, plain_instance, plain_place, plain_schedule, plain_value}
use Rattle.brisk_schedule.specs.declared.schedule.Schedule.{Schedule}
use Rattle.brisk_instance.specs.Ordered.{Slot}

-- the instance fits, and starts as that of the plain run at size k
pub record IsPlain (P : Program) (k : ℕ) (g : Given) : Type 0 where
  pub fits : FitsAsGiven P.enums P.roles g
  pub starts : start P (instance_of g) ≡ start P (plain_instance P k)

-- the size of a set in a plain run
abbrev pub plain_size : ℕ → RoleText → Name × ℕ
plain_size k r = (r.name, k)

-- the input of a plain run at this place
abbrev pub plain_input : List EnumDecl → Slot → Input
plain_input enums s = record { process = s.process; variable = s.variable; value = plain_value enums (Some s.kind) }

-- the members of the sets
abbrev pub set_members : List RoleText → ℕ → List Pid
set_members roles k = flat_map (λ r. members r.name k) (filter (λ r. r.many) roles)

-- the single roles
abbrev pub singles : List RoleText → List Pid
singles roles = map (λ r. single r.name) (filter (λ r. not r.many) roles)

-- the event without the state to which it leads
abbrev pub event_in : Option (Event × State) → Option Event
event_in = option_map (λ f. f.0)

-- the event by which a process takes from a member
abbrev pub any_event : State → Pid → Name → Pid → Event
any_event s p c w = record { process = p; sender = Some w; place = plain_place (is_loose s.program.channels c) }

-- the events of a receive from any that the plain run tries, the lowest sender first
abbrev pub any_events : State → Pid → Name → Name → List Event
any_events s p c set = map (any_event s p c) (members set (s.sizes set))

-- the schedule is that of the plain run at size k
pub record IsPlainSchedule (P : Program) (k : ℕ) (s : Schedule) : Type 0 where
  pub instance : IsPlain P k s.instance
  pub events : s.events ≡ plain_schedule P k

-- the shortest front of a schedule that overtakes
pub record IsCut (P : Program) (i : Instance) (whole es : List Event) : Type 0 where
  pub front : (later : List Event) × (whole ≡ es ++ later)
  pub overtakes : Overtakes P i es
  pub earliest : (xs ys : List Event) → es ≡ xs ++ ys → Overtakes P i xs → ys ≡ []

-- the schedule is that of the plain run at size k up to the earliest receive that overtakes
pub record IsOvertakingSchedule (P : Program) (k : ℕ) (s : Schedule) : Type 0 where
  pub instance : IsPlain P k s.instance
  pub events : IsCut P (instance_of s.instance) (plain_schedule P k) s.events
