-- The texts of schedules and of choices: the lines of a tree, and which trees have a text.
use Rattle.std.specs.Prelude.{◌≡◌, ℕ, Bool, true, ◌||◌, List, [], ◌∷◌, ◌++◌, map, flat_map, Option, Some, None, option_map, codes, if◌then◌else◌, nat_eq}
use Rattle.std.specs.List.{AllByRecursion}
use Rattle.brisk_values.specs.declared.instance.Input.{Input as GivenInput}
use Rattle.brisk_values.specs.declared.instance.Instance.{Instance as Given}
use Rattle.brisk_values.specs.declared.value.Pid.{Pid}
use Rattle.brisk_values.specs.Names.{Name}
use Rattle.brisk_syntax.specs.declared.program.EnumDecl.{EnumDecl}
use Rattle.brisk_syntax.specs.Roles.{RoleText}
use Rattle.brisk_syntax.specs.Typing.{is_among}
use Rattle.brisk_instance.specs.Starting.{IsReady}
use Rattle.brisk_async.specs.declared.event.Event.{Event as Taken}
use Rattle.brisk_lines.specs.declared.line.Line.{Line}
use Rattle.brisk_lines.specs.declared.line.Line.TheVariants.{Schedule, Choices, Size, Input, Event, Turns, Choose, End}
use Rattle.brisk_lines.specs.declared.line.Process.{Process}
use Rattle.brisk_lines.specs.Lines.{line_text, IsLegal}
use Rattle.brisk_schedule.specs.declared.schedule.Schedule.{Schedule as ScheduleTree}
use Rattle.brisk_schedule.specs.declared.schedule.Choices.{Choices as ChoicesTree}

-- the sizes of an instance
abbrev pub Sizes : Type 0
Sizes = List (Name × ℕ)

-- there is a size for this role, so that it is a set
abbrev pub is_sized : Sizes → Name → Bool
is_sized sizes n = is_among (map (λ e. e.0) sizes) n

-- how a process is written: with its number where it is a member of a set
abbrev pub process_of : Bool → Pid → Process
process_of many p = record { role = p.role; member = if many then Some p.member else None }

-- the same, where the sets are those that have a size
abbrev pub written : Sizes → Pid → Process
written sizes p = process_of (is_sized sizes p.role) p

-- the line of a size
abbrev pub size_line : Name × ℕ → Line
size_line e = Size e.0 e.1

-- the line of an input
abbrev pub input_line : Sizes → GivenInput → Line
input_line sizes e = Input (written sizes e.process) e.variable e.value

-- the line of an event
abbrev pub event_line : Sizes → Taken → Line
event_line sizes e = Event (written sizes e.process) (option_map (written sizes) e.sender) e.place

-- the lines of an instance
abbrev pub instance_lines : Given → List Line
instance_lines g = map size_line g.sizes ++ map (input_line g.sizes) g.inputs

-- the lines of a schedule
abbrev pub schedule_lines : ScheduleTree → List Line
schedule_lines s = Schedule ∷ instance_lines s.instance ++ map (event_line s.instance.sizes) s.events ++ End ∷ []

-- the lines of choices
abbrev pub choices_lines : ChoicesTree → List Line
choices_lines c = Choices ∷ instance_lines c.instance ++ Turns c.turns ∷ map Choose c.picks ++ End ∷ []

-- the text of lines, each of which ends with byte 10
abbrev pub text_of_lines : List Line → List ℕ
text_of_lines ls = flat_map (λ l. line_text l ++ codes "\n") ls

-- the text of a schedule, and that of choices
abbrev pub schedule_text : ScheduleTree → List ℕ
schedule_text s = text_of_lines (schedule_lines s)

abbrev pub choices_text : ChoicesTree → List ℕ
choices_text c = text_of_lines (choices_lines c)

-- a process of a role without a size has the member 0, so that it is written without loss
abbrev pub is_told : Sizes → Pid → Bool
is_told sizes p = is_sized sizes p.role || nat_eq p.member 0

-- and so has a sender, if there is one
abbrev pub is_told_if : Sizes → Option Pid → Bool
is_told_if sizes None = true
is_told_if sizes (Some p) = is_told sizes p

-- the processes of the event are written without loss
abbrev pub IsTold : Sizes → Taken → Type 0
IsTold sizes e = (is_told sizes e.process ≡ true) × (is_told_if sizes e.sender ≡ true)

-- the schedule has a text for these roles: its lines are legal, its instance fits, and its events are written without loss
pub record IsScheduleFor (enums : List EnumDecl) (roles : List RoleText) (s : ScheduleTree) : Type 0 where
  pub legal : AllByRecursion IsLegal (schedule_lines s)
  pub ready : IsReady enums roles s.instance
  pub told : AllByRecursion (IsTold s.instance.sizes) s.events

-- the choices have a text for these roles
pub record AreChoicesFor (enums : List EnumDecl) (roles : List RoleText) (c : ChoicesTree) : Type 0 where
  pub legal : AllByRecursion IsLegal (choices_lines c)
  pub ready : IsReady enums roles c.instance
