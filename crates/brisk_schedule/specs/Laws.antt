-- What holds of the texts of schedules and of choices.
use Rattle.std.specs.Prelude.{◌≡◌, List}
use Rattle.brisk_syntax.specs.declared.program.EnumDecl.{EnumDecl}
use Rattle.brisk_syntax.specs.Roles.{RoleText}
use Rattle.brisk_instance.specs.Given.{AreApart}
use Rattle.brisk_schedule.specs.declared.fault.ScheduleFault.{ScheduleFault}
use Rattle.brisk_schedule.specs.declared.fault.ScheduleFault.TheVariants.{NoMemory}
use Rattle.brisk_schedule.specs.declared.format.Format.TheVariants as format
use Rattle.brisk_schedule.specs.declared.schedule.Schedule.{Schedule}
use Rattle.brisk_schedule.specs.declared.schedule.Choices.{Choices}
use Rattle.brisk_schedule.specs.Reading.{Fails}
use Rattle.brisk_schedule.specs.Texts.{AreChoicesFor, IsScheduleFor, choices_text, schedule_text}

-- the text of a schedule fails at no line
abbrev pub SchedulesStand : Type 0
SchedulesStand = (enums : List EnumDecl) (roles : List RoleText) (s : Schedule) (f : ScheduleFault) → AreApart roles → IsScheduleFor enums roles s → Fails format.Schedule enums roles (schedule_text s) f → f ≡ NoMemory

-- the text of choices fails at no line
abbrev pub ChoicesStand : Type 0
ChoicesStand = (enums : List EnumDecl) (roles : List RoleText) (c : Choices) (f : ScheduleFault) → AreApart roles → AreChoicesFor enums roles c → Fails format.Choices enums roles (choices_text c) f → f ≡ NoMemory

-- two schedules with one text are the same
abbrev pub SchedulesDiffer : Type 0
SchedulesDiffer = (enums : List EnumDecl) (roles : List RoleText) (s t : Schedule) → AreApart roles → IsScheduleFor enums roles s → IsScheduleFor enums roles t → schedule_text s ≡ schedule_text t → s ≡ t

-- two lists of choices with one text are the same
abbrev pub ChoicesDiffer : Type 0
ChoicesDiffer = (enums : List EnumDecl) (roles : List RoleText) (c d : Choices) → AreApart roles → AreChoicesFor enums roles c → AreChoicesFor enums roles d → choices_text c ≡ choices_text d → c ≡ d
