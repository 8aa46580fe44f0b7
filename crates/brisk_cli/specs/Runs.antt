-- What is answered for a schedule of a program.
use Rattle.std.specs.Prelude.{◌≡◌, ◌⊎◌}
use Rattle.brisk_async.specs.Machine.{State, start}
use Rattle.brisk_instance.specs.Given.{instance_of}
use Rattle.brisk_schedule.specs.declared.format.Format.TheVariants as format
use Rattle.brisk_schedule.specs.declared.played.Ended.{Ended}
use Rattle.brisk_schedule.specs.declared.played.Ended.TheVariants as ended
use Rattle.brisk_schedule.specs.declared.schedule.Schedule.{Schedule}
use Rattle.brisk_schedule.specs.Playing.{EndsSo}
use Rattle.brisk_schedule.specs.Printing.{IsPlayedText}
use Rattle.brisk_schedule.specs.Texts as texts
use Rattle.brisk_schedule.specs.Texts.{IsScheduleFor}
use Rattle.brisk_syntax.specs.declared.program.Program.{Program}
use Rattle.brisk_cli.specs.declared.status.Status.{Status}
use Rattle.brisk_cli.specs.declared.status.Status.TheVariants.{Done, Refused}
use Rattle.brisk_cli.specs.Files.{Text}
use Rattle.brisk_cli.specs.Formats.{IsUnfit}

-- refused where an event was refused, and otherwise done
abbrev pub status_of : Ended → Status
status_of (ended.Refused k why) = Refused
status_of how = Done

-- the bytes are the text of a schedule of the program, and how it ends on the machine is answered
pub record IsPlayed (P : Program) (bytes : Text) (status : Status) (text : Text) : Type 0 where
  pub schedule : Schedule
  pub fits : IsScheduleFor P.enums P.roles schedule
  pub is_text : bytes ≡ texts.schedule_text schedule
  pub how : Ended
  pub state : State
  pub ends : EndsSo (start P (instance_of schedule.instance)) schedule.events how state
  pub tells : IsPlayedText P how state text
  pub is_status : status ≡ status_of how

-- the answer for the bytes of a schedule of a well-typed program
abbrev pub OfSchedule : Program → Text → Status → Text → Type 0
OfSchedule P bytes status text = IsUnfit format.Schedule P.enums P.roles bytes status text ⊎ IsPlayed P bytes status text
