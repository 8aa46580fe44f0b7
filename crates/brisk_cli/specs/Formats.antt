-- What is answered for bytes that are no schedule or no choices.
use Rattle.std.specs.Prelude.{◌≡◌, List, codes, Some}
use Rattle.brisk_schedule.specs.declared.fault.ScheduleFault.{ScheduleFault}
use Rattle.brisk_schedule.specs.declared.format.Format.{Format}
use Rattle.brisk_schedule.specs.declared.format.Format.TheVariants as format
use Rattle.brisk_schedule.specs.Reading.{Fails}
use Rattle.brisk_syntax.specs.declared.program.EnumDecl.{EnumDecl}
use Rattle.brisk_syntax.specs.Roles.{RoleText}
use Rattle.brisk_cli.specs.declared.status.Status.{Status}
use Rattle.brisk_cli.specs.declared.status.Status.TheVariants.{BadInput}
use Rattle.brisk_cli.specs.Files.{Text}
use Rattle.brisk_cli.specs.Lines.{schedule_line}

-- the word with which faults of the format are told
abbrev pub word_of : Format → Text
word_of format.Schedule = codes "schedule"
word_of format.Choices = codes "choices"

-- the bytes aren't a text of the format for these declarations, and the line of their fault is answered
pub record IsUnfit (f : Format) (enums : List EnumDecl) (roles : List RoleText) (bytes : Text) (status : Status) (text : Text) : Type 0 where
  pub fault : ScheduleFault
  pub fails : Fails f enums roles bytes fault
  pub line : schedule_line (word_of f) fault ≡ Some text
  pub bad : status ≡ BadInput
