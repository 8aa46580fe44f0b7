-- What is answered for choices of a sequential program.
use Rattle.std.specs.Prelude.{◌≡◌, ℕ, List, codes, ◌⊎◌, Result, Ok, Err}
use Rattle.brisk_values.specs.Names.{Name}
use Rattle.brisk_instance.specs.Given.{instance_of}
use Rattle.brisk_schedule.specs.declared.format.Format.TheVariants as format
use Rattle.brisk_schedule.specs.declared.schedule.Choices.{Choices}
use Rattle.brisk_schedule.specs.Printing.{order_text}
use Rattle.brisk_schedule.specs.Texts.{AreChoicesFor, choices_text}
use Rattle.brisk_seq.specs.declared.tree.SeqProgram.{SeqProgram}
use Rattle.brisk_seq.specs.Running.{capped}
use Rattle.brisk_seq.specs.Sequential.{Stop, BadChoice, ChoicesLeft, Turns, BadBox, seq}
use Rattle.brisk_syntax.specs.Roles.{RoleText}
use Rattle.brisk_syntax.specs.Stores.{Store}
use Rattle.brisk_syntax.specs.Value.{size_in}
use Rattle.brisk_cli.specs.declared.status.Status.{Status}
use Rattle.brisk_cli.specs.declared.status.Status.TheVariants.{Done, Refused}
use Rattle.brisk_cli.specs.Files.{Text}
use Rattle.brisk_cli.specs.Formats.{IsUnfit}
use Rattle.brisk_cli.specs.Lines.{numbered}

-- the line of what stops a sequential program; the number of a move stays at the greatest of 64 bits
abbrev pub stop_text : Stop → Text
stop_text (BadChoice k) = numbered (codes "refused") (codes "BadChoice") k
stop_text ChoicesLeft = codes "refused ChoicesLeft\n"
stop_text Turns = codes "refused Turns\n"
stop_text (BadBox k) = numbered (codes "refused") (codes "BadBox") (capped k)

-- by how a sequential program ends: the store with which it halts, or what stops it
abbrev pub OfEnd : (Name → ℕ) → List RoleText → Result Store Stop → Status → Text → Type 0
OfEnd sizes roles (Ok store) status text = (status ≡ Done) × (text ≡ order_text sizes roles store)
OfEnd sizes roles (Err stop) status text = (status ≡ Refused) × (text ≡ stop_text stop)

-- the bytes are the text of choices for the sequential program, and how it ends on them is answered
pub record IsOrdered (Q : SeqProgram) (bytes : Text) (status : Status) (text : Text) : Type 0 where
  pub choices : Choices
  pub fits : AreChoicesFor Q.enums Q.roles choices
  pub is_text : bytes ≡ choices_text choices
  pub tells : OfEnd (size_in choices.instance.sizes) Q.roles (seq Q (instance_of choices.instance) choices.picks choices.turns) status text

-- the answer for the bytes of choices for a well-typed sequential program
abbrev pub OfChoices : SeqProgram → Text → Status → Text → Type 0
OfChoices Q bytes status text = IsUnfit format.Choices Q.enums Q.roles bytes status text ⊎ IsOrdered Q bytes status text
