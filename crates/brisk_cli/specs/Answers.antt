-- What is answered for words and files.
use Rattle.std.specs.Prelude.{◌≡◌, ℕ, nat_eq, nat_le, Bool, true, false, IsTrue, List, [], length, take, codes, Option, Some, None, IfSome, Result, Ok, Err}
use Rattle.brisk_io.specs.Causes.{Files, Rose}
use Rattle.brisk_cli.specs.declared.answer.Answer.{Answer}
use Rattle.brisk_cli.specs.declared.answer.Stopped.{Stopped}
use Rattle.brisk_cli.specs.declared.answer.Stopped.TheVariants as stopped
use Rattle.brisk_cli.specs.declared.status.Status.{Status}
use Rattle.brisk_cli.specs.declared.status.Status.TheVariants.{Done, Refused, Usage, BadInput, NoFile, ReadFault, WriteFault, NoMemory}
use Rattle.brisk_cli.specs.Checks.{OfDerivation}
use Rattle.brisk_cli.specs.Commands.{Command, Rewrite, Derive, Check, Run, Order, Drill, command_of}
use Rattle.brisk_cli.specs.Drills.{OfDrill}
use Rattle.brisk_cli.specs.Files.{Text, Put}
use Rattle.brisk_cli.specs.Languages.{OfText, sources, sequences}
use Rattle.brisk_cli.specs.Lines.{file_line}
use Rattle.brisk_cli.specs.Orders.{OfChoices}
use Rattle.brisk_cli.specs.Rewriting.{OfDeriving, OfRewriting}
use Rattle.brisk_cli.specs.Runs.{OfSchedule}

-- the number with which the program ends
abbrev pub number_of : Status → ℕ
number_of Done = 0
number_of Refused = 1
number_of Usage = 2
number_of BadInput = 3
number_of NoFile = 4
number_of ReadFault = 4
number_of WriteFault = 5
number_of NoMemory = 6

-- ---- files

-- the greatest numbers of bytes of a source, of a sequential text or a derivation, and of a schedule or choices
abbrev pub source_limit : ℕ
source_limit = 1048576

abbrev pub sequential_limit : ℕ
sequential_limit = 16777216

abbrev pub schedule_limit : ℕ
schedule_limit = 4194304

-- by whether the bytes are few enough: what follows for them, or that the file is too long
abbrev pub OfSized : Bool → Text → Text → (Text → Status → Text → Type 0) → Status → Text → Type 0
OfSized true name bytes next status text = next bytes status text
OfSized false name bytes next status text = (status ≡ BadInput) × (text ≡ file_line name (codes "TooLong"))

-- the answer for a file, where it is said whether reading it failed, and this follows for its bytes
abbrev pub OfFile : ℕ → Text → Option Text → Bool → (Text → Status → Text → Type 0) → Status → Text → Type 0
OfFile limit name file true next status text = (status ≡ ReadFault) × (text ≡ file_line name (codes "Failed"))
OfFile limit name None false next status text = (status ≡ NoFile) × (text ≡ file_line name (codes "Missing"))
OfFile limit name (Some bytes) false next status text = OfSized (nat_le (length bytes) limit) name bytes next status text

-- the file isn't read, and this is answered; its read failed only if the folder's count of faults rose
pub record IsUnreadable (faults faults' limit : ℕ) (name : Text) (file : Option Text) (status : Status) (text : Text) : Type 0 where
  pub failed : Bool
  pub rose : IsTrue failed → Rose faults faults'
  pub answer : OfFile limit name file failed (λ bytes any_status any_text. ⊥) status text

-- the file at this place among the words' files is the one whose read failed
abbrev pub is_failed : ℕ → Option ℕ → Bool
is_failed place None = false
is_failed place (Some failed) = nat_eq place failed

-- ---- commands

-- `rewrite F`: the source is read and judged, and rewritten
abbrev pub OfRewrite : Text → Files → Option ℕ → Status → Text → Type 0
OfRewrite f files failed status text =
    OfFile source_limit f (files f) (is_failed 0 failed) (λ bytes. OfText sources bytes OfRewriting) status text

-- `derive F`: the source is read and judged, and its derivation is answered
abbrev pub OfDerive : Text → Files → Option ℕ → Status → Text → Type 0
OfDerive f files failed status text =
    OfFile source_limit f (files f) (is_failed 0 failed) (λ bytes. OfText sources bytes OfDeriving) status text

-- `check F SEQ DERIV`: the source is read and judged, then the sequential text is read, and then the derivation is read and judged
abbrev pub OfCheck : Text → Text → Text → Files → Option ℕ → Status → Text → Type 0
OfCheck f g h files failed status text =
    OfFile source_limit f (files f) (is_failed 0 failed) (λ bytes. OfText sources bytes (λ P.
    OfFile sequential_limit g (files g) (is_failed 1 failed) (λ sequential.
    OfFile sequential_limit h (files h) (is_failed 2 failed) (OfDerivation P sequential)))) status text

-- `run F SCHEDULE`: the source is read and judged, then the schedule is read and judged, and played
abbrev pub OfRun : Text → Text → Files → Option ℕ → Status → Text → Type 0
OfRun f g files failed status text =
    OfFile source_limit f (files f) (is_failed 0 failed) (λ bytes. OfText sources bytes (λ P. OfFile schedule_limit g (files g) (is_failed 1 failed) (OfSchedule P))) status text

-- `order SEQ CHOICES`: the sequential text is read and judged, then the choices are read and judged, and it is run on them
abbrev pub OfOrder : Text → Text → Files → Option ℕ → Status → Text → Type 0
OfOrder f g files failed status text =
    OfFile sequential_limit f (files f) (is_failed 0 failed) (λ bytes. OfText sequences bytes (λ Q. OfFile schedule_limit g (files g) (is_failed 1 failed) (OfChoices Q))) status text

-- the answer for words, where the files are told, and the place of the one whose read failed
abbrev pub OfWords : Option Command → Files → Option ℕ → Status → Text → Type 0
OfWords None files failed status text = (status ≡ Usage) × (text ≡ codes "usage\n")
OfWords (Some (Rewrite f)) files failed status text = OfRewrite f files failed status text
OfWords (Some (Derive f)) files failed status text = OfDerive f files failed status text
OfWords (Some (Check f g h)) files failed status text = OfCheck f g h files failed status text
OfWords (Some (Run f g)) files failed status text = OfRun f g files failed status text
OfWords (Some (Order f g)) files failed status text = OfOrder f g files failed status text
OfWords (Some (Drill n)) files failed status text = OfDrill n status text

-- an answer, where a read failed only if the folder's count of faults rose
pub record Replies (faults faults' : ℕ) (rule : Option ℕ → Status → Text → Type 0) (status : Status) (text : Text) : Type 0 where
  pub failed : Option ℕ
  pub rose : IfSome failed (λ place. Rose faults faults')
  pub answer : rule failed status text

-- ---- what is answered on the way

-- the rule holds of what is answered instead
abbrev pub IsTold : (Status → Text → Type 0) → Stopped → Type 0
IsTold rule (stopped.Told a) = rule a.status a.text.items
IsTold rule stopped.NoMemory = Unit {0}

-- the rule holds of what is answered
abbrev pub IfAnswer : (Status → Text → Type 0) → Result Answer Stopped → Type 0
IfAnswer rule (Ok a) = rule a.status a.text.items
IfAnswer rule (Err e) = IsTold rule e

-- the status may be answered for a command: NoFile and ReadFault only where the folder's counts rose, and never Usage,
-- WriteFault or NoMemory
abbrev pub IsDue : (misses misses' faults faults' : ℕ) → Status → Type 0
IsDue misses misses' faults faults' NoFile = Rose misses misses'
IsDue misses misses' faults faults' ReadFault = Rose faults faults'
IsDue misses misses' faults faults' Usage = ⊥
IsDue misses misses' faults faults' WriteFault = ⊥
IsDue misses misses' faults faults' NoMemory = ⊥
IsDue misses misses' faults faults' status = Unit {0}

-- the same for words, of which those without a form have the status Usage
abbrev pub IsDueFor : Option Command → (misses misses' faults faults' : ℕ) → Status → Type 0
IsDueFor None misses misses' faults faults' status = status ≡ Usage
IsDueFor (Some command) misses misses' faults faults' status = IsDue misses misses' faults faults' status

-- ---- what is written

-- the status is Usage exactly where the words have no form, unless the sink failed or memory ran out
abbrev pub IsServed : Option Command → Status → Type 0
IsServed command WriteFault = Unit {0}
IsServed command NoMemory = Unit {0}
IsServed None status = status ≡ Usage
IsServed (Some command) Usage = ⊥
IsServed (Some command) status = Unit {0}

-- the whole text was written, or where the sink failed some of its front
abbrev pub Wrote : Option Text → Option Text → Text → Status → Type 0
Wrote old new text WriteFault = (n : ℕ) × Put old new (take n text)
Wrote old new text status = Put old new text

-- the status is the answer's, unless the sink failed
abbrev pub IsUnlessWriteFault : Status → Status → Type 0
IsUnlessWriteFault answer WriteFault = Unit {0}
IsUnlessWriteFault answer status = status ≡ answer

-- an answer for the words, which is written; it says that a read failed only if the folder's count of faults rose
pub record IsAnswered (words : List Text) (files : Files) (faults faults' : ℕ) (old new : Option Text) (status : Status) : Type 0 where
  pub answer : Status
  pub text : Text
  pub tells : Replies faults faults' (OfWords (command_of words) files) answer text
  pub is_status : IsUnlessWriteFault answer status
  pub wrote : Wrote old new text status

-- an answer for the words is written; want of memory alone answers none, and then nothing is written
abbrev pub Answered : List Text → Option Files → (faults faults' : ℕ) → Option Text → Option Text → Status → Type 0
Answered words files faults faults' old new NoMemory = Put old new []
Answered words None faults faults' old new status = Unit {0}
Answered words (Some files) faults faults' old new status = IsAnswered words files faults faults' old new status
