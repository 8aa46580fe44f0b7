-- What is answered for a program that is to be rewritten, or whose derivation is asked for.
use Rattle.std.specs.Prelude.{◌≡◌, ◌⊎◌, ℕ, ◌+◌, ◌*◌, ◌^◌, ◌-◌, ◌++◌, min, true, Option, Some, None, codes}
use Rattle.brisk_instance.specs.Given.{instance_of}
use Rattle.brisk_syntax.specs.declared.program.Program.{Program}
use Rattle.brisk_syntax.specs.Classes.{is_star}
use Rattle.brisk_syntax.specs.Counts.{program_statements}
use Rattle.brisk_seq.specs.declared.tree.SeqProgram.{SeqProgram}
use Rattle.brisk_async.specs.PlainRuns.{Deadlocks, Overtakes, plain_instance, plain_schedule}
use Rattle.brisk_derivation.specs.declared.report.Report.{Report}
use Rattle.brisk_derivation.specs.Steps.{Steps}
use Rattle.brisk_derivtext.specs.Texts.{derivation_text}
use Rattle.brisk_print.specs.Layout.{sequential}
use Rattle.brisk_report.specs.Printing.{report_text}
use Rattle.brisk_schedule.specs.declared.schedule.Schedule.{Schedule}
use Rattle.brisk_schedule.specs.Texts.{schedule_text}
use Rattle.brisk_search.specs.Searched.{Searched, Sequenced, Stuck, Spent, searched}
use Rattle.brisk_trace.specs.Plain.{IsPlainSchedule, IsOvertakingSchedule}
use Rattle.brisk_cli.specs.declared.status.Status.{Status}
use Rattle.brisk_cli.specs.declared.status.Status.TheVariants.{Done, Refused}
use Rattle.brisk_cli.specs.Files.{Text}
use Rattle.brisk_cli.specs.Lines.{counted}

-- the plain run of a program at size one deadlocks, and this is its text
pub record OfDeadlock (P : Program) (text : Text) : Type 0 where
  pub schedule : Schedule
  pub is_plain : IsPlainSchedule P 1 schedule
  pub deadlocks : Deadlocks P (instance_of schedule.instance) schedule.events
  pub is_text : text ≡ codes "deadlock\n" ++ schedule_text schedule

-- the plain run of a program at size two overtakes, and this is its text, cut behind the earliest receive that does
pub record OfOvertaking (P : Program) (text : Text) : Type 0 where
  pub schedule : Schedule
  pub overtakes : IsOvertakingSchedule P 2 schedule
  pub is_text : text ≡ codes "overtaken\n" ++ schedule_text schedule

-- the plain run at size one doesn't deadlock
abbrev pub NeverDeadlocks : Program → Type 0
NeverDeadlocks P = Deadlocks P (plain_instance P 1) (plain_schedule P 1) → ⊥

-- the program is no star, or its plain run at size two doesn't overtake
abbrev pub NeverOvertakes : Program → Type 0
NeverOvertakes P = is_star P ≡ true → Overtakes P (plain_instance P 2) (plain_schedule P 2) → ⊥

-- the shipped budget of the search
abbrev pub budget_of : Program → ℕ
budget_of P = min (20000 + 64 * min (program_statements P) (2 ^ 64 - 1)) (2 ^ 64 - 1)

-- what is told where neither plain run shows why a program isn't rewritten: the report of a stuck search, or the spent budget
abbrev pub last_text : Program → Option Report → Text
last_text P None = counted (codes "budget") (budget_of P)
last_text P (Some R) = report_text P R

-- why a program whose plain run at size one doesn't deadlock isn't rewritten
abbrev pub OfStandstill : Program → Text → Text → Type 0
OfStandstill P last text = ((is_star P ≡ true) × OfOvertaking P text) ⊎ (NeverOvertakes P × (text ≡ last))

-- why a program isn't rewritten: what the plain runs show comes first, and this text last
abbrev pub OfRefusal : Program → Text → Status → Text → Type 0
OfRefusal P last status text = (status ≡ Refused) × (OfDeadlock P text ⊎ (NeverDeadlocks P × OfStandstill P last text))

-- the answer by what the search comes to: this text of a derivation and its sequential program, or why there is none
abbrev pub OfSearched : (Steps → SeqProgram → Text) → Program → Searched → Status → Text → Type 0
OfSearched done P (Sequenced D Q) status text = (status ≡ Done) × (text ≡ done D Q)
OfSearched done P (Stuck R) status text = OfRefusal P (last_text P (Some R)) status text
OfSearched done P Spent status text = OfRefusal P (last_text P None) status text

-- what the search comes to, with the shipped budget
abbrev pub search_of : Program → Searched
search_of P = searched P (budget_of P)

-- the answer for a well-typed program: the layout of its sequential program, or why there is none
abbrev pub OfRewriting : Program → Status → Text → Type 0
OfRewriting P = OfSearched (λ D Q. sequential Q) P (search_of P)

-- the answer where the derivation is asked for: its text, or why there is none
abbrev pub OfDeriving : Program → Status → Text → Type 0
OfDeriving P = OfSearched (λ D Q. derivation_text D) P (search_of P)

-- the answer where the search comes to no derivation, whatever is asked for
abbrev pub IsUnsequenced : Program → Status → Text → Type 0
IsUnsequenced P status text = (done : Steps → SeqProgram → Text) → OfSearched done P (search_of P) status text
