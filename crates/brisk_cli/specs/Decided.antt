-- What is answered for the sources of straight programs and of stars.
use Rattle.std.specs.Prelude.{◌≡◌, ◌⊎◌, true, List, Option, Some, Ok}
use Rattle.brisk_io.specs.Causes.{Files}
use Rattle.brisk_lex.specs.declared.token.Placed.{Placed}
use Rattle.brisk_lex.specs.Tokens.{tokens}
use Rattle.brisk_parse.specs.Within.{Denotes}
use Rattle.brisk_syntax.specs.Classes.{is_star, is_straight}
use Rattle.brisk_syntax.specs.declared.program.Program.{Program}
use Rattle.brisk_syntax.specs.WellTyped.{IsProgramWellTyped}
use Rattle.brisk_cli.specs.declared.status.Status.{Status}
use Rattle.brisk_cli.specs.declared.status.Status.TheVariants.{Refused}
use Rattle.brisk_cli.specs.Commands.{Derive, Rewrite, command_of}
use Rattle.brisk_cli.specs.Files.{Text, Put}
use Rattle.brisk_cli.specs.Rewriting.{OfDeadlock, OfOvertaking}

-- The source holds a well-typed program. If that is straight, the text is a schedule into its deadlock; if it is a star, it is one, or a
-- schedule in which a member overtakes.
pub record IsDecided (source text : Text) : Type 0 where
  pub cut : List Placed
  pub cuts : tokens source ≡ Ok cut
  pub program : Program
  pub holds : Denotes cut program
  pub typed : IsProgramWellTyped program
  pub straight : is_straight program ≡ true → OfDeadlock program text
  pub star : is_star program ≡ true → OfDeadlock program text ⊎ OfOvertaking program text

-- the source that is there under this name is decided by what is written
abbrev pub IsRefusedFor : Files → Option Text → Option Text → Text → Type 0
IsRefusedFor files old new f = (source : Text) × (text : Text) × (files f ≡ Some source) × IsDecided source text × Put old new text

-- Where the status is that of a refusal and the words are `rewrite F` or `derive F`, F holds a program, and if that is straight or a star,
-- what is written shows why it has no derivation.
abbrev pub RefusalsAreShown : List Text → Option Files → Option Text → Option Text → Status → Type 0
RefusalsAreShown words (Some files) old new Refused =
    ((f : Text) → command_of words ≡ Some (Rewrite f) → IsRefusedFor files old new f) × ((f : Text) → command_of words ≡ Some (Derive f) → IsRefusedFor files old new f)
RefusalsAreShown words files old new status = Unit {0}
