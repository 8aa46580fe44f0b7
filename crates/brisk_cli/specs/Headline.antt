-- The headline: what is written for a source, or is checked with it, is faithful to the processes that it holds.
use Rattle.std.specs.Prelude.{◌≡◌, List, Option, Some, Ok}
use Rattle.brisk_io.specs.Causes.{Files}
use Rattle.brisk_lex.specs.declared.token.Placed.{Placed}
use Rattle.brisk_lex.specs.Tokens.{tokens}
use Rattle.brisk_parse.specs.Within.{Denotes}
use Rattle.brisk_print.specs.Layout as layout
use Rattle.brisk_syntax.specs.declared.program.Program.{Program}
use Rattle.brisk_syntax.specs.WellTyped.{IsProgramWellTyped}
use Rattle.brisk_seq.specs.declared.tree.SeqProgram.{SeqProgram}
use Rattle.brisk_seq.specs.WellTyped.{IsSeqWellTyped}
use Rattle.brisk_rules.specs.Faithful.{Faithful}
use Rattle.brisk_written.specs.Written.{IsTextOf}
use Rattle.brisk_cli.specs.declared.status.Status.{Status}
use Rattle.brisk_cli.specs.declared.status.Status.TheVariants.{Done}
use Rattle.brisk_cli.specs.Commands.{Check, Rewrite, command_of}
use Rattle.brisk_cli.specs.Files.{Text, Put}

-- The source holds a well-typed program, and the text is the layout of a well-typed sequential program, and of no other, which
-- is faithful to it: no state of the processes that is reached is deadlocked, and the stores in which they halt are those in
-- which it halts.
pub record IsFaithful (source text : Text) : Type 0 where
  pub cut : List Placed
  pub cuts : tokens source ≡ Ok cut
  pub program : Program
  pub holds : Denotes cut program
  pub typed : IsProgramWellTyped program
  pub sequential : SeqProgram
  pub is_layout : text ≡ layout.sequential sequential
  pub is_text : IsTextOf text sequential
  pub alone : (other : SeqProgram) → IsTextOf text other → other ≡ sequential
  pub well_typed : IsSeqWellTyped sequential
  pub faithful : Faithful program sequential

-- the source that is there under this name is one to which what is written is faithful
abbrev pub IsRewritten : Files → Option Text → Option Text → Text → Type 0
IsRewritten files old new f = (source : Text) × (text : Text) × (files f ≡ Some source) × IsFaithful source text × Put old new text

-- the source that is there under the first name is one to which the text that is there under the second is faithful
abbrev pub IsConfirmed : Files → Text → Text → Type 0
IsConfirmed files f g = (source : Text) × (text : Text) × (files f ≡ Some source) × (files g ≡ Some text) × IsFaithful source text

-- Where the status is that of success and the words are `rewrite F`, what is written is faithful to F. Where they are
-- `check F SEQ DERIV`, what SEQ holds is faithful to F, whoever made the derivation.
abbrev pub Headline : List Text → Option Files → Option Text → Option Text → Status → Type 0
Headline words (Some files) old new Done =
    ((f : Text) → command_of words ≡ Some (Rewrite f) → IsRewritten files old new f) × ((f g h : Text) → command_of words ≡ Some (Check f g h) → IsConfirmed files f g)
Headline words files old new status = Unit {0}
