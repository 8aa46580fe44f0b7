-- What the layouts of derived programs are texts of.
use Rattle.std.specs.Prelude.{◌≡◌, ℕ, List, Ok}
use Rattle.brisk_lex.specs.declared.token.Placed.{Placed}
use Rattle.brisk_lex.specs.Tokens.{tokens}
use Rattle.brisk_parse.specs.Within.{Denotes}
use Rattle.brisk_print.specs.Layout as layout
use Rattle.brisk_syntax.specs.declared.program.Program.{Program}
use Rattle.brisk_syntax.specs.WellTyped.{IsProgramWellTyped}
use Rattle.brisk_seq.specs.declared.tree.SeqProgram.{SeqProgram}
use Rattle.brisk_derivation.specs.Steps.{Steps}
use Rattle.brisk_rules.specs.Derives.{Valid}
use Rattle.brisk_written.specs.Written.{IsTextOf}

-- Where a source holds the well-typed program, the layout of each valid derivation's sequential program is a text of it.
abbrev pub ValidIsWritten : Type 0
ValidIsWritten =
    (source : List ℕ) (cut : List Placed) (P : Program) (D : Steps) (Q : SeqProgram) → tokens source ≡ Ok cut → Denotes cut P → IsProgramWellTyped P → Valid P D Q → IsTextOf (layout.sequential Q) Q

-- So a text is one of at most one sequential program.
abbrev pub SpellingsDetermine : Type 0
SpellingsDetermine = (text : List ℕ) (Q R : SeqProgram) → IsTextOf text Q → IsTextOf text R → Q ≡ R
