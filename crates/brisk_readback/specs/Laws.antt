-- What holds of the layouts.
use Rattle.std.specs.Prelude.{◌≡◌, List, Ok}
use Rattle.brisk_lex.specs.declared.token.Placed.{Placed}
use Rattle.brisk_lex.specs.Tokens.{tokens, tokens_of}
use Rattle.brisk_syntax.specs.declared.program.Program.{Program}
use Rattle.brisk_seq.specs.declared.tree.SeqProgram.{SeqProgram}
use Rattle.brisk_parse.specs.Levelled.{LevelledProgram}
use Rattle.brisk_parse.specs.Limits.{source, sequence}
use Rattle.brisk_parse.specs.SequenceSpelling.{sequence_spelling, LevelledSequence, SequenceWithin, DenotesSequence}
use Rattle.brisk_parse.specs.Spelling.{spelling}
use Rattle.brisk_parse.specs.Within.{Within, Denotes}
use Rattle.brisk_print.specs.Layout as layout
use Rattle.brisk_readback.specs.Legal.{AllLegal, IsWritable, IsWritableSequence}

-- the tokens of a layout are the spelling of its program
abbrev pub LayoutIsSpelled : Type 0
LayoutIsSpelled = (P : Program) → IsWritable P → tokens_of (tokens (layout.program P)) ≡ Ok (spelling P)

-- the program can be the program of a source: it is levelled, within the limits, and its names and numbers are legal
pub record IsSource (P : Program) : Type 0 where
  pub levelled : LevelledProgram P
  pub within : Within source P
  pub legal : AllLegal (spelling P)

-- a layout is a text of tokens, and these denote its program
abbrev pub LayoutDenotes : Type 0
LayoutDenotes = (P : Program) → IsSource P → (ts : List Placed) × (tokens (layout.program P) ≡ Ok ts) × Denotes ts P

-- two programs with one layout are the same
abbrev pub LayoutsDiffer : Type 0
LayoutsDiffer = (P Q : Program) → IsSource P → IsSource Q → layout.program P ≡ layout.program Q → P ≡ Q

-- the tokens of a sequential program's layout are its spelling
abbrev pub SequenceLayoutIsSpelled : Type 0
SequenceLayoutIsSpelled = (Q : SeqProgram) → IsWritableSequence Q → tokens_of (tokens (layout.sequential Q)) ≡ Ok (sequence_spelling Q)

-- the sequential program can be that of a sequential text: it is levelled, within the limits, and its names and numbers are legal
pub record IsSequenceText (Q : SeqProgram) : Type 0 where
  pub levelled : LevelledSequence Q
  pub within : SequenceWithin sequence Q
  pub legal : AllLegal (sequence_spelling Q)

-- a layout is a text of tokens, and these denote its sequential program
abbrev pub SequenceLayoutDenotes : Type 0
SequenceLayoutDenotes = (Q : SeqProgram) → IsSequenceText Q → (ts : List Placed) × (tokens (layout.sequential Q) ≡ Ok ts) × DenotesSequence ts Q

-- two sequential programs with one layout are the same
abbrev pub SequenceLayoutsDiffer : Type 0
SequenceLayoutsDiffer = (Q R : SeqProgram) → IsSequenceText Q → IsSequenceText R → layout.sequential Q ≡ layout.sequential R → Q ≡ R
