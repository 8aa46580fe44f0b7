-- What the definitions say together.
use Rattle.std.specs.Prelude.{◌≡◌, length}
use Rattle.brisk_syntax.specs.declared.program.Program.{Program}
use Rattle.brisk_syntax.specs.Tokens.{program_tokens}
use Rattle.brisk_seq.specs.declared.tree.SeqProgram.{SeqProgram}
use Rattle.brisk_seq.specs.Tokens.{seq_tokens}
use Rattle.brisk_parse.specs.SequenceSpelling.{sequence_spelling}
use Rattle.brisk_parse.specs.Spelling.{spelling}

-- a program's spelling has as many tokens as are counted
abbrev pub SpellingIsCounted : Type 0
SpellingIsCounted = (P : Program) → length (spelling P) ≡ program_tokens P

-- a sequential program's spelling has as many tokens as are counted
abbrev pub SequenceIsCounted : Type 0
SequenceIsCounted = (Q : SeqProgram) → length (sequence_spelling Q) ≡ seq_tokens Q
