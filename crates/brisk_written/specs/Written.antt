-- Sequential programs as texts.
use Rattle.std.specs.Prelude.{◌≡◌, ℕ, List, Ok}
use Rattle.brisk_lex.specs.Tokens.{tokens, tokens_of}
use Rattle.brisk_parse.specs.SequenceSpelling.{LevelledSequence, sequence_spelling}
use Rattle.brisk_seq.specs.declared.tree.SeqProgram.{SeqProgram}

-- The text is one of the levelled sequential program: its tokens are the program's spelling.
pub record IsTextOf (text : List ℕ) (Q : SeqProgram) : Type 0 where
  pub levelled : LevelledSequence Q
  pub spelled : tokens_of (tokens text) ≡ Ok (sequence_spelling Q)
