-- What is answered for a text of one of the two languages: its first fault, or what follows for a well-typed tree.
use Rattle.std.specs.Prelude.{◌≡◌, ℕ, List, length, codes, Some, Result, Ok, Err}
use Rattle.brisk_lex.specs.declared.token.Placed.{Placed}
use Rattle.brisk_lex.specs.declared.fault.LexFault.{LexFault}
use Rattle.brisk_lex.specs.Tokens.{tokens}
use Rattle.brisk_parse.specs.declared.fault.ParseFault.{ParseFault}
use Rattle.brisk_parse.specs.declared.fault.Stop.{Stop}
use Rattle.brisk_parse.specs.Answers.{Read, IsAnswer, IsSequence}
use Rattle.brisk_parse.specs.Declarations.{program}
use Rattle.brisk_parse.specs.Limits.{source, sequence}
use Rattle.brisk_parse.specs.Sequences.{sequential}
use Rattle.brisk_types.specs.Declarations.{failures}
use Rattle.brisk_types.specs.Failures.{Failures, IsChecked}
use Rattle.brisk_types.specs.Sequences.{seq_failures}
use Rattle.brisk_types.specs.declared.fault.TypeFault.{TypeFault}
use Rattle.brisk_syntax.specs.declared.program.Program.{Program}
use Rattle.brisk_seq.specs.declared.tree.SeqProgram.{SeqProgram}
use Rattle.brisk_cli.specs.declared.status.Status.{Status}
use Rattle.brisk_cli.specs.declared.status.Status.TheVariants.{BadInput}
use Rattle.brisk_cli.specs.Files.{Text}
use Rattle.brisk_cli.specs.Lines.{lex_line, parse_line, type_line}

-- trees, the word with which the faults of their texts are told, what tokens are read as, which answers to reading are
-- right, and which typing rules fail
pub record Language : Type 1 where
  pub Tree : Type 0
  pub word : Text
  pub reads : List Placed → Result Tree Stop
  pub IsRead : List Placed → Result Tree ParseFault → Type 0
  pub failures : Tree → Failures

-- the programs of sources
abbrev pub sources : Language
sources = record { Tree = Program; word = codes "source"; reads = program source; IsRead = IsAnswer; failures = failures }

-- the sequential programs of sequential texts
abbrev pub sequences : Language
sequences = record { Tree = SeqProgram; word = codes "sequential"; reads = sequential sequence; IsRead = IsSequence; failures = seq_failures }

-- by how the tree is typed: what follows, or the first failure
abbrev pub OfTyping : Text → List Placed → ℕ → Result (Unit {0}) TypeFault → (Status → Text → Type 0) → Status → Text → Type 0
OfTyping word ts end (Ok typed) next status text = next status text
OfTyping word ts end (Err fault) next status text = (status ≡ BadInput) × (type_line word ts end fault ≡ Some text)

-- the answer for a tree with these tokens: it is well typed, or its first failure is told
pub record OfTree (L : Language) (ts : List Placed) (end : ℕ) (next : L.Tree → Status → Text → Type 0) (tree : L.Tree) (status : Status) (text : Text) : Type 0 where
  pub typing : Result (Unit {0}) TypeFault
  pub checked : IsChecked (L.failures tree) typing
  pub answered : OfTyping L.word ts end typing (next tree) status text

-- by what tokens are read as: what follows for the tree, or the first fault
abbrev pub OfReading : {Tree : Type 0} → Text → List Placed → ℕ → Result Tree ParseFault → (Tree → Status → Text → Type 0) → Status → Text → Type 0
OfReading word ts end (Ok tree) next status text = next tree status text
OfReading word ts end (Err fault) next status text = (status ≡ BadInput) × (parse_line word ts end fault ≡ Some text)

-- the answer for tokens: they are read as the tree that they denote, or as the first fault
pub record OfTokens (L : Language) (end : ℕ) (next : L.Tree → Status → Text → Type 0) (ts : List Placed) (status : Status) (text : Text) : Type 0 where
  pub reading : Result L.Tree ParseFault
  pub read : Read (length ts) (L.reads ts) reading
  pub answer : L.IsRead ts reading
  pub answered : OfReading L.word ts end reading (OfTree L ts end next) status text

-- the tokens that are cut off, or the first fault
abbrev pub OfCut : Text → Result (List Placed) LexFault → (List Placed → Status → Text → Type 0) → Status → Text → Type 0
OfCut word (Ok ts) next status text = next ts status text
OfCut word (Err fault) next status text = (status ≡ BadInput) × (lex_line word fault ≡ Some text)

-- the answer for the bytes of a text, where this follows for the well-typed tree that it holds
abbrev pub OfText : (L : Language) → Text → (L.Tree → Status → Text → Type 0) → Status → Text → Type 0
OfText L bytes next status text = OfCut L.word (tokens bytes) (OfTokens L (length bytes) next) status text

-- the bytes hold this well-typed tree
pub record Holds (L : Language) (bytes : Text) (tree : L.Tree) : Type 0 where
  pub cut : List Placed
  pub cuts : tokens bytes ≡ Ok cut
  pub read : Read (length cut) (L.reads cut) (Ok tree)
  pub answer : L.IsRead cut (Ok tree)
  pub typed : IsChecked (L.failures tree) (Ok tt)

-- the bytes hold no well-typed tree, and this is answered
abbrev pub IsFaulty : Language → Text → Status → Text → Type 0
IsFaulty L bytes status text = OfText L bytes (λ tree any_status any_text. ⊥) status text

-- no tokens can be cut off, and this is answered
abbrev pub IsCutWrong : Text → Result (List Placed) LexFault → Status → Text → Type 0
IsCutWrong word cut status text = OfCut word cut (λ ts any_status any_text. ⊥) status text
