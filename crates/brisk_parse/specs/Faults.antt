-- Which token is at fault.
use Rattle.std.specs.Prelude.{◌≡◌, ℕ, ◌≤◌, List, [], ◌∷◌, ◌++◌, length}
use Rattle.brisk_lex.specs.declared.token.Token.{Token}
use Rattle.brisk_syntax.specs.declared.program.Program.{Program}
use Rattle.brisk_seq.specs.declared.tree.SeqProgram.{SeqProgram}
use Rattle.brisk_parse.specs.declared.fault.ParseFault.{ParseFault}
use Rattle.brisk_parse.specs.declared.fault.ParseFault.TheVariants.{SyntaxFault, TooDeep, TooMany, NoMemory}
use Rattle.brisk_parse.specs.Levelled.{LevelledProgram}
use Rattle.brisk_parse.specs.Limits.{source, sequence}
use Rattle.brisk_parse.specs.Passing as passing
use Rattle.brisk_parse.specs.Passing.{Passing, Nowhere, DeepAt, ManyAt}
use Rattle.brisk_parse.specs.SequencePassing as sequence_passing
use Rattle.brisk_parse.specs.SequenceSpelling.{sequence_spelling, LevelledSequence}
use Rattle.brisk_parse.specs.Spelling.{spelling}

-- trees with their tokens, those that are levelled, and where each passes a limit first
pub record Language : Type 1 where
  pub Tree : Type 0
  pub spelling : Tree → List Token
  pub Levelled : Tree → Type 0
  pub passing : Tree → Passing

-- programs of a source
abbrev pub programs : Language
programs = record { Tree = Program; spelling = spelling; Levelled = LevelledProgram; passing = passing.program source }

-- sequential programs of a sequential text
abbrev pub sequences : Language
sequences = record { Tree = SeqProgram; spelling = sequence_spelling; Levelled = LevelledSequence; passing = sequence_passing.sequence sequence }

-- the spelling of a levelled tree, which may pass all limits, begins with these tokens
pub record Begins (L : Language) (front : List Token) : Type 0 where
  pub tree : L.Tree
  pub more : List Token
  pub levelled : L.Levelled tree
  pub spelled : L.spelling tree ≡ front ++ more

-- the tokens are the spelling of a levelled tree
pub record IsSpelled (L : Language) (tokens : List Token) : Type 0 where
  pub tree : L.Tree
  pub levelled : L.Levelled tree
  pub spelled : L.spelling tree ≡ tokens

-- nothing goes on with the next token, or ends there where there is none
abbrev pub IsStuck : Language → List Token → List Token → Type 0
IsStuck L front [] = IsSpelled L front → ⊥
IsStuck L front (t ∷ rest) = Begins L (front ++ t ∷ []) → ⊥

-- no limit is passed at the first k tokens
abbrev pub PassesLater : ℕ → Passing → Type 0
PassesLater k Nowhere = Unit {0}
PassesLater k (DeepAt n) = k ≤ n
PassesLater k (ManyAt n) = k ≤ n

-- the first k tokens begin a spelling and pass no limit, and nothing goes on with token k
pub record IsSyntaxFault (L : Language) (tokens : List Token) (k : ℕ) : Type 0 where
  pub front : List Token
  pub rest : List Token
  pub parts : tokens ≡ front ++ rest
  pub place : length front ≡ k
  pub begins : Begins L front
  pub stuck : IsStuck L front rest
  pub clear : (b : Begins L front) → PassesLater k (L.passing b.tree)

-- the first k + 1 tokens begin a spelling, and each tree that is spelled so far passes its first limit in this way
pub record IsPassed (L : Language) (tokens : List Token) (k : ℕ) (limit : Passing) : Type 0 where
  pub front : List Token
  pub token : Token
  pub rest : List Token
  pub parts : tokens ≡ front ++ (token ∷ rest)
  pub place : length front ≡ k
  pub begins : Begins L (front ++ token ∷ [])
  pub passed : (b : Begins L (front ++ token ∷ [])) → L.passing b.tree ≡ limit

-- the fault is at the first token that is at fault, a limit at the very token that passes it
abbrev pub IsFault : Language → List Token → ParseFault → Type 0
IsFault L tokens (SyntaxFault k) = IsSyntaxFault L tokens k
IsFault L tokens (TooDeep k) = IsPassed L tokens k (DeepAt k)
IsFault L tokens (TooMany k) = IsPassed L tokens k (ManyAt k)
IsFault L tokens NoMemory = Unit {0}
