-- The pieces of lines that are read one after another.
use Rattle.std.specs.Prelude.{◌≡◌, ◌≤◌, ℕ, List, [], ◌∷◌, ◌++◌, map, codes}
use Rattle.std.specs.List.{AllByRecursion}
use Rattle.std.specs.Fmt.{decimal}
use Rattle.brisk_lex.specs.Spelled.{IsName}
use Rattle.brisk_lines.specs.Pieces.{Lacks, Begins}
use Rattle.brisk_text.specs.Values.{Text}
use Rattle.brisk_values.specs.Names.{Name}
use Rattle.brisk_derivation.specs.declared.steps.Fact.{Fact}
use Rattle.brisk_derivtext.specs.declared.keyword.Keyword.{Keyword}
use Rattle.brisk_derivtext.specs.declared.line.Line.{Line}
use Rattle.brisk_derivtext.specs.Keywords.{keyword_of}
use Rattle.brisk_derivtext.specs.Lines.{drop_words, fact_text, more_words, spaced, IsLegal, IsLegalFact}

-- the bytes begin with a space and this word, which ends there
pub record BeginsWithWord (b w more : Text) : Type 0 where
  pub whole : b ≡ 32 ∷ (w ++ more)
  pub word : Lacks 32 w
  pub ends : Begins 32 more

-- the same, where the word is a name of the language
pub record BeginsWithName (b : Text) (t : Name) (more : Text) : Type 0 where
  pub whole : b ≡ 32 ∷ (t ++ more)
  pub name : IsName t
  pub ends : Begins 32 more

-- the same, where the word is a fact
pub record BeginsWithFact (b : Text) (f : Fact) (more : Text) : Type 0 where
  pub whole : b ≡ 32 ∷ (fact_text f ++ more)
  pub fact : IsLegalFact f
  pub ends : Begins 32 more

-- no name stands there
abbrev pub NoNameFollows : Text → Type 0
NoNameFollows b = (t : Name) (more : Text) → BeginsWithName b t more → ⊥

-- a sender, a receiver and a channel
abbrev pub message_text : Name × Name × Name → Text
message_text m = spaced (m.0 ∷ m.1 ∷ m.2 ∷ [])

abbrev pub IsMessage : Name × Name × Name → Type 0
IsMessage m = IsName m.0 × IsName m.1 × IsName m.2

-- the same, and the number of a box
abbrev pub fill_text : Name × Name × Name × ℕ → Text
fill_text f = spaced (f.0 ∷ f.1 ∷ f.2 ∷ decimal f.3 ∷ [])

abbrev pub IsFill : Name × Name × Name × ℕ → Type 0
IsFill f = IsName f.0 × IsName f.1 × IsName f.2 × (1 ≤ f.3) × (f.3 ≤ 1000000)

-- as many names as there are, and what stands behind them
pub record AreNames (b : Text) (ts : List Name) (more : Text) : Type 0 where
  pub whole : b ≡ spaced ts ++ more
  pub names : AllByRecursion IsName ts
  pub ends : Begins 32 more
  pub last : NoNameFollows more

-- the words of facts, with a space before each
abbrev pub facts_text : List Fact → Text
facts_text F = spaced (map fact_text F)

-- owners, the word `drop`, and facts
abbrev pub owners_text : List Name × List Fact → Text
owners_text p = spaced (p.0 ++ drop_words p.1)

abbrev pub AreOwners : List Name × List Fact → Type 0
AreOwners p = AllByRecursion IsName p.0 × AllByRecursion IsLegalFact p.1

-- a name, the word `drop`, and facts
abbrev pub rule_text : Name × List Fact → Text
rule_text p = spaced (p.0 ∷ drop_words p.1)

abbrev pub IsRule : Name × List Fact → Type 0
IsRule p = IsName p.0 × AllByRecursion IsLegalFact p.1

-- a set, the word `by`, owners, the word `drop`, and facts
abbrev pub for_text : Name × List Name × List Fact → Text
for_text p = spaced (p.0 ∷ codes "by" ∷ (p.1 ++ drop_words p.2))

abbrev pub IsFor : Name × List Name × List Fact → Type 0
IsFor p = IsName p.0 × AllByRecursion IsName p.1 × AllByRecursion IsLegalFact p.2

-- the number of a box
abbrev pub IsBox : ℕ → Type 0
IsBox n = (1 ≤ n) × (n ≤ 1000000)

-- what stands behind the first word of a line
abbrev pub tail_text : Line → Text
tail_text l = spaced (more_words l)

-- a legal line that begins so
abbrev pub IsOf : Keyword → Line → Type 0
IsOf k l = IsLegal l × (keyword_of l ≡ k)
