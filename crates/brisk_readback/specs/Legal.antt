-- What a tree must be like, so that its layout is a text of the language.
use Rattle.std.specs.Prelude.{◌≡◌, ◌^◌, ◌≤◌, List}
use Rattle.std.specs.List.{AllByRecursion}
use Rattle.brisk_lex.specs.declared.token.Token.{Token}
use Rattle.brisk_lex.specs.declared.token.Token.TheVariants as t
use Rattle.brisk_lex.specs.Spelled.{IsName}
use Rattle.brisk_seq.specs.declared.tree.SeqProgram.{SeqProgram}
use Rattle.brisk_syntax.specs.declared.program.Program.{Program}
use Rattle.brisk_syntax.specs.declared.tree.Who.{Who}
use Rattle.brisk_syntax.specs.declared.tree.Who.TheVariants as who
use Rattle.brisk_syntax.specs.Syntax.{Statement, Assign, Send, Recv, RecvAny, If, IfElse, While, For, Repeat, Code, done, ◌⨾◌}
use Rattle.brisk_parse.specs.SequenceSpelling.{sequence_spelling}
use Rattle.brisk_parse.specs.Spelling.{spelling}

-- a name is a name of the language, and a number is at most 2^63
abbrev pub IsLegal : Token → Type 0
IsLegal (t.Name x) = IsName x
IsLegal (t.Num n) = n ≤ 2 ^ 63
IsLegal (t.Word w) = Unit {0}
IsLegal (t.Mark m) = Unit {0}

-- so of each token
abbrev pub AllLegal : List Token → Type 0
AllLegal ts = AllByRecursion IsLegal ts

-- the partner is a name and no process
abbrev pub IsNamed : Who → Type 0
IsNamed (who.Name n) = Unit {0}
IsNamed (who.At s) = Unit {0}
IsNamed (who.Pid p) = ⊥

-- so is each partner in a statement, and in code
abbrev mutual
  pub NamesPartners : Statement → Type 0
  NamesPartners (Assign x e) = Unit {0}
  NamesPartners (Send c es u) = IsNamed u
  NamesPartners (Recv c xs u) = IsNamed u
  NamesPartners (RecvAny c xs v s b) = NamesAll b
  NamesPartners (If e a) = NamesAll a
  NamesPartners (IfElse e a b) = NamesAll a × NamesAll b
  NamesPartners (While e b) = NamesAll b
  NamesPartners (For v s k b) = NamesAll b
  NamesPartners (Repeat s k b) = NamesAll b

  pub NamesAll : Code → Type 0
  NamesAll done = Unit {0}
  NamesAll (s ⨾ c) = NamesPartners s × NamesAll c

-- the program can be written: its names are names of the language, its numbers at most 2^63, and no partner is a process
pub record IsWritable (P : Program) : Type 0 where
  pub legal : AllLegal (spelling P)
  pub named : AllByRecursion (λ r. NamesAll r.code) P.roles

-- the sequential program can be written: its names and numbers are as above, and its roles have no code
pub record IsWritableSequence (Q : SeqProgram) : Type 0 where
  pub legal : AllLegal (sequence_spelling Q)
  pub empty : AllByRecursion (λ r. r.code ≡ done) Q.roles
