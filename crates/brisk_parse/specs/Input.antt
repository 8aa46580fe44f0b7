-- What is left to read.
use Rattle.std.specs.Prelude.{ℕ, Bool, false, nat_eq, List, [], ◌∷◌, map, drop, Option, Some, None}
use denote.Enum.Bare.{sameb}
use Rattle.brisk_values.specs.Names.{same_name}
use Rattle.brisk_lex.specs.contracts.token.Mark as mark
use Rattle.brisk_lex.specs.contracts.token.Word as word
use Rattle.brisk_lex.specs.declared.token.Token.{Token}
use Rattle.brisk_lex.specs.declared.token.Token.TheVariants.{Word, Name, Num, Mark}
use Rattle.brisk_lex.specs.declared.token.Placed.{Placed}

-- the tokens that are left, how many of them the present expression may take, and how many statements may begin
pub record Input : Type 0 where
  pub rest : List Token
  pub room : ℕ
  pub statements : ℕ

-- the input of these parts
abbrev pub at : List Token → ℕ → ℕ → Input
at rest room statements = record { rest = rest; room = room; statements = statements }

-- the tokens without their places
abbrev pub tokens_of : List Placed → List Token
tokens_of ps = map (λ p. p.token) ps

-- where reading begins
abbrev pub start : List Placed → ℕ → Input
start ps statements = record { rest = tokens_of ps; room = 0; statements = statements }

-- the first token of a list
abbrev pub first : List Token → Option Token
first [] = None
first (t ∷ ts) = Some t

-- the next token
abbrev pub head : Input → Option Token
head i = first i.rest

-- the input after its next token
abbrev pub after : Input → Input
after i = record i { rest = drop 1 i.rest }

-- the input with another room
abbrev pub with_room : ℕ → Input → Input
with_room n i = record i { room = n }

-- the two tokens are the same
abbrev pub same_token : Token → Token → Bool
same_token (Mark k) (Mark l) = sameb mark.the_type k l
same_token (Word v) (Word w) = sameb word.the_type v w
same_token (Name x) (Name y) = same_name x y
same_token (Num m) (Num n) = nat_eq m n
same_token _ _ = false

-- there is a token, and it is t
abbrev pub is_token : Token → Option Token → Bool
is_token t None = false
is_token t (Some u) = same_token u t

-- the next token is t
abbrev pub sees : Token → Input → Bool
sees t i = is_token t (head i)
