-- How a token is spelled.
use Rattle.std.specs.Prelude.{◌≡◌, ℕ, ◌^◌, ◌≤◌, Bool, true, false, ◌&&◌, List, [], ◌∷◌, length, None, codes}
use Rattle.std.specs.List.{list_all}
use Rattle.std.specs.Char.{is_ascii_digit}
use Rattle.std.specs.Str.{IsUtf8, chars, encode_utf8_all, all_scalars}
use Rattle.unicode_ident.specs.Ident.{is_xid_continue}
use Rattle.brisk_lex.specs.declared.token.Mark.{Mark}
use Rattle.brisk_lex.specs.declared.token.Mark.TheVariants as m
use Rattle.brisk_lex.specs.declared.token.Word.{Word}
use Rattle.brisk_lex.specs.declared.token.Word.TheVariants as w
use Rattle.brisk_lex.specs.declared.token.Token.{Token}
use Rattle.brisk_lex.specs.declared.token.Token.TheVariants as t
use Rattle.brisk_lex.specs.Vocabulary.{word}
use Rattle.brisk_lex.specs.Tokens.{Text, starts_name, number}

-- a reserved word's characters
abbrev pub word_text : Word → Text
word_text w.KwEnum = codes "enum"
word_text w.KwChannel = codes "channel"
word_text w.KwOne = codes "one"
word_text w.KwMany = codes "many"
word_text w.KwNonempty = codes "nonempty"
word_text w.KwVar = codes "var"
word_text w.KwInput = codes "input"
word_text w.KwInt = codes "int"
word_text w.KwBool = codes "bool"
word_text w.KwTrue = codes "true"
word_text w.KwFalse = codes "false"
word_text w.KwSend = codes "send"
word_text w.KwTo = codes "to"
word_text w.KwRecv = codes "recv"
word_text w.KwFrom = codes "from"
word_text w.KwAny = codes "any"
word_text w.KwIn = codes "in"
word_text w.KwIf = codes "if"
word_text w.KwElse = codes "else"
word_text w.KwWhile = codes "while"
word_text w.KwFor = codes "for"
word_text w.KwRepeat = codes "repeat"
word_text w.KwBegin = codes "begin"
word_text w.KwEnd = codes "end"
word_text w.KwBox = codes "box"
word_text w.KwPick = codes "pick"
word_text w.KwLoose = codes "loose"

-- a mark's characters
abbrev pub mark_text : Mark → Text
mark_text m.LBrace = codes "{"
mark_text m.RBrace = codes "}"
mark_text m.LParen = codes "("
mark_text m.RParen = codes ")"
mark_text m.Comma = codes ","
mark_text m.Semi = codes ";"
mark_text m.Colon = codes ":"
mark_text m.Assign = codes ":="
mark_text m.Equals = codes "="
mark_text m.Dot = codes "."
mark_text m.Hash = codes "#"
mark_text m.Plus = codes "+"
mark_text m.Minus = codes "-"
mark_text m.Star = codes "*"
mark_text m.EqEq = codes "=="
mark_text m.NotEq = codes "!="
mark_text m.Less = codes "<"
mark_text m.LessEq = codes "<="
mark_text m.Greater = codes ">"
mark_text m.GreaterEq = codes ">="
mark_text m.AndAnd = codes "&&"
mark_text m.OrOr = codes "||"
mark_text m.Bang = codes "!"

-- the characters are those of a name or of a reserved word
abbrev pub is_identifier : Text → Bool
is_identifier [] = false
is_identifier (c ∷ cs) = starts_name c && list_all is_xid_continue cs

-- the characters are digits, and one at least
abbrev pub is_numeral : Text → Bool
is_numeral [] = false
is_numeral (c ∷ cs) = is_ascii_digit c && list_all is_ascii_digit cs

-- the characters spell the token
abbrev pub IsSpelled : Token → Text → Type 0
IsSpelled (t.Word w) cs = cs ≡ word_text w
IsSpelled (t.Name x) cs = (x ≡ encode_utf8_all cs) × (is_identifier cs ≡ true) × (word x ≡ None) × (length x ≤ 64)
IsSpelled (t.Num n) cs = (is_numeral cs ≡ true) × (number 0 cs ≡ n) × (n ≤ 2 ^ 63)
IsSpelled (t.Mark m) cs = cs ≡ mark_text m

-- the bytes are a name of the language
abbrev pub IsName : List ℕ → Type 0
IsName x = IsUtf8 x × IsSpelled (t.Name x) (chars x)

-- some text spells the token
abbrev pub CanBeSpelled : Token → Type 0
CanBeSpelled t = (cs : Text) × (all_scalars cs ≡ true) × IsSpelled t cs

-- and so each of these tokens
abbrev pub AllCanBeSpelled : List Token → Type 0
AllCanBeSpelled [] = Unit {0}
AllCanBeSpelled (t ∷ ts) = CanBeSpelled t × AllCanBeSpelled ts
