-- The reserved words and the marks, with their spellings.
use Rattle.std.specs.Prelude.{ℕ, List, [], ◌∷◌, Option, Some, None, if◌then◌else◌, codes}
use Rattle.std.specs.Str.{bytes_eq}
use Rattle.brisk_lex.specs.declared.token.Mark.{Mark}
use Rattle.brisk_lex.specs.declared.token.Mark.TheVariants as m
use Rattle.brisk_lex.specs.declared.token.Word.{Word}
use Rattle.brisk_lex.specs.declared.token.Word.TheVariants as w

-- what a table has at a spelling
abbrev pub find : {A : Type 0} → List (List ℕ × A) → List ℕ → Option A
find [] cs = None
find (e ∷ es) cs = if bytes_eq e.0 cs then Some e.1 else find es cs

-- the reserved words
abbrev pub words : List (List ℕ × Word)
words =
    (codes "enum", w.KwEnum) ∷ (codes "channel", w.KwChannel) ∷ (codes "one", w.KwOne) ∷ (codes "many", w.KwMany) ∷ (codes "nonempty", w.KwNonempty)
    ∷ (codes "var", w.KwVar) ∷ (codes "input", w.KwInput) ∷ (codes "int", w.KwInt) ∷ (codes "bool", w.KwBool) ∷ (codes "true", w.KwTrue) ∷ (codes "false", w.KwFalse)
    ∷ (codes "send", w.KwSend) ∷ (codes "to", w.KwTo) ∷ (codes "recv", w.KwRecv) ∷ (codes "from", w.KwFrom) ∷ (codes "any", w.KwAny) ∷ (codes "in", w.KwIn)
    ∷ (codes "if", w.KwIf) ∷ (codes "else", w.KwElse) ∷ (codes "while", w.KwWhile) ∷ (codes "for", w.KwFor) ∷ (codes "repeat", w.KwRepeat)
    ∷ (codes "begin", w.KwBegin) ∷ (codes "end", w.KwEnd) ∷ (codes "box", w.KwBox) ∷ (codes "pick", w.KwPick) ∷ (codes "loose", w.KwLoose) ∷ []

-- the marks of two characters
abbrev pub double_marks : List (List ℕ × Mark)
double_marks =
    (codes ":=", m.Assign) ∷ (codes "==", m.EqEq) ∷ (codes "!=", m.NotEq) ∷ (codes "<=", m.LessEq) ∷ (codes ">=", m.GreaterEq)
    ∷ (codes "&&", m.AndAnd) ∷ (codes "||", m.OrOr) ∷ []

-- the marks of one character
abbrev pub single_marks : List (List ℕ × Mark)
single_marks =
    (codes "{", m.LBrace) ∷ (codes "}", m.RBrace) ∷ (codes "(", m.LParen) ∷ (codes ")", m.RParen) ∷ (codes ",", m.Comma) ∷ (codes ";", m.Semi)
    ∷ (codes ":", m.Colon) ∷ (codes "=", m.Equals) ∷ (codes ".", m.Dot) ∷ (codes "#", m.Hash) ∷ (codes "+", m.Plus) ∷ (codes "-", m.Minus)
    ∷ (codes "*", m.Star) ∷ (codes "<", m.Less) ∷ (codes ">", m.Greater) ∷ (codes "!", m.Bang) ∷ []

-- the reserved word that is spelled so
unfoldable pub word : List ℕ → Option Word
word cs = find words cs

-- the mark of two characters
unfoldable pub double_mark : ℕ → ℕ → Option Mark
double_mark c d = find double_marks (c ∷ d ∷ [])

-- the mark of one character
unfoldable pub single_mark : ℕ → Option Mark
single_mark c = find single_marks (c ∷ [])
