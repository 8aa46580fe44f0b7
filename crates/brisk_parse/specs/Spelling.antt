-- The tokens of a program, by recursion on its tree, one case for each line of the grammar.
use Rattle.std.specs.Prelude.{Bool, true, false, if◌then◌else◌, List, [], ◌∷◌, ◌++◌}
use Rattle.brisk_values.specs.Names.{Name}
use Rattle.brisk_values.specs.declared.value.Kind.{Kind}
use Rattle.brisk_values.specs.declared.value.Kind.TheVariants as kinds
use Rattle.brisk_values.specs.declared.operation.Op1.{Op1}
use Rattle.brisk_values.specs.declared.operation.Op1.TheVariants as op1
use Rattle.brisk_values.specs.declared.operation.Op2.{Op2}
use Rattle.brisk_values.specs.declared.operation.Op2.TheVariants as op2
use Rattle.brisk_lex.specs.declared.token.Mark.{Mark}
use Rattle.brisk_lex.specs.declared.token.Mark.TheVariants as m
use Rattle.brisk_lex.specs.declared.token.Word.{Word}
use Rattle.brisk_lex.specs.declared.token.Word.TheVariants as w
use Rattle.brisk_lex.specs.declared.token.Token.{Token}
use Rattle.brisk_lex.specs.declared.token.Token.TheVariants as t
use Rattle.brisk_syntax.specs.declared.program.Const.{Const}
use Rattle.brisk_syntax.specs.declared.program.Const.TheVariants as const
use Rattle.brisk_syntax.specs.declared.program.Decl.{Decl}
use Rattle.brisk_syntax.specs.declared.program.Decl.TheVariants as decl
use Rattle.brisk_syntax.specs.declared.program.EnumDecl.{EnumDecl}
use Rattle.brisk_syntax.specs.declared.program.Channel.{Channel}
use Rattle.brisk_syntax.specs.declared.program.Program.{Program}
use Rattle.brisk_syntax.specs.declared.tree.Who.{Who}
use Rattle.brisk_syntax.specs.declared.tree.Who.TheVariants as who
use Rattle.brisk_syntax.specs.Roles.{RoleText}
use Rattle.brisk_syntax.specs.Syntax.{Expression, Num, Truth, Var, Tag, Size, Paren, Un, Bin, Statement, Assign, Send, Recv, RecvAny, If, IfElse, While, For, Repeat, Code, done, ◌⨾◌}

abbrev pub mark : Mark → List Token
mark k = t.Mark k ∷ []

abbrev pub word : Word → List Token
word w = t.Word w ∷ []

abbrev pub name : Name → List Token
name x = t.Name x ∷ []

-- each item behind a comma
abbrev pub behind_commas : {A : Type 0} → (A → List Token) → List A → List Token
behind_commas spelled [] = []
behind_commas spelled (x ∷ xs) = mark m.Comma ++ spelled x ++ behind_commas spelled xs

-- the items with commas between
abbrev pub separated : {A : Type 0} → (A → List Token) → List A → List Token
separated spelled [] = []
separated spelled (x ∷ xs) = spelled x ++ behind_commas spelled xs

-- the items one after another
abbrev pub all_of : {A : Type 0} → (A → List Token) → List A → List Token
all_of spelled [] = []
all_of spelled (x ∷ xs) = spelled x ++ all_of spelled xs

-- ---- expressions

abbrev pub operator1 : Op1 → Mark
operator1 op1.Neg = m.Minus
operator1 op1.Not = m.Bang

abbrev pub operator2 : Op2 → Mark
operator2 op2.Add = m.Plus
operator2 op2.Sub = m.Minus
operator2 op2.Mul = m.Star
operator2 op2.Eq = m.EqEq
operator2 op2.Ne = m.NotEq
operator2 op2.Lt = m.Less
operator2 op2.Le = m.LessEq
operator2 op2.Gt = m.Greater
operator2 op2.Ge = m.GreaterEq
operator2 op2.And = m.AndAnd
operator2 op2.Or = m.OrOr

abbrev pub truth : Bool → List Token
truth true = word w.KwTrue
truth false = word w.KwFalse

abbrev pub expression : Expression → List Token
expression (Num n) = t.Num n ∷ []
expression (Truth b) = truth b
expression (Var x) = name x
expression (Tag e x) = name e ++ mark m.Dot ++ name x
expression (Size s) = mark m.Hash ++ name s
expression (Paren e) = mark m.LParen ++ expression e ++ mark m.RParen
expression (Un op e) = mark (operator1 op) ++ expression e
expression (Bin op e f) = expression e ++ mark (operator2 op) ++ expression f

abbrev pub expressions : List Expression → List Token
expressions = separated expression

abbrev pub names : List Name → List Token
names = separated name

-- ---- statements

-- a partner: in a levelled tree it is a plain name
abbrev pub partner : Who → List Token
partner (who.Name n) = name n
partner (who.At s) = name s
partner (who.Pid p) = name p.role

-- the tokens in braces
abbrev pub braced : List Token → List Token
braced ts = mark m.LBrace ++ ts ++ mark m.RBrace

abbrev mutual
  pub statement : Statement → List Token
  statement (Assign x e) = name x ++ mark m.Assign ++ expression e ++ mark m.Semi
  statement (Send c es u) = word w.KwSend ++ name c ++ mark m.LParen ++ expressions es ++ mark m.RParen ++ word w.KwTo ++ partner u ++ mark m.Semi
  statement (Recv c xs u) = word w.KwRecv ++ name c ++ mark m.LParen ++ names xs ++ mark m.RParen ++ word w.KwFrom ++ partner u ++ mark m.Semi
  statement (RecvAny c xs v s b) = word w.KwRecv ++ name c ++ mark m.LParen ++ names xs ++ mark m.RParen ++ word w.KwFrom ++ word w.KwAny ++ name v ++ word w.KwIn ++ name s ++ braced (code b)
  statement (If e a) = word w.KwIf ++ expression e ++ braced (code a)
  statement (IfElse e a b) = word w.KwIf ++ expression e ++ braced (code a) ++ word w.KwElse ++ braced (code b)
  statement (While e b) = word w.KwWhile ++ expression e ++ braced (code b)
  statement (For v s k b) = word w.KwFor ++ name v ++ word w.KwIn ++ name s ++ braced (code b)
  statement (Repeat s k b) = word w.KwRepeat ++ name s ++ braced (code b)

  pub code : Code → List Token
  code done = []
  code (s ⨾ c) = statement s ++ code c

-- ---- declarations

abbrev pub kind : Kind → List Token
kind kinds.Int = word w.KwInt
kind kinds.Bool = word w.KwBool
kind (kinds.Enum e) = name e

abbrev pub sign : Bool → List Token
sign true = mark m.Minus
sign false = []

abbrev pub constant : Const → List Token
constant (const.Num negative n) = sign negative ++ t.Num n ∷ []
constant (const.Bool b) = truth b
constant (const.Tag e x) = name e ++ mark m.Dot ++ name x

abbrev pub declaration : Decl → List Token
declaration (decl.Var x k c) = word w.KwVar ++ name x ++ mark m.Colon ++ kind k ++ mark m.Equals ++ constant c ++ mark m.Semi
declaration (decl.Input x k) = word w.KwInput ++ name x ++ mark m.Colon ++ kind k ++ mark m.Semi

abbrev pub enumeration : EnumDecl → List Token
enumeration e = word w.KwEnum ++ name e.name ++ mark m.LBrace ++ names e.tags ++ mark m.RBrace

-- the word where the flag is true
abbrev pub flag : Word → Bool → List Token
flag k true = word k
flag k false = []

abbrev pub channel : Channel → List Token
channel c = word w.KwChannel ++ name c.name ++ mark m.LParen ++ separated kind c.kinds ++ mark m.RParen ++ flag w.KwLoose c.loose ++ mark m.Semi

abbrev pub heading : RoleText → List Token
heading r = (if r.many then word w.KwMany ++ name r.name ++ flag w.KwNonempty r.nonempty else word w.KwOne ++ name r.name)

abbrev pub role : RoleText → List Token
role r = heading r ++ mark m.LBrace ++ all_of declaration r.decls ++ code r.code ++ mark m.RBrace

-- the tokens of a program
abbrev pub spelling : Program → List Token
spelling P = all_of enumeration P.enums ++ all_of channel P.channels ++ all_of role P.roles
