-- Reading declarations, and whole programs.
use Rattle.std.specs.Prelude.{Bool, true, false, if◌then◌else◌, List, [], ◌∷◌, length, Option, Some, Result, Ok, Err}
use Rattle.brisk_values.specs.Names.{Name}
use Rattle.brisk_values.specs.declared.value.Kind.{Kind}
use Rattle.brisk_values.specs.declared.value.Kind.TheVariants as kinds
use Rattle.brisk_lex.specs.declared.token.Placed.{Placed}
use Rattle.brisk_lex.specs.declared.token.Mark.TheVariants as m
use Rattle.brisk_lex.specs.declared.token.Word.TheVariants as w
use Rattle.brisk_lex.specs.declared.token.Token.{Token}
use Rattle.brisk_lex.specs.declared.token.Token.TheVariants as t
use Rattle.brisk_syntax.specs.declared.program.Const.{Const}
use Rattle.brisk_syntax.specs.declared.program.Const.TheVariants as const
use Rattle.brisk_syntax.specs.declared.program.Decl.{Decl}
use Rattle.brisk_syntax.specs.declared.program.Decl.TheVariants as decl
use Rattle.brisk_syntax.specs.declared.program.EnumDecl.{EnumDecl}
use Rattle.brisk_syntax.specs.declared.program.Channel.{Channel}
use Rattle.brisk_syntax.specs.declared.program.Program.{Program}
use Rattle.brisk_syntax.specs.Roles.{RoleText}
use Rattle.brisk_parse.specs.declared.fault.Stop.{Stop}
use Rattle.brisk_parse.specs.declared.fault.Stop.TheVariants.{Syntax}
use Rattle.brisk_parse.specs.Input.{head, after, sees, start}
use Rattle.brisk_parse.specs.Outcomes.{Outcome, Parser, pure, refuse, ◌>>=◌, ◌>>◌}
use Rattle.brisk_parse.specs.Reading.{expect, name, number, listed, separated, list_of, begins_name}
use Rattle.brisk_parse.specs.Statements.{statements, block}
use Rattle.brisk_parse.specs.Limits.{Limits}

abbrev pub kind_by : Option Token → Parser Kind
kind_by (Some (t.Word w.KwInt)) = λ i. Ok (kinds.Int, after i)
kind_by (Some (t.Word w.KwBool)) = λ i. Ok (kinds.Bool, after i)
kind_by (Some (t.Name x)) = λ i. Ok (kinds.Enum x, after i)
kind_by _ = refuse

unfoldable pub kind : Parser Kind
kind = λ i. kind_by (head i) i

abbrev pub begins_kind : Option Token → Bool
begins_kind (Some (t.Word w.KwInt)) = true
begins_kind (Some (t.Word w.KwBool)) = true
begins_kind (Some (t.Name x)) = true
begins_kind _ = false

unfoldable pub tag : Name → Parser Const
tag e = do
  expect (t.Mark m.Dot)
  x ← name
  pure (const.Tag e x)

abbrev pub constant_by : Option Token → Parser Const
constant_by (Some (t.Num n)) = λ i. Ok (const.Num false n, after i)
constant_by (Some (t.Mark m.Minus)) = λ i. (number >>= λ n. pure (const.Num true n)) (after i)
constant_by (Some (t.Word w.KwTrue)) = λ i. Ok (const.Bool true, after i)
constant_by (Some (t.Word w.KwFalse)) = λ i. Ok (const.Bool false, after i)
constant_by (Some (t.Name e)) = λ i. tag e (after i)
constant_by _ = refuse

unfoldable pub constant : Parser Const
constant = λ i. constant_by (head i) i

unfoldable pub variable : Parser Decl
variable = do
  x ← name
  expect (t.Mark m.Colon)
  k ← kind
  expect (t.Mark m.Equals)
  c ← constant
  expect (t.Mark m.Semi)
  pure (decl.Var x k c)

unfoldable pub input : Parser Decl
input = do
  x ← name
  expect (t.Mark m.Colon)
  k ← kind
  expect (t.Mark m.Semi)
  pure (decl.Input x k)

abbrev pub declaration_by : Option Token → Parser Decl
declaration_by (Some (t.Word w.KwVar)) = λ i. variable (after i)
declaration_by (Some (t.Word w.KwInput)) = λ i. input (after i)
declaration_by _ = refuse

unfoldable pub declaration : Parser Decl
declaration = λ i. declaration_by (head i) i

abbrev pub begins_declaration : Option Token → Bool
begins_declaration (Some (t.Word w.KwVar)) = true
begins_declaration (Some (t.Word w.KwInput)) = true
begins_declaration _ = false

abbrev pub begins_enumeration : Option Token → Bool
begins_enumeration (Some (t.Word w.KwEnum)) = true
begins_enumeration _ = false

unfoldable pub enumeration : Limits → Parser EnumDecl
enumeration l = do
  expect (t.Word w.KwEnum)
  e ← name
  expect (t.Mark m.LBrace)
  ts ← separated begins_name name l.tags
  expect (t.Mark m.RBrace)
  pure record { name = e; tags = ts }

abbrev pub begins_channel : Option Token → Bool
begins_channel (Some (t.Word w.KwChannel)) = true
begins_channel _ = false

-- whether the token k comes
unfoldable pub flag : Token → Parser Bool
flag k = λ i. if sees k i then Ok (true, after i) else Ok (false, i)

unfoldable pub channel : Limits → Parser Channel
channel l = do
  expect (t.Word w.KwChannel)
  c ← name
  expect (t.Mark m.LParen)
  ks ← listed begins_kind kind l.kinds
  expect (t.Mark m.RParen)
  loose ← flag (t.Word w.KwLoose)
  expect (t.Mark m.Semi)
  pure record { name = c; kinds = ks; loose = loose }

abbrev pub begins_role : Option Token → Bool
begins_role (Some (t.Word w.KwOne)) = true
begins_role (Some (t.Word w.KwMany)) = true
begins_role _ = false

unfoldable pub role_block : Limits → Name → Bool → Bool → Parser RoleText
role_block l x is_many is_nonempty = do
  expect (t.Mark m.LBrace)
  ds ← list_of begins_declaration declaration l.declarations
  c ← statements l (block l l.nesting)
  expect (t.Mark m.RBrace)
  pure record { name = x; many = is_many; nonempty = is_nonempty; decls = ds; code = c }

unfoldable pub single_role : Limits → Parser RoleText
single_role l = name >>= λ x. role_block l x false false

unfoldable pub set_role : Limits → Parser RoleText
set_role l = do
  x ← name
  is_nonempty ← flag (t.Word w.KwNonempty)
  role_block l x true is_nonempty

abbrev pub role_by : Limits → Option Token → Parser RoleText
role_by l (Some (t.Word w.KwOne)) = λ i. single_role l (after i)
role_by l (Some (t.Word w.KwMany)) = λ i. set_role l (after i)
role_by l _ = refuse

unfoldable pub role : Limits → Parser RoleText
role l = λ i. role_by l (head i) i

-- all that a program holds
unfoldable pub whole : Limits → Parser Program
whole l = do
  es ← list_of begins_enumeration (enumeration l) l.enums
  cs ← list_of begins_channel (channel l) l.channels
  rs ← list_of begins_role (role l) l.roles
  pure record { enums = es; channels = cs; roles = rs }

abbrev pub at_end : {A : Type 0} → A → List Token → Result A Stop
at_end x [] = Ok x
at_end x (t ∷ ts) = Err (Syntax (length (t ∷ ts)))

-- nothing is left
abbrev pub ended : {A : Type 0} → Outcome A → Result A Stop
ended (Ok p) = at_end p.0 p.1.rest
ended (Err e) = Err e

-- what all of the tokens are read as
unfoldable pub program : Limits → List Placed → Result Program Stop
program l tokens = ended (whole l (start tokens l.statements))
