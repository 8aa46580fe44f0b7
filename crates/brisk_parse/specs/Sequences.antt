-- Reading sequential programs.
use Rattle.std.specs.Prelude.{ℕ, zero, suc, nat_le, Bool, true, false, if◌then◌else◌, List, length, Option, Some, Result, Ok, Err}
use Rattle.brisk_values.specs.Names.{Name}
use Rattle.brisk_lex.specs.declared.token.Placed.{Placed}
use Rattle.brisk_lex.specs.declared.token.Mark.TheVariants as m
use Rattle.brisk_lex.specs.declared.token.Word.TheVariants as w
use Rattle.brisk_lex.specs.declared.token.Token.{Token}
use Rattle.brisk_lex.specs.declared.token.Token.TheVariants as t
use Rattle.brisk_syntax.specs.Roles.{RoleText}
use Rattle.brisk_syntax.specs.Syntax.{Expression, done}
use Rattle.brisk_seq.specs.Items.{Item, Pass, Fill, Take, If, While, For, ForAny, Pick, Repeat, Items, nothing, ◌⨟◌}
use Rattle.brisk_seq.specs.declared.tree.SeqProgram.{SeqProgram}
use Rattle.brisk_parse.specs.declared.fault.Stop.{Stop}
use Rattle.brisk_parse.specs.declared.fault.Stop.TheVariants.{TooDeep}
use Rattle.brisk_parse.specs.Declarations.{begins_declaration, declaration, begins_enumeration, enumeration, flag, begins_role, ended}
use Rattle.brisk_parse.specs.Expressions.{expression}
use Rattle.brisk_parse.specs.Input.{head, after, sees, start}
use Rattle.brisk_parse.specs.Limits.{Limits, most_box}
use Rattle.brisk_parse.specs.Outcomes.{Parser, pure, refuse, and_then, ◌>>=◌, ◌>>◌}
use Rattle.brisk_parse.specs.Reading.{expect, name, count, many, list_of}
use Rattle.brisk_parse.specs.Statements.{names, expressions}

abbrev pub box_number_by : Option Token → Parser ℕ
box_number_by (Some (t.Num n)) = λ i. if nat_le n most_box then Ok (n, after i) else refuse i
box_number_by _ = refuse

-- the number of a box
unfoldable pub box_number : Parser ℕ
box_number = λ i. box_number_by (head i) i

-- the variables of a process
unfoldable pub variables : Limits → Parser (List Name)
variables l = do
  expect (t.Mark m.Dot)
  expect (t.Mark m.LParen)
  xs ← names l
  expect (t.Mark m.RParen)
  pure xs

-- the expressions of a process
unfoldable pub values : Limits → Parser (List Expression)
values l = do
  expect (t.Mark m.Dot)
  expect (t.Mark m.LParen)
  es ← expressions l
  expect (t.Mark m.RParen)
  pure es

-- the guard of a process
unfoldable pub guard : Limits → Parser Expression
guard l = do
  expect (t.Mark m.Dot)
  expect (t.Mark m.LParen)
  e ← expression l.tokens
  expect (t.Mark m.RParen)
  pure e

unfoldable pub fill : Limits → Parser Item
fill l = do
  n ← box_number
  expect (t.Mark m.LParen)
  p ← name
  expect (t.Word w.KwTo)
  q ← name
  expect (t.Mark m.RParen)
  expect (t.Mark m.Assign)
  expect (t.Name p)
  es ← values l
  expect (t.Mark m.Semi)
  pure (Fill n p q es)

unfoldable pub take : Name → List Name → Parser Item
take q xs = do
  n ← box_number
  expect (t.Mark m.LParen)
  p ← name
  expect (t.Word w.KwTo)
  expect (t.Name q)
  expect (t.Mark m.RParen)
  expect (t.Mark m.Semi)
  pure (Take q xs n p)

unfoldable pub pass : Limits → Name → List Name → Parser Item
pass l q xs = do
  p ← name
  es ← values l
  expect (t.Mark m.Semi)
  pure (Pass q xs p es)

-- what a process stores
unfoldable pub stored : Limits → Name → Parser Item
stored l q = do
  xs ← variables l
  expect (t.Mark m.Assign)
  λ i. if sees (t.Word w.KwBox) i then take q xs (after i) else pass l q xs i

unfoldable pub choice : Limits → Parser Items → Parser Item
choice l block = do
  p ← name
  e ← guard l
  a ← block
  expect (t.Word w.KwElse)
  b ← block
  pure (If p e a b)

unfoldable pub while_loop : Limits → Parser Items → Parser Item
while_loop l block = do
  p ← name
  e ← guard l
  b ← block
  pure (While p e b)

-- a loop over a set
unfoldable pub over : (Name → Items → Item) → Parser Items → Parser Item
over loop block = do
  s ← name
  b ← block
  pure (loop s b)

unfoldable pub for_loop : Parser Items → Parser Item
for_loop block = λ i. if sees (t.Word w.KwAny) i then over ForAny block (after i) else over For block i

-- an item begins
abbrev pub begins_item : Option Token → Bool
begins_item (Some (t.Name x)) = true
begins_item (Some (t.Word w.KwBox)) = true
begins_item (Some (t.Word w.KwIf)) = true
begins_item (Some (t.Word w.KwWhile)) = true
begins_item (Some (t.Word w.KwFor)) = true
begins_item (Some (t.Word w.KwPick)) = true
begins_item (Some (t.Word w.KwRepeat)) = true
begins_item _ = false

-- what follows an item's first token
abbrev pub item_by : Limits → Parser Items → Option Token → Parser Item
item_by l block (Some (t.Name q)) = stored l q
item_by l block (Some (t.Word w.KwBox)) = fill l
item_by l block (Some (t.Word w.KwIf)) = choice l block
item_by l block (Some (t.Word w.KwWhile)) = while_loop l block
item_by l block (Some (t.Word w.KwFor)) = for_loop block
item_by l block (Some (t.Word w.KwPick)) = over Pick block
item_by l block (Some (t.Word w.KwRepeat)) = over Repeat block
item_by l block _ = refuse

unfoldable pub item : Limits → Parser Items → Parser Item
item l block = λ i. if begins_item (head i) then and_then (count i) (λ _ j. item_by l block (head i) (after j)) else refuse i

-- items as long as one begins
abbrev pub items : Limits → Parser Items → Parser Items
items l block = many begins_item (item l block) nothing (λ q qs. q ⨟ qs) l.statements

-- a block in which d - 1 others may nest
unfoldable pub block : Limits → ℕ → Parser Items
block l zero = λ i. if sees (t.Mark m.LBrace) i then Err (TooDeep (length i.rest)) else refuse i
block l (suc d) = do
  expect (t.Mark m.LBrace)
  c ← items l (block l d)
  expect (t.Mark m.RBrace)
  pure c

-- ---- programs

-- the declarations of a role
unfoldable pub outline : Limits → Name → Bool → Bool → Parser RoleText
outline l x is_many is_nonempty = do
  expect (t.Mark m.LBrace)
  ds ← list_of begins_declaration declaration l.declarations
  expect (t.Mark m.RBrace)
  pure record { name = x; many = is_many; nonempty = is_nonempty; decls = ds; code = done }

unfoldable pub single_role : Limits → Parser RoleText
single_role l = name >>= λ x. outline l x false false

unfoldable pub set_role : Limits → Parser RoleText
set_role l = do
  x ← name
  is_nonempty ← flag (t.Word w.KwNonempty)
  outline l x true is_nonempty

abbrev pub role_by : Limits → Option Token → Parser RoleText
role_by l (Some (t.Word w.KwOne)) = λ i. single_role l (after i)
role_by l (Some (t.Word w.KwMany)) = λ i. set_role l (after i)
role_by l _ = refuse

-- a role without code
unfoldable pub role : Limits → Parser RoleText
role l = λ i. role_by l (head i) i

-- all that a sequential program holds
unfoldable pub whole : Limits → Parser SeqProgram
whole l = do
  es ← list_of begins_enumeration (enumeration l) l.enums
  rs ← list_of begins_role (role l) l.roles
  expect (t.Word w.KwBegin)
  b ← items l (block l l.nesting)
  expect (t.Word w.KwEnd)
  pure record { enums = es; roles = rs; body = b }

-- what all of the tokens are read as
unfoldable pub sequential : Limits → List Placed → Result SeqProgram Stop
sequential l tokens = ended (whole l (start tokens l.statements))
