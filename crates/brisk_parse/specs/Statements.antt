-- Reading statements and blocks.
use Rattle.std.specs.Prelude.{ℕ, zero, suc, Bool, true, false, if◌then◌else◌, List, length, Option, Some, Ok, Err}
use Rattle.brisk_values.specs.Names.{Name}
use Rattle.brisk_lex.specs.declared.token.Mark.TheVariants as m
use Rattle.brisk_lex.specs.declared.token.Word.TheVariants as w
use Rattle.brisk_lex.specs.declared.token.Token.{Token}
use Rattle.brisk_lex.specs.declared.token.Token.TheVariants as t
use Rattle.brisk_syntax.specs.declared.tree.Who.TheVariants as who
use Rattle.brisk_syntax.specs.Syntax.{Expression, Statement, Assign, Send, Recv, RecvAny, If, IfElse, While, For, Repeat, Code, done, ◌⨾◌}
use Rattle.brisk_parse.specs.declared.fault.Stop.TheVariants.{TooDeep}
use Rattle.brisk_parse.specs.Input.{head, after, sees}
use Rattle.brisk_parse.specs.Outcomes.{Parser, pure, refuse, and_then, ◌>>=◌, ◌>>◌}
use Rattle.brisk_parse.specs.Reading.{expect, name, count, listed, many, begins_name}
use Rattle.brisk_parse.specs.Expressions.{begins_expression, expression}
use Rattle.brisk_parse.specs.Limits.{Limits}

-- the names of a message
abbrev pub names : Limits → Parser (List Name)
names l = listed begins_name name l.places

-- the expressions of a message
abbrev pub expressions : Limits → Parser (List Expression)
expressions l = listed begins_expression (expression l.tokens) l.places

-- a statement begins
abbrev pub begins_statement : Option Token → Bool
begins_statement (Some (t.Name x)) = true
begins_statement (Some (t.Word w.KwSend)) = true
begins_statement (Some (t.Word w.KwRecv)) = true
begins_statement (Some (t.Word w.KwIf)) = true
begins_statement (Some (t.Word w.KwWhile)) = true
begins_statement (Some (t.Word w.KwFor)) = true
begins_statement (Some (t.Word w.KwRepeat)) = true
begins_statement _ = false

unfoldable pub assign : Limits → Name → Parser Statement
assign l x = do
  expect (t.Mark m.Assign)
  e ← expression l.tokens
  expect (t.Mark m.Semi)
  pure (Assign x e)

unfoldable pub send : Limits → Parser Statement
send l = do
  c ← name
  expect (t.Mark m.LParen)
  es ← expressions l
  expect (t.Mark m.RParen)
  expect (t.Word w.KwTo)
  u ← name
  expect (t.Mark m.Semi)
  pure (Send c es (who.Name u))

unfoldable pub receive_any : Parser Code → Name → List Name → Parser Statement
receive_any block c xs = do
  v ← name
  expect (t.Word w.KwIn)
  s ← name
  b ← block
  pure (RecvAny c xs v s b)

unfoldable pub receive_named : Name → List Name → Parser Statement
receive_named c xs = do
  u ← name
  expect (t.Mark m.Semi)
  pure (Recv c xs (who.Name u))

unfoldable pub receive : Limits → Parser Code → Parser Statement
receive l block = do
  c ← name
  expect (t.Mark m.LParen)
  xs ← names l
  expect (t.Mark m.RParen)
  expect (t.Word w.KwFrom)
  λ i. if sees (t.Word w.KwAny) i then receive_any block c xs (after i) else receive_named c xs i

unfoldable pub otherwise : Parser Code → Expression → Code → Parser Statement
otherwise block e a = λ i. if sees (t.Word w.KwElse) i then (block >>= λ b. pure (IfElse e a b)) (after i) else Ok (If e a, i)

unfoldable pub choice : Limits → Parser Code → Parser Statement
choice l block = do
  e ← expression l.tokens
  a ← block
  otherwise block e a

unfoldable pub while_loop : Limits → Parser Code → Parser Statement
while_loop l block = do
  e ← expression l.tokens
  b ← block
  pure (While e b)

unfoldable pub for_loop : Parser Code → Parser Statement
for_loop block = do
  v ← name
  expect (t.Word w.KwIn)
  s ← name
  b ← block
  pure (For v s 0 b)

unfoldable pub repeat_loop : Parser Code → Parser Statement
repeat_loop block = do
  s ← name
  b ← block
  pure (Repeat s 0 b)

-- what follows a statement's first token
abbrev pub statement_by : Limits → Parser Code → Option Token → Parser Statement
statement_by l block (Some (t.Name x)) = assign l x
statement_by l block (Some (t.Word w.KwSend)) = send l
statement_by l block (Some (t.Word w.KwRecv)) = receive l block
statement_by l block (Some (t.Word w.KwIf)) = choice l block
statement_by l block (Some (t.Word w.KwWhile)) = while_loop l block
statement_by l block (Some (t.Word w.KwFor)) = for_loop block
statement_by l block (Some (t.Word w.KwRepeat)) = repeat_loop block
statement_by l block _ = refuse

unfoldable pub statement : Limits → Parser Code → Parser Statement
statement l block = λ i. if begins_statement (head i) then and_then (count i) (λ _ j. statement_by l block (head i) (after j)) else refuse i

-- statements as long as one begins
abbrev pub statements : Limits → Parser Code → Parser Code
statements l block = many begins_statement (statement l block) done (λ s c. s ⨾ c) l.statements

-- a block in which d others may nest less one
unfoldable pub block : Limits → ℕ → Parser Code
block l zero = λ i. if sees (t.Mark m.LBrace) i then Err (TooDeep (length i.rest)) else refuse i
block l (suc d) = do
  expect (t.Mark m.LBrace)
  c ← statements l (block l d)
  expect (t.Mark m.RBrace)
  pure c
