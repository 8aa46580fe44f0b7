-- Reading expressions.
use Rattle.std.specs.Prelude.{ℕ, zero, suc, Bool, true, false, if◌then◌else◌, Option, Some, None, Ok, Err}
use Rattle.brisk_values.specs.Names.{Name}
use Rattle.brisk_values.specs.declared.operation.Op1.TheVariants as op1
use Rattle.brisk_values.specs.declared.operation.Op2.{Op2}
use Rattle.brisk_values.specs.declared.operation.Op2.TheVariants as op2
use Rattle.brisk_lex.specs.declared.token.Mark.TheVariants as m
use Rattle.brisk_lex.specs.declared.token.Word.TheVariants as w
use Rattle.brisk_lex.specs.declared.token.Token.{Token}
use Rattle.brisk_lex.specs.declared.token.Token.TheVariants as t
use Rattle.brisk_syntax.specs.Syntax.{Expression, Num, Truth, Var, Tag, Size, Paren, Un, Bin}
use Rattle.brisk_parse.specs.declared.level.Level.{Level}
use Rattle.brisk_parse.specs.declared.level.Level.TheVariants as level
use Rattle.brisk_parse.specs.Input.{head, sees, with_room}
use Rattle.brisk_parse.specs.Outcomes.{Outcome, Parser, pure, refuse, pass_limit, ◌>>=◌, ◌>>◌}
use Rattle.brisk_parse.specs.Reading.{spend}

-- the token k of an expression
unfoldable pub take : Token → Parser (Unit {0})
take k = λ i. if sees k i then spend i else refuse i

abbrev pub take_name_by : Option Token → Parser Name
take_name_by (Some (t.Name x)) = spend >> pure x
take_name_by _ = refuse

-- a name of an expression
unfoldable pub take_name : Parser Name
take_name = λ i. take_name_by (head i) i

-- an expression begins
abbrev pub begins_expression : Option Token → Bool
begins_expression (Some (t.Num n)) = true
begins_expression (Some (t.Name x)) = true
begins_expression (Some (t.Word w.KwTrue)) = true
begins_expression (Some (t.Word w.KwFalse)) = true
begins_expression (Some (t.Mark m.Hash)) = true
begins_expression (Some (t.Mark m.LParen)) = true
begins_expression (Some (t.Mark m.Minus)) = true
begins_expression (Some (t.Mark m.Bang)) = true
begins_expression _ = false

-- the operators of a level at which operands may be repeated
abbrev pub operator : Level → Option Token → Option Op2
operator level.Or (Some (t.Mark m.OrOr)) = Some op2.Or
operator level.And (Some (t.Mark m.AndAnd)) = Some op2.And
operator level.Sum (Some (t.Mark m.Plus)) = Some op2.Add
operator level.Sum (Some (t.Mark m.Minus)) = Some op2.Sub
operator level.Product (Some (t.Mark m.Star)) = Some op2.Mul
operator l token = None

-- the operators that compare
abbrev pub comparison_operator : Option Token → Option Op2
comparison_operator (Some (t.Mark m.EqEq)) = Some op2.Eq
comparison_operator (Some (t.Mark m.NotEq)) = Some op2.Ne
comparison_operator (Some (t.Mark m.Less)) = Some op2.Lt
comparison_operator (Some (t.Mark m.LessEq)) = Some op2.Le
comparison_operator (Some (t.Mark m.Greater)) = Some op2.Gt
comparison_operator (Some (t.Mark m.GreaterEq)) = Some op2.Ge
comparison_operator token = None

-- goes on where an operator comes
abbrev pub by_operator : Option Op2 → (Op2 → Parser Expression) → Expression → Parser Expression
by_operator None go e = pure e
by_operator (Some op) go e = go op

-- at most n further operands of a level after e, which group to the left
unfoldable pub tail : Level → Parser Expression → ℕ → Expression → Parser Expression
tail l operand zero e = λ i. by_operator (operator l (head i)) (λ op. pass_limit) e i
tail l operand (suc n) e = λ i. by_operator (operator l (head i)) (λ op. do spend; f ← operand; tail l operand n (Bin op e f)) e i

-- one comparison of e, or none
unfoldable pub compared : Parser Expression → Expression → Parser Expression
compared operand e = λ i. by_operator (comparison_operator (head i)) (λ op. do spend; f ← operand; pure (Bin op e f)) e i

unfoldable pub product : ℕ → Parser Expression → Parser Expression
product n unary = unary >>= λ e. tail level.Product unary n e

unfoldable pub sum : ℕ → Parser Expression → Parser Expression
sum n unary = product n unary >>= λ e. tail level.Sum (product n unary) n e

unfoldable pub comparison : ℕ → Parser Expression → Parser Expression
comparison n unary = sum n unary >>= λ e. compared (sum n unary) e

unfoldable pub conjunction : ℕ → Parser Expression → Parser Expression
conjunction n unary = comparison n unary >>= λ e. tail level.And (comparison n unary) n e

unfoldable pub disjunction : ℕ → Parser Expression → Parser Expression
disjunction n unary = conjunction n unary >>= λ e. tail level.Or (conjunction n unary) n e

-- the operands of a level
abbrev pub operand : Level → ℕ → Parser Expression → Parser Expression
operand level.Or n unary = conjunction n unary
operand level.And n unary = comparison n unary
operand level.Sum n unary = product n unary
operand level.Product n unary = unary

-- the expressions of a level
abbrev pub chain : Level → ℕ → Parser Expression → Parser Expression
chain level.Or n unary = disjunction n unary
chain level.And n unary = conjunction n unary
chain level.Sum n unary = sum n unary
chain level.Product n unary = product n unary

-- a variable, or a tag where a dot comes
unfoldable pub variable_or_tag : Name → Parser Expression
variable_or_tag x = λ i. if sees (t.Mark m.Dot) i then (do spend; y ← take_name; pure (Tag x y)) i else Ok (Var x, i)

abbrev pub unary_by : ℕ → Parser Expression → Option Token → Parser Expression
unary_by n unary (Some (t.Num k)) = spend >> pure (Num k)
unary_by n unary (Some (t.Word w.KwTrue)) = spend >> pure (Truth true)
unary_by n unary (Some (t.Word w.KwFalse)) = spend >> pure (Truth false)
unary_by n unary (Some (t.Name x)) = spend >> variable_or_tag x
unary_by n unary (Some (t.Mark m.Hash)) = do spend; s ← take_name; pure (Size s)
unary_by n unary (Some (t.Mark m.LParen)) = do spend; e ← disjunction n unary; take (t.Mark m.RParen); pure (Paren e)
unary_by n unary (Some (t.Mark m.Minus)) = do spend; e ← unary; pure (Un op1.Neg e)
unary_by n unary (Some (t.Mark m.Bang)) = do spend; e ← unary; pure (Un op1.Not e)
unary_by n unary _ = refuse

-- an operand without operators between, which nests at most n deep
unfoldable pub unary : ℕ → Parser Expression
unary zero = λ i. if begins_expression (head i) then pass_limit i else refuse i
unary (suc n) = λ i. unary_by n (unary n) (head i) i

-- the room is given back
abbrev pub restored : ℕ → Outcome Expression → Outcome Expression
restored room (Ok p) = Ok (p.0, with_room room p.1)
restored room (Err e) = Err e

-- an expression of at most n tokens
unfoldable pub expression : ℕ → Parser Expression
expression n = λ i. restored i.room (disjunction n (unary n) (with_room n i))
