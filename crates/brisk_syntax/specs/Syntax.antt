-- Programs as plain data.
use Rattle.std.specs.Prelude.{ℕ, Bool, List}
use Rattle.brisk_values.specs.Names.{Name}
use Rattle.brisk_values.specs.declared.operation.Op1.{Op1}
use Rattle.brisk_values.specs.declared.operation.Op2.{Op2}
use Rattle.brisk_syntax.specs.declared.tree.Who.{Who}

-- an expression, with brackets as a node of their own
pub data Expression : Type 0 where
  Num : (n : ℕ) → Expression
  Truth : (b : Bool) → Expression
  Var : (x : Name) → Expression
  Tag : (e t : Name) → Expression
  Size : (s : Name) → Expression
  Paren : (e : Expression) → Expression
  Un : (op : Op1) (e : Expression) → Expression
  Bin : (op : Op2) (e f : Expression) → Expression

infixr 6 ◌⨾◌
infixr 6 ◌then◌
-- a statement, and code: a list of statements
mutual
  pub data Statement : Type 0 where
    Assign : (x : Name) (e : Expression) → Statement
    Send : (c : Name) (es : List Expression) (u : Who) → Statement
    Recv : (c : Name) (xs : List Name) (u : Who) → Statement
    RecvAny : (c : Name) (xs : List Name) (v s : Name) (b : Code) → Statement
    If : (e : Expression) (a : Code) → Statement
    IfElse : (e : Expression) (a b : Code) → Statement
    While : (e : Expression) (b : Code) → Statement
    For : (v s : Name) (k : ℕ) (b : Code) → Statement
    Repeat : (s : Name) (k : ℕ) (b : Code) → Statement

  pub data Code : Type 0 where
    done : Code
    ◌⨾◌ : (s : Statement) (rest : Code) → Code

-- one list of statements after another
abbrev pub ◌then◌ : Code → Code → Code
done then d = d
(s ⨾ c) then d = s ⨾ (c then d)
