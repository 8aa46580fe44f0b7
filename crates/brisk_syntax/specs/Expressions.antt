-- How expressions are seen.
use Rattle.brisk_syntax.specs.Syntax as tree
use Rattle.brisk_syntax.specs.declared.tree.Expr.{Expr}
use Rattle.brisk_syntax.specs.declared.tree.Expr.TheVariants.{Num, Bool, Var, Tag, Size, Paren', Un', Bin'}

-- the expression without the places of its parts in memory
abbrev pub expression_of : Expr → tree.Expression
expression_of (Num n) = tree.Num n
expression_of (Bool b) = tree.Truth b
expression_of (Var x) = tree.Var x
expression_of (Tag e t) = tree.Tag e t
expression_of (Size s) = tree.Size s
expression_of (Paren' p e) = tree.Paren (expression_of e)
expression_of (Un' op p e) = tree.Un op (expression_of e)
expression_of (Bin' op p e q f) = tree.Bin op (expression_of e) (expression_of f)
