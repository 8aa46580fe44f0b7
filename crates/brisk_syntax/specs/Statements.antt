-- How statements are seen.
use Rattle.std.specs.Prelude.{List, [], ◌∷◌, Some, None}
use Rattle.brisk_syntax.specs.Syntax as tree
use Rattle.brisk_syntax.specs.Syntax.{Code, done, ◌⨾◌}
use Rattle.brisk_syntax.specs.Expressions.{expression_of}
use Rattle.brisk_syntax.specs.declared.tree.Stmt.{Stmt}
use Rattle.brisk_syntax.specs.declared.tree.Stmt.TheVariants.{Assign, Send, Recv, RecvAny, If, While, For, Repeat}

-- the statement without the places of its parts in memory
abbrev pub statement_of : Stmt → tree.Statement
statement_of (Assign x e) = tree.Assign x (expression_of e)
statement_of (Send c es u) = tree.Send c es u
statement_of (Recv c xs u) = tree.Recv c xs u
statement_of (RecvAny r) = tree.RecvAny r.channel r.vars r.binder r.set r.body.value
statement_of (If e a None) = tree.If (expression_of e) a.value
statement_of (If e a (Some b)) = tree.IfElse (expression_of e) a.value b.value
statement_of (While e a) = tree.While (expression_of e) a.value
statement_of (For l) = tree.For l.binder l.set l.turn l.body.value
statement_of (Repeat l) = tree.Repeat l.set l.turn l.body.value

-- the statements as code
abbrev pub code_of : List Stmt → Code
code_of [] = done
code_of (s ∷ ss) = statement_of s ⨾ code_of ss
