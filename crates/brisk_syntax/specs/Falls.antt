-- Each body is smaller than the list that holds it.
use Rattle.std.specs.Prelude.{◌≤◌, max, List, [], ◌∷◌, Some, None}
use Rattle.std.proofs.Common.{arith}
use denote.Param.Weighed.{most}
use Rattle.brisk_syntax.specs.Depths.{code_depth, statement_depth}
use Rattle.brisk_syntax.specs.Statements.{code_of, statement_of}
use Rattle.brisk_syntax.specs.declared.tree.Stmt.{Stmt}
use Rattle.brisk_syntax.specs.declared.tree.Stmt.TheVariants.{Assign, Send, Recv, RecvAny, If, While, For, Repeat}
use Rattle.brisk_syntax.specs.declared.tree.Block.TheDeep.{deep-Stmt}

pub deep_le-statement_depth : (s : Stmt) → deep-Stmt s ≤ statement_depth (statement_of s)
deep_le-statement_depth (Assign x e) = omega arith
deep_le-statement_depth (Send c es u) = omega arith
deep_le-statement_depth (Recv c xs u) = omega arith
deep_le-statement_depth (RecvAny r) = omega arith
deep_le-statement_depth (If e a None) = omega arith
deep_le-statement_depth (If e a (Some b)) = omega arith
deep_le-statement_depth (While e a) = omega arith
deep_le-statement_depth (For l) = omega arith
deep_le-statement_depth (Repeat l) = omega arith

pub deep_le-code_depth : (ss : List Stmt) → max (most deep-Stmt ss) 0 ≤ code_depth (code_of ss)
deep_le-code_depth [] = omega arith
deep_le-code_depth (s ∷ ss) = omega (arith, deep_le-statement_depth s, deep_le-code_depth ss)
