-- A member in the place of a binder.
use Rattle.std.specs.Prelude.{if◌then◌else◌}
use Rattle.brisk_values.specs.Names.{Name, same_name}
use Rattle.brisk_syntax.specs.declared.tree.Who.{Who}
use Rattle.brisk_syntax.specs.declared.tree.Who.TheVariants as who
use Rattle.brisk_syntax.specs.Syntax.{Statement, Assign, Send, Recv, RecvAny, If, IfElse, While, For, Repeat, Code, done, ◌⨾◌}

-- the partner w where the binder v stands
abbrev pub who_with : Name → Who → Who → Who
who_with v w (who.Name n) = if same_name v n then w else who.Name n
who_with v w (who.At s) = who.At s
who_with v w (who.Pid p) = who.Pid p

-- code with each partner changed by h
abbrev mutual
  pub statement_map : (Who → Who) → Statement → Statement
  statement_map h (Assign x e) = Assign x e
  statement_map h (Send c es u) = Send c es (h u)
  statement_map h (Recv c xs u) = Recv c xs (h u)
  statement_map h (RecvAny c xs v s b) = RecvAny c xs v s (code_map h b)
  statement_map h (If e a) = If e (code_map h a)
  statement_map h (IfElse e a b) = IfElse e (code_map h a) (code_map h b)
  statement_map h (While e b) = While e (code_map h b)
  statement_map h (For v s k b) = For v s k (code_map h b)
  statement_map h (Repeat s k b) = Repeat s k (code_map h b)

  pub code_map : (Who → Who) → Code → Code
  code_map h done = done
  code_map h (s ⨾ c) = statement_map h s ⨾ code_map h c

-- the statement with w in the place of the binder v
abbrev pub statement_with : Name → Who → Statement → Statement
statement_with v w = statement_map (who_with v w)

-- the code with w in the place of the binder v
abbrev pub code_with : Name → Who → Code → Code
code_with v w = code_map (who_with v w)
