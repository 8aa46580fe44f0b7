-- What contracts see of statements, where sends to a binder are left out.
use Rattle.std.specs.Prelude.{Bool, false, if◌then◌else◌}
use Rattle.brisk_values.specs.Names.{Name, same_name}
use Rattle.brisk_syntax.specs.Syntax.{Statement, Assign, Send, Recv, RecvAny, If, IfElse, While, For, Repeat, Code}
use Rattle.brisk_quiet.specs.Sender.{is_binder, unsent}

-- the statement is a send to the binder
abbrev pub is_sent_to : Name → Statement → Bool
is_sent_to v (Send c es u) = is_binder v u
is_sent_to v s = false

-- the code in which this is a binder, without its sends to another
abbrev pub unsent_under : Name → Name → Code → Code
unsent_under v w b = if same_name v w then b else unsent v b

-- the statement without the sends in it
abbrev pub statement_unsent : Name → Statement → Statement
statement_unsent v (Assign x e) = Assign x e
statement_unsent v (Send c es u) = Send c es u
statement_unsent v (Recv c xs u) = Recv c xs u
statement_unsent v (RecvAny c xs w s b) = RecvAny c xs w s (unsent_under v w b)
statement_unsent v (If e a) = If e (unsent v a)
statement_unsent v (IfElse e a b) = IfElse e (unsent v a) (unsent v b)
statement_unsent v (While e b) = While e (unsent v b)
statement_unsent v (For w s k b) = For w s k (unsent_under v w b)
statement_unsent v (Repeat s k b) = Repeat s k (unsent v b)
