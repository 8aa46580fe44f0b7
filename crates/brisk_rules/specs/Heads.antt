-- The heads at which compound rules begin.
use Rattle.std.specs.Prelude.{zero, Option, Some, None, if◌then◌else◌}
use Rattle.brisk_values.specs.Names.{Name, same_name}
use Rattle.brisk_syntax.specs.declared.tree.Who.TheVariants as who
use Rattle.brisk_syntax.specs.Substitution.{code_with}
use Rattle.brisk_syntax.specs.Syntax.{Expression, Recv, RecvAny, If, IfElse, While, For, Repeat, Code, done, ◌⨾◌, ◌then◌}
use Rattle.brisk_async.specs.Laws.{AnyReceive}

-- an if: its guard, and the code on each side
pub record Fork : Type 0 where
  pub guard : Expression
  pub first : Code
  pub second : Code

-- the code is at an if
abbrev pub fork_of : Code → Option Fork
fork_of (If e a ⨾ rest) = Some record { guard = e; first = a then rest; second = rest }
fork_of (IfElse e a b ⨾ rest) = Some record { guard = e; first = a then rest; second = b then rest }
fork_of code = None

-- a while: its guard, its body and its rest
pub record Guarded : Type 0 where
  pub guard : Expression
  pub body : Code
  pub rest : Code

-- the code is at a while
abbrev pub while_of : Code → Option Guarded
while_of (While e b ⨾ rest) = Some record { guard = e; body = b; rest = rest }
while_of code = None

-- a loop over a set that hasn't begun: the set, the body and the rest
pub record Loop : Type 0 where
  pub set : Name
  pub body : Code
  pub rest : Code

-- the code is at a repeat
abbrev pub repeat_of : Code → Option Loop
repeat_of (Repeat s zero b ⨾ rest) = Some record { set = s; body = b; rest = rest }
repeat_of code = None

-- the code is at a `for` over this set; in its body the binder is the member in focus
abbrev pub for_of : Name → Code → Option Loop
for_of s (For v r zero b ⨾ rest) = if same_name s r then Some record { set = s; body = code_with v (who.At s) b; rest = rest } else None
for_of s code = None

-- the code is at a receive from any
abbrev pub any_of : Code → Option AnyReceive
any_of (RecvAny c xs v s b ⨾ rest) = Some record { channel = c; variables = xs; binder = v; set = s; body = b; rest = rest }
any_of code = None

-- the code is at a gather: a repeat over a set whose only statement is a receive from any over the same set
abbrev pub gather_of : Code → Option AnyReceive
gather_of (Repeat s zero (RecvAny c xs v r b ⨾ done) ⨾ rest) =
    if same_name s r then Some record { channel = c; variables = xs; binder = v; set = s; body = b; rest = rest } else None
gather_of code = None

-- one receive of it, from the member in focus, and its body, where the binder is that member
abbrev pub from_focus : AnyReceive → Code
from_focus a = Recv a.channel a.variables (who.At a.set) ⨾ code_with a.binder (who.At a.set) a.body
