-- The quiet test: whether a member can send on a channel before it has heard from a receiver.
use Rattle.std.specs.Prelude.{ℕ, zero, suc, ◌-◌, max, Option, Some, None, length, if◌then◌else◌}
use Rattle.brisk_values.specs.Functions.{changed}
use Rattle.brisk_values.specs.Names.{Name, same_name}
use Rattle.brisk_syntax.specs.declared.tree.Who.{Who}
use Rattle.brisk_syntax.specs.declared.tree.Who.TheVariants as who
use Rattle.brisk_syntax.specs.Syntax.{Assign, Send, Recv, RecvAny, If, IfElse, While, For, Repeat, Code, done, ◌⨾◌}
use Rattle.brisk_state.specs.Symbolic.{key, Symbolic, thread_named, partner_of, is_partner, numbers_at}
use Rattle.brisk_quiet.specs.declared.stillness.Stillness.{Stillness}
use Rattle.brisk_quiet.specs.declared.stillness.Stillness.TheVariants as still

-- how many messages pend from the receiver to the member, for each channel
abbrev pub Counts : Type 0
Counts = Name → ℕ

-- a walk through code waits for the receiver, comes to its end with so many messages left, or sends
pub data Walked : Type 0 where
  Blocks : Walked
  Ends : (left : Counts) → Walked
  Sends : Walked

-- goes on where the walk came to an end
abbrev pub on_end : Walked → (Counts → Walked) → Walked
on_end Blocks go = Blocks
on_end (Ends left) go = go left
on_end Sends go = Sends

-- after either of two branches: the greatest numbers of those that end
abbrev pub either : Walked → Walked → Walked
either Sends w = Sends
either Blocks w = w
either (Ends m) Sends = Sends
either (Ends m) Blocks = Ends m
either (Ends m) (Ends n) = Ends (λ c. max (m c) (n c))

-- after the body of a loop, which sends or counts for nothing
abbrev pub unless_sends : Walked → Walked → Walked
unless_sends Sends w = Sends
unless_sends Blocks w = w
unless_sends (Ends left) w = w

-- a receive from the receiver waits where no message is left
abbrev pub if_any : ℕ → Walked → Walked
if_any zero w = Blocks
if_any (suc n) w = w

-- the numbers, but one less on a channel
abbrev pub one_less : Counts → Name → Counts
one_less left c = changed same_name left c (left c - 1)

-- the receiver as a partner in code in which this name is a binder
abbrev pub under : Name → Option Who → Option Who
under v (Some (who.Name t)) = if same_name v t then None else Some (who.Name t)
under v receiver = receiver

-- the walk through code, from what names the receiver there, for a channel
abbrev pub walk : Option Who → Name → Code → Counts → Walked
walk receiver c done left = Ends left
walk receiver c (Assign x e ⨾ rest) left = walk receiver c rest left
walk receiver c (Send d es u ⨾ rest) left = if same_name c d then Sends else walk receiver c rest left
walk receiver c (Recv d xs u ⨾ rest) left =
    if is_partner receiver u then if_any (left d) (walk receiver c rest (one_less left d)) else walk receiver c rest left
walk receiver c (RecvAny d xs v s b ⨾ rest) left = on_end (walk (under v receiver) c b left) (walk receiver c rest)
walk receiver c (If e a ⨾ rest) left = on_end (either (walk receiver c a left) (Ends left)) (walk receiver c rest)
walk receiver c (IfElse e a b ⨾ rest) left = on_end (either (walk receiver c a left) (walk receiver c b left)) (walk receiver c rest)
walk receiver c (While e b ⨾ rest) left = unless_sends (walk receiver c b left) (walk receiver c rest left)
walk receiver c (For v s k b ⨾ rest) left = unless_sends (walk (under v receiver) c b left) (walk receiver c rest left)
walk receiver c (Repeat s k b ⨾ rest) left = unless_sends (walk receiver c b left) (walk receiver c rest left)

-- how a walk comes out
abbrev pub comes_out : Walked → Stillness
comes_out Blocks = still.Blocks
comes_out (Ends left) = still.Ends
comes_out Sends = still.Sends

-- the quiet test of a member's code, for a receiver and a channel
abbrev pub quiet : Symbolic → Code → Name → Name → Name → Stillness
quiet S code member receiver channel =
    comes_out (walk (partner_of (thread_named S.threads receiver)) channel code (λ c. length (numbers_at S.pending (key receiver member c))))
