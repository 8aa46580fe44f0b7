-- Processes that have no event.
use Rattle.std.specs.Prelude.{◌≡◌, ℕ, ◌<◌, [], Option, Some, None}
use Rattle.brisk_values.specs.declared.value.Pid.{Pid}
use Rattle.brisk_values.specs.Names.{Name, member}
use Rattle.brisk_syntax.specs.Syntax.{Statement, Recv, RecvAny}
use Rattle.brisk_async.specs.Machine.{Mail, partner, queue}

-- the process with this head has no event: nothing is left to do, or it is a receive and all its queues are empty
abbrev pub IsBlocked : (Name → ℕ) → Mail → Pid → Option Statement → Type 0
IsBlocked sizes mail p None = Unit {0}
IsBlocked sizes mail p (Some (Recv c xs u)) = mail (queue (partner u) p c) ≡ []
IsBlocked sizes mail p (Some (RecvAny c xs v s b)) = (k : ℕ) → k < sizes s → mail (queue (member s k) p c) ≡ []
IsBlocked sizes mail p (Some s) = ⊥
