-- Names as lists of bytes, and processes.
use Rattle.std.specs.Prelude.{ℕ, Bool, ◌&&◌, List, nat_eq}
use lib.Pointwise.{pointwise}
use Rattle.brisk_values.specs.declared.value.Pid.{Pid}

-- the bytes of a name
abbrev pub Name : Type 0
Name = List ℕ

-- the two names are the same
abbrev pub same_name : Name → Name → Bool
same_name = pointwise nat_eq

-- the two processes are the same
abbrev pub same_process : Pid → Pid → Bool
same_process p q = same_name p.role q.role && nat_eq p.member q.member

-- the process of a single role
abbrev pub single : Name → Pid
single n = record { role = n; member = 0 }

-- a member of a set
abbrev pub member : Name → ℕ → Pid
member s k = record { role = s; member = k }
