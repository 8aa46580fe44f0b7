-- The senders that next receives carry, and how they are kept.
use Rattle.std.specs.Prelude.{Option}
use Rattle.std.specs.Coded.{Coded}
use Rattle.std.specs.FinMap.{FinMap, code, get}
use Rattle.brisk_values.specs.declared.value.Pid.{Pid}
use Rattle.brisk_values.specs.Places.{process_cmp, coded_process}

-- for some processes a sender
abbrev pub Carried : Type 0
Carried = FinMap process_cmp Pid

abbrev pub coded_carried : Coded Carried
coded_carried = code coded_process coded_process

-- the sender of a process, if it has one
abbrev pub sender_in : Carried → Pid → Option Pid
sender_in m p = get m p
