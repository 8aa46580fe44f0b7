-- How all processes stand to their gathers.
use Rattle.std.specs.Prelude.{false, [], Option, Some, None}
use Rattle.std.specs.Coded.{Coded}
use Rattle.std.specs.FinMap.{FinMap, code, get}
use Rattle.brisk_values.specs.declared.value.Pid.{Pid}
use Rattle.brisk_values.specs.Places.{process_cmp, coded_process}
use Rattle.brisk_trace.specs.declared.standing.Standing.{Standing}
use Rattle.brisk_trace.specs.contracts.standing.Standing as standing

-- the standings of the processes that have taken an event
abbrev pub Standings : Type 0
Standings = FinMap process_cmp Standing

abbrev pub coded_standings : Coded Standings
coded_standings = code coded_process standing.the_row.coded

-- how a process stands at the start
abbrev pub at_start : Standing
at_start = record { at_receive = false; runs = [] }

-- the standing of an option, and that at the start of none
abbrev pub or_start : Option Standing → Standing
or_start None = at_start
or_start (Some st) = st

-- how each process stands
abbrev pub standing_in : Standings → Pid → Standing
standing_in m p = or_start (get m p)
