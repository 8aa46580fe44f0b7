-- The keys of a store, how they are ordered, and how they are kept.
use Rattle.std.specs.Prelude.{Option}
use Rattle.std.specs.declared.cmp.Ordering.{Ordering}
use Rattle.std.specs.Ordering.{nat_cmp, ordering_then}
use Rattle.std.specs.Cmp.Lexicographic.{slice_cmp}
use Rattle.std.specs.Coded.{Coded, coded×, coded_ℕ, coded_list}
use Rattle.std.specs.FinMap.{FinMap, get}
use Rattle.brisk_values.specs.Names.{Name}
use Rattle.brisk_values.specs.declared.value.Pid.{Pid}
use Rattle.brisk_values.specs.declared.value.Value.{Value}
use Rattle.brisk_values.specs.contracts.value.Pid as process
use Rattle.brisk_values.specs.contracts.value.Value as value

-- by role, and then by member
abbrev pub process_cmp : Pid → Pid → Ordering
process_cmp p q = ordering_then (slice_cmp nat_cmp p.role q.role) (nat_cmp p.member q.member)

-- by process, and then by variable
abbrev pub place_cmp : Pid × Name → Pid × Name → Ordering
place_cmp a b = ordering_then (process_cmp a.0 b.0) (slice_cmp nat_cmp a.1 b.1)

-- a store: from a process and a variable to a value
abbrev pub Entries : Type 0
Entries = FinMap place_cmp Value

-- the value of a variable of a process
abbrev pub value_in : Entries → Pid → Name → Option Value
value_in m p x = get m (p, x)

abbrev pub coded_name : Coded Name
coded_name = coded_list coded_ℕ

abbrev pub coded_process : Coded Pid
coded_process = process.the_row.coded

abbrev pub coded_place : Coded (Pid × Name)
coded_place = coded× coded_process coded_name

abbrev pub coded_value : Coded Value
coded_value = value.the_row.coded
