-- What contracts see of a machine, and the state that it is.
use Rattle.std.specs.Prelude.{◌≡◌, ℕ, Bool, false, List, Option, Some, None, refl, if◌then◌else◌, nat_lt, is_some}
use Rattle.std.specs.Coded.{Coded, code_by, coded×, coded_list, coded_ℕ}
use Rattle.std.specs.FinMap as map
use Rattle.brisk_values.specs.declared.value.Pid.{Pid}
use Rattle.brisk_values.specs.Names.{Name}
use Rattle.brisk_values.specs.Places.{Entries, value_in, coded_name, coded_place, coded_value}
use Rattle.brisk_syntax.specs.declared.program.Program.{Program}
use Rattle.brisk_syntax.specs.contracts.program.Program as program
use Rattle.brisk_syntax.specs.Declarations.{role_named}
use Rattle.brisk_syntax.specs.Roles.{RoleText}
use Rattle.brisk_syntax.specs.Value.{size_in}
use Rattle.brisk_async.specs.Keys.{Processes, Queues, code_in_map, coded_processes, coded_queues, mail_in}
use Rattle.brisk_async.specs.Machine.{State}

-- a machine's program, its sizes, the code of each process, the store and the queues that were used
pub record Kept : Type 0 where
  pub program : Program
  pub sizes : List (Name × ℕ)
  pub codes : Processes
  pub store : Entries
  pub mail : Queues

abbrev pub coded_kept : Coded Kept
coded_kept = code_by (Program × (List (Name × ℕ) × (Processes × (Entries × Queues))))
    (coded× program.the_row.coded (coded× (coded_list (coded× coded_name coded_ℕ)) (coded× coded_processes (coded× (map.code coded_place coded_value) coded_queues))))
    (λ k. (k.program, (k.sizes, (k.codes, (k.store, k.mail))))) (λ p. record { program = p.0; sizes = p.1.0; codes = p.1.1.0; store = p.1.1.1.0; mail = p.1.1.1.1 }) (λ _. refl)

-- the state that a machine is
abbrev pub state_of : Kept → State
state_of k = record { program = k.program; sizes = size_in k.sizes; code = code_in_map k.codes; store = value_in k.store; mail = mail_in k.mail }

-- the role has a member with this number
abbrev pub has_member : (Name → ℕ) → ℕ → Option RoleText → Bool
has_member sizes k None = false
has_member sizes k (Some r) = nat_lt k (if r.many then sizes r.name else 1)

-- the process is in the instance
abbrev pub is_process : Program → (Name → ℕ) → Pid → Bool
is_process P sizes p = has_member sizes p.member (role_named P.roles p.role)

-- exactly the processes of the instance have code, be it empty
abbrev pub HasProcesses : Program → List (Name × ℕ) → Processes → Type 0
HasProcesses P sizes codes = (p : Pid) → is_some (map.get codes p) ≡ is_process P (size_in sizes) p
