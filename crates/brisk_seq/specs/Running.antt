-- What contracts see of a run in code, and which run of the definition it is.
use Rattle.std.specs.Prelude.{◌≡◌, ℕ, ◌-◌, ◌≤◌, ◌^◌, Bool, false, List, [], ◌∷◌, length, drop, min, None, Result, Ok, Err, get_or, if◌then◌else◌, nat_eq}
use Rattle.std.specs.List.{list_any}
use Rattle.brisk_values.specs.declared.value.Pid.{Pid}
use Rattle.brisk_values.specs.Names.{Name, same_name, single}
use Rattle.brisk_values.specs.Places.{value_in}
use Rattle.brisk_syntax.specs.Declarations.{kind_in, role_named, decls_of}
use Rattle.brisk_syntax.specs.Stores.{Store}
use Rattle.brisk_syntax.specs.Value.{size_in}
use Rattle.brisk_seq.specs.declared.fault.SeqFault.{SeqFault}
use Rattle.brisk_seq.specs.declared.fault.SeqFault.TheVariants as fault
use Rattle.brisk_seq.specs.declared.evaluator.Running.{Running}
use Rattle.brisk_seq.specs.declared.evaluator.Setting.{Setting}
use Rattle.brisk_seq.specs.Cells.{box_in}
use Rattle.brisk_seq.specs.Items.{Items}
use Rattle.brisk_seq.specs.Sequential as spec
use Rattle.brisk_seq.specs.Sequential.{Stop, Run, Ended, Focus, Given, do_all, ended}

-- the number, which stays at the greatest of 64 bits
abbrev pub capped : ℕ → ℕ
capped n = min n (2 ^ 64 - 1)

-- what stays the same in a run
abbrev pub given_in : Setting → Given
given_in s = record { sizes = size_in s.sizes.now; kind = λ n. kind_in (decls_of (role_named s.roles.now n)) }

-- the process that a name stands for where these members were chosen, the last one of a set: otherwise p
abbrev pub chosen_or : Pid → List Pid → Name → Pid
chosen_or p [] n = p
chosen_or p (q ∷ qs) n = chosen_or (if same_name q.role n then q else p) qs n

-- the focus where these members were chosen
abbrev pub focus_on : List Pid → Focus
focus_on ps n = chosen_or (single n) ps n

-- the definition's run, with all choices and the number of moves that were made
abbrev pub run_of : List ℕ → ℕ → Running → Run
run_of choices n r = record {
  store = value_in r.store;
  box = box_in r.boxes;
  choices = drop r.asked choices;
  asked = r.asked;
  turns = r.turns;
  moves = n;
}

-- these moves were made as far as the run tells, and only choices that are there were taken
pub record HasMade (choices : List ℕ) (n : ℕ) (r : Running) : Type 0 where
  pub moves : r.moves ≡ capped n
  pub asked : r.asked ≤ length choices

-- the run goes on as this run in code
abbrev pub GoesOn : List ℕ → Ended → Running → Type 0
GoesOn choices e r = (n : ℕ) × HasMade choices n r × (e ≡ Ok (run_of choices n r))

-- the fault tells what stopped the run; want of memory may come anywhere
abbrev pub Tells : {X : Type 0} → Result X Stop → SeqFault → Type 0
Tells e fault.NoMemory = Unit {0}
Tells e (fault.BadChoice k) = e ≡ Err (spec.BadChoice k)
Tells e fault.ChoicesLeft = e ≡ Err spec.ChoicesLeft
Tells e fault.Turns = e ≡ Err spec.Turns
Tells e (fault.BadBox k) = (n : ℕ) × (k ≡ capped n) × (e ≡ Err (spec.BadBox n))
Tells e fault.BadInstance = ⊥
Tells e fault.TooLarge = ⊥

-- the action leads from the one run to the other
abbrev pub Goes : List ℕ → Running → Running → (Run → Ended) → Type 0
Goes choices old new action = (n : ℕ) → HasMade choices n old → GoesOn choices (action (run_of choices n old)) new

-- the action is stopped, as the fault tells
abbrev pub Stops : List ℕ → Running → (Run → Ended) → SeqFault → Type 0
Stops choices old action f = (n : ℕ) → HasMade choices n old → Tells (action (run_of choices n old)) f

-- the one action from the one run is the other action from the other run
abbrev pub Leads : List ℕ → Running → Running → (Run → Ended) → (Run → Ended) → Type 0
Leads choices old new action rest =
    (n : ℕ) → HasMade choices n old → (m : ℕ) × HasMade choices m new × (action (run_of choices n old) ≡ rest (run_of choices m new))

-- these are the marks of the members that were used
abbrev pub Marks : List Bool → List ℕ → Type 0
Marks marks used = (k : ℕ) → get_or marks k false ≡ list_any (nat_eq k) used

-- the store with which the items halt from this store, or what stops them
abbrev pub outcome : Given → Items → Store → List ℕ → ℕ → Result Store Stop
outcome given b store choices turns =
    ended (do_all given b single (record { store = store; box = λ n p q. None; choices = choices; asked = 0; turns = turns; moves = 0 }))
