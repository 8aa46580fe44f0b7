-- What contracts see of a rule that is entered.
use Rattle.std.specs.Prelude.{◌≡◌, ℕ, ◌+◌, Bool, true, false, List, ◌∷◌, map, Option, Some, None, Result, Ok, Err, IsErr}
use Rattle.brisk_values.specs.Names.{Name}
use Rattle.brisk_syntax.specs.Syntax.{Code}
use Rattle.brisk_basic.specs.declared.rule.RuleFault.TheVariants.{NoThread}
use Rattle.brisk_derivation.specs.declared.fault.SideFault.TheVariants.{SetIsFocused}
use Rattle.brisk_state.specs.declared.thread.Mode.{Mode}
use Rattle.brisk_state.specs.declared.thread.Mode.TheVariants.{At, Each}
use Rattle.brisk_state.specs.declared.thread.Thread.{Thread}
use Rattle.brisk_state.specs.Symbolic.{Symbolic, with_code}
use Rattle.brisk_loops.specs.declared.fault.AcceptFault.{AcceptFault}
use Rattle.brisk_loops.specs.declared.fault.AcceptFault.TheVariants as fault
use Rattle.brisk_loops.specs.declared.fault.Refusal.{Refusal}
use Rattle.brisk_loops.specs.declared.fault.Refusal.TheVariants.{Because, NoMemory}
use Rattle.brisk_rules.specs.declared.why.Why.{Why}
use Rattle.brisk_rules.specs.declared.why.Why.TheVariants.{Rule, Side}
use Rattle.brisk_rules.specs.Heads.{Loop, for_of}
use Rattle.brisk_rules.specs.Rules.{Outcome, Entered, Parted, at_head}
use Rattle.brisk_loops.specs.Walk.{Inside, starts}
use Rattle.brisk_loops.specs.WalkKept.{kept}

-- the rule is entered, and its premise starts so
abbrev pub StartsAt : Outcome Entered → Symbolic → Type 0
StartsAt outcome S = (r : Entered) × (outcome ≡ Ok r) × (r.start ≡ S)

-- where a side of a branch starts: the first where the guard is true
abbrev pub side_start : Bool → Parted → Symbolic
side_start true r = r.first
side_start false r = r.second

-- the branch is entered, and its side starts so
abbrev pub SideAt : Bool → Outcome Parted → Symbolic → Type 0
SideAt truth outcome S = (r : Parted) × (outcome ≡ Ok r) × (side_start truth r ≡ S)

-- something is entered, and starts so
abbrev pub StartsIn : Outcome Inside → Symbolic → Type 0
StartsIn outcome S = (i : Inside) × (outcome ≡ Ok i) × (starts i ≡ S)

-- the test fails for this cause, or there is no memory
abbrev pub Refuses : {A : Type 0} → Outcome A → Refusal → Type 0
Refuses outcome (Because why) = outcome ≡ Err why
Refuses outcome NoMemory = Unit {0}

-- how a refusal is told after so many counted calls
abbrev pub refused_at : ℕ → Refusal → AcceptFault
refused_at counted (Because why) = fault.Bad (kept (counted + 2)) why
refused_at counted NoMemory = fault.NoMemory

-- the loop over a set at which a thread stands
abbrev pub loop_at : Symbolic → Name → Name → Outcome Loop
loop_at S s t = at_head S t (for_of s) (λ l. Ok l)

-- the code is the loop's body
abbrev pub IsBody : Outcome Loop → Code → Type 0
IsBody outcome body = (l : Loop) × (outcome ≡ Ok l) × (body ≡ l.body)

-- these are the loops' bodies
abbrev pub AreBodies : Outcome (List Loop) → List Code → Type 0
AreBodies outcome bodies = (ls : List Loop) × (outcome ≡ Ok ls) × (bodies ≡ map (λ l. l.body) ls)

-- each thread stands at its code
abbrev pub at_codes : List Name → List Code → List Thread → List Thread
at_codes (t ∷ ts) (c ∷ cs) threads = at_codes ts cs (with_code t c threads)
at_codes ts cs threads = threads

-- why a thread of this mode isn't a set that can be brought into focus
abbrev pub focus_fault : Option Mode → Option Why
focus_fault (Some Each) = None
focus_fault (Some At) = Some (Side SetIsFocused)
focus_fault mode = Some (Rule NoThread)

-- the mode is that of a set in focus
abbrev pub is_at : Option Mode → Bool
is_at (Some At) = true
is_at mode = false

-- what a refusal tells is its reason; or there was no memory
abbrev pub TellsWhy : {E : Type 0} → Refusal → Result (Option Why) E → Type 0
TellsWhy (Because why) told = told ≡ Ok (Some why)
TellsWhy NoMemory told = IsErr told
