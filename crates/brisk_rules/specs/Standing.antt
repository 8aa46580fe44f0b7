-- Where threads stand, and which of them go on where the owners of a rule are at their end.
use Rattle.std.specs.Prelude.{ℕ, zero, suc, Bool, true, false, ◌&&◌, ◌||◌, not, List, [], ◌∷◌, map, filter, Option, Some, None, is_some, if◌then◌else◌, nat_eq}
use Rattle.std.specs.List.{list_any}
use Rattle.brisk_values.specs.Names.{Name, same_name}
use Rattle.brisk_syntax.specs.declared.tree.Who.{Who}
use Rattle.brisk_syntax.specs.declared.tree.Who.TheVariants as who
use Rattle.brisk_syntax.specs.Syntax.{Code, done}
use Rattle.brisk_syntax.specs.Typing.{is_among}
use Rattle.brisk_state.specs.Same.{same_code}
use Rattle.brisk_state.specs.Symbolic.{Symbolic, Pending, thread_named, code_at, numbers_at, is_in_use}
use Rattle.brisk_derivation.specs.declared.fault.SideFault.{SideFault}
use Rattle.brisk_derivation.specs.declared.fault.SideFault.TheVariants.{NotQuiet}
use Rattle.brisk_rules.specs.Rules.{looks, Scope, Everything, Outside, Inside, Owner, Entered, code_in, looks_at_code, first_fault, close_tests}

-- where the thread stands
abbrev pub stands_at : Symbolic → Name → Code
stands_at S t = code_in (thread_named S.threads t)

-- the thread has code
abbrev pub has_code : Symbolic → Name → Bool
has_code S t = not (same_code (stands_at S t) done)

-- rules move the thread
abbrev pub is_movable : Symbolic → Name → Bool
is_movable S t = is_some (code_at S t)

-- the threads, in role order
abbrev pub thread_names : Symbolic → List Name
thread_names S = map (λ u. u.name) S.threads

-- the threads that rules move
abbrev pub movable : Symbolic → List Name
movable S = filter (is_movable S) (thread_names S)

-- the threads with code that rules don't move: sets that aren't in focus
abbrev pub resting : Symbolic → List Name
resting S = filter (λ s. not (is_movable S s) && has_code S s) (thread_names S)

-- the thread that a partner is
abbrev pub thread_of : Who → Name
thread_of (who.Name t) = t
thread_of (who.At s) = s
thread_of (who.Pid p) = p.role

-- the least number from this one on that no pending box has, among so many
abbrev pub free_from : ℕ → ℕ → Pending → Option ℕ
free_from zero n pending = None
free_from (suc m) n pending = let larger = free_from m (suc n) pending in if is_in_use pending n then larger else Some n

-- the least number of a box that is free
abbrev pub least_free : Pending → Option ℕ
least_free = free_from 1000000 1

-- the set in focus, where a rule has one
abbrev pub focus_of : Scope → List Name
focus_of Everything = []
focus_of (Outside s) = s ∷ []
focus_of (Inside s) = s ∷ []

-- the owners of a rule
abbrev pub owners_of : Entered → List Name
owners_of r = map (λ o. o.name) r.owners

-- the first close test that fails, facts aside
abbrev pub fault_aside : Entered → Symbolic → Option SideFault
fault_aside r E = first_fault (close_tests (record r { known = [] }) E)

-- a message pends for the thread that didn't pend under its key at the premise's start
abbrev pub has_new_message : Entered → Symbolic → Name → Bool
has_new_message r E u = list_any (λ e. same_name u e.0.to && list_any (λ n. not (list_any (nat_eq n) (numbers_at r.start.pending e.0))) e.1) E.pending

-- the close looks at the thread's code, and it isn't that of the premise's start
abbrev pub is_moved : Entered → Symbolic → Name → Bool
is_moved r E u = looks_at_code r u && not (same_code (stands_at r.start u) (stands_at E u))

-- the fault is that the member in focus may send
abbrev pub is_not_quiet : Option SideFault → Bool
is_not_quiet (Some NotQuiet) = true
is_not_quiet fault = false

-- a thread that goes on where the owners are at their end: it has a new message, or has moved, or may send
abbrev pub is_candidate : Entered → Symbolic → Name → Bool
is_candidate r E u = has_new_message r E u || is_moved r E u || is_among (focus_of (looks r.kind)) u && is_not_quiet (fault_aside r E)

-- where a rule has no owners, each thread goes on
abbrev pub may_go_on : List Owner → Entered → Symbolic → Name → Bool
may_go_on [] r E u = true
may_go_on (o ∷ os) r E u = is_candidate r E u

-- the threads that go on where the owners are at their end
abbrev pub candidates : Entered → Symbolic → List Name
candidates r E = filter (may_go_on r.owners r E) (movable E)
