-- Symbolic states: where each role stands, which messages pend, and what is known.
use Rattle.std.specs.Prelude.{ℕ, Bool, true, false, ◌&&◌, not, List, [], ◌∷◌, map, Option, Some, None, filter, if◌then◌else◌, nat_eq}
use Rattle.std.specs.List.{list_any}
use Rattle.std.specs.declared.cmp.Ordering.{Ordering}
use Rattle.std.specs.Ordering.{nat_cmp, ordering_then}
use Rattle.std.specs.Cmp.Lexicographic.{slice_cmp}
use Rattle.std.specs.FinMap.{find, put}
use lib.Pointwise.{pointwise}
use Rattle.brisk_values.specs.Names.{Name, same_name}
use Rattle.brisk_syntax.specs.declared.program.Decl.{Decl}
use Rattle.brisk_syntax.specs.declared.program.Decl.TheVariants as decl
use Rattle.brisk_syntax.specs.declared.program.Program.{Program}
use Rattle.brisk_syntax.specs.declared.tree.Who.{Who}
use Rattle.brisk_syntax.specs.declared.tree.Who.TheVariants as who
use Rattle.brisk_syntax.specs.Declarations.{constant_value}
use Rattle.brisk_syntax.specs.Roles.{RoleText}
use Rattle.brisk_syntax.specs.Syntax.{Code}
use Rattle.brisk_facts.specs.Facts.{Facts, with_fact}
use Rattle.brisk_state.specs.declared.thread.Mode.{Mode}
use Rattle.brisk_state.specs.declared.thread.Mode.TheVariants.{One, At, Each}
use Rattle.brisk_state.specs.declared.thread.Thread.{Thread}
use Rattle.brisk_state.specs.Same.{same_code}

-- under which a message pends: sender, receiver and channel
pub record Key : Type 0 where
  pub from : Name
  pub to : Name
  pub channel : Name

-- the key of these
abbrev pub key : Name → Name → Name → Key
key t u c = record { from = t; to = u; channel = c }

-- the two keys are the same
abbrev pub same_key : Key → Key → Bool
same_key a b = same_name a.from b.from && same_name a.to b.to && same_name a.channel b.channel

-- by sender, then by receiver, and then by channel
abbrev pub key_cmp : Key → Key → Ordering
key_cmp a b = ordering_then (slice_cmp nat_cmp a.from b.from) (ordering_then (slice_cmp nat_cmp a.to b.to) (slice_cmp nat_cmp a.channel b.channel))

-- the numbers of the boxes that pend under each key that has any, in the order of filling; the keys stand in order
abbrev pub Pending : Type 0
Pending = List (Key × List ℕ)

-- A symbolic state: the threads in role order, the pending boxes, and the facts.
pub record Symbolic : Type 0 where
  pub threads : List Thread
  pub pending : Pending
  pub facts : Facts

-- the thread of this name, where there is one
abbrev pub thread_named : List Thread → Name → Option Thread
thread_named [] t = None
thread_named (u ∷ us) t = if same_name t u.name then Some u else thread_named us t

-- rules move threads of this mode: a single role, and a set's member in focus
abbrev pub is_active : Mode → Bool
is_active One = true
is_active At = true
is_active Each = false

-- the code of a thread that rules move
abbrev pub active_code : Option Thread → Option Code
active_code None = None
active_code (Some u) = if is_active u.mode then Some u.code else None

-- the code of the thread t, where rules move it
abbrev pub code_at : Symbolic → Name → Option Code
code_at S t = active_code (thread_named S.threads t)

-- how other threads name a thread of this mode: a single role by its name, and a set by its member in focus
abbrev pub partner_by : Mode → Name → Option Who
partner_by One t = Some (who.Name t)
partner_by At s = Some (who.At s)
partner_by Each s = None

-- how other threads name the thread, where there is one
abbrev pub partner_of : Option Thread → Option Who
partner_of None = None
partner_of (Some u) = partner_by u.mode u.name

-- the two partners are the same role, or the member in focus of the same set
abbrev pub same_partner : Who → Who → Bool
same_partner (who.Name t) (who.Name u) = same_name t u
same_partner (who.At s) (who.At r) = same_name s r
same_partner u w = false

-- the partner is this one, if there is one
abbrev pub is_partner : Option Who → Who → Bool
is_partner None w = false
is_partner (Some u) w = same_partner u w

-- the partner w of a statement is the thread u
abbrev pub stands_for : Symbolic → Name → Who → Bool
stands_for S u w = is_partner (partner_of (thread_named S.threads u)) w

-- the threads, but with one changed
abbrev pub with_thread : Name → (Thread → Thread) → List Thread → List Thread
with_thread t change threads = map (λ u. if same_name t u.name then change u else u) threads

-- the threads, where t stands at this code
abbrev pub with_code : Name → Code → List Thread → List Thread
with_code t code = with_thread t (λ u. record u { code = code })

-- the threads, where a set has this mode
abbrev pub with_mode : Name → Mode → List Thread → List Thread
with_mode s mode = with_thread s (λ u. record u { mode = mode })

-- the numbers under a key, and none where it isn't there
abbrev pub or_none : Option (List ℕ) → List ℕ
or_none None = []
or_none (Some ns) = ns

-- the numbers that pend under a key, the oldest first
abbrev pub numbers_at : Pending → Key → List ℕ
numbers_at pending k = or_none (find key_cmp k pending)

-- the pending boxes, where these numbers stand under the key
abbrev pub with_numbers : Key → List ℕ → Pending → Pending
with_numbers k [] pending = filter (λ e. not (same_key k e.0)) pending
with_numbers k (n ∷ ns) pending = put key_cmp k (n ∷ ns) pending

-- a pending box has this number
abbrev pub is_in_use : Pending → ℕ → Bool
is_in_use pending n = list_any (λ e. list_any (nat_eq n) e.1) pending

-- the boxes that pend under keys that pass the test
abbrev pub pending_where : (Key → Bool) → Pending → Pending
pending_where test pending = filter (λ e. test e.0) pending

-- the same numbers pend under each key
abbrev pub same_pending : Pending → Pending → Bool
same_pending = pointwise (λ d e. same_key d.0 e.0 && pointwise nat_eq d.1 e.1)

-- the two modes are the same
abbrev pub same_mode : Mode → Mode → Bool
same_mode One One = true
same_mode At At = true
same_mode Each Each = true
same_mode m n = false

-- the two threads are the same
abbrev pub same_thread : Thread → Thread → Bool
same_thread t u = same_name t.name u.name && same_mode t.mode u.mode && same_code t.code u.code

-- the two states are the same in threads and pending
abbrev pub same_but_facts : Symbolic → Symbolic → Bool
same_but_facts S E = pointwise same_thread S.threads E.threads && same_pending S.pending E.pending

-- the thread with which a role begins: all members of a set stand at its code
abbrev pub first_thread : RoleText → Thread
first_thread r = record { name = r.name; mode = if r.many then Each else One; code = r.code }

-- what is known of a role at first: the value of each variable that is declared with one, and of no input
abbrev pub first_facts : Name → List Decl → Facts → Facts
first_facts at [] facts = facts
first_facts at (decl.Var x k c ∷ ds) facts = with_fact at x (constant_value c) (first_facts at ds facts)
first_facts at (decl.Input x k ∷ ds) facts = first_facts at ds facts

-- the same for several roles
abbrev pub all_first_facts : List RoleText → Facts
all_first_facts [] = []
all_first_facts (r ∷ rs) = first_facts r.name r.decls (all_first_facts rs)

-- the state in which a derivation begins
abbrev pub initial : Program → Symbolic
initial P = record { threads = map first_thread P.roles; pending = []; facts = all_first_facts P.roles }
