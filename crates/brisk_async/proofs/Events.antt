-- A process has no event exactly where it is blocked.
use Rattle.std.proofs.Common.{◌≡◌, ℕ, ◌<◌, Bool, true, false, cond, List, [], ◌∷◌, Option, Some, None, refl, sym, ap, subst, ◌∙◌}
use Rattle.std.specs.Prelude.{IfSome, IsTrue, ◌↔◌, ◌&&◌, is_some, not, option_and_then, option_map, if◌then◌else◌, nat_lt}
use Rattle.std.specs.List.{All, AllByRecursion}
use Rattle.std.specs.BTreeMap.{BTreeMap, is_at}
use Rattle.std.specs.BTreeMap as tree
use Rattle.std.specs.Map.{lookup}
use Rattle.std.specs.FinMap.{from_entries}
use Rattle.std.proofs.lemmas.Bool.{lt-ltb, ltb-true}
use Rattle.std.proofs.lemmas.List.Elements.{All-weaker, recursion_from_All}
use Rattle.std.proofs.lemmas.Map.Views.{tells_apart}
use Rattle.brisk_values.specs.declared.value.Pid.{Pid}
use Rattle.brisk_values.specs.declared.value.Value.{Value}
use Rattle.brisk_values.specs.Names.{Name, member, same_name}
use Rattle.brisk_values.specs.Places.{process_cmp}
use Rattle.brisk_values.proofs.Changes.{exact_name, name_laws}
use Rattle.brisk_values.proofs.Entries.{exact_processes, process_total}
use Rattle.brisk_syntax.specs.Declarations.{is_loose}
use Rattle.brisk_syntax.specs.Segments.{head_of, or_done}
use Rattle.brisk_syntax.specs.Syntax.{Statement, Assign, Send, Recv, RecvAny, If, IfElse, While, For, Repeat, Code, done, ◌⨾◌}
use Rattle.brisk_async.specs.Blocked.{IsBlocked}
use Rattle.brisk_async.specs.Effects.{looks}
use Rattle.brisk_async.specs.Keys.{code_in_map}
use Rattle.brisk_async.specs.Machine.{IsTerminal, Mail, Payload, Queue, State, after, effect, is_member, partner, payload_at, place_of, queue, takes}
use Rattle.brisk_async.proofs.Heads.{done_effect}
use Rattle.brisk_async.proofs.Maps.{get_listed}

-- a queue is empty exactly where it has no oldest payload
pub empty_iff : (ms : List Payload) (o : Option Payload) (b : Bool) → o ≡ payload_at ms 0 → is_some o ≡ not b → IsTrue b ↔ (ms ≡ [])
empty_iff [] None true e h = (λ _. refl, λ _. refl)
empty_iff [] None false e h = cc
empty_iff [] (Some m) b e h = cc
empty_iff (m ∷ ms) None b e h = cc
empty_iff (m ∷ ms) (Some n) true e h = cc
empty_iff (m ∷ ms) (Some n) false e h = (λ t. cc, λ t. cc)

-- nothing is taken from an empty queue
none_taken : (ms : List Payload) (q : Queue) (xs : List Name) (next : Code) → ms ≡ [] → (o : Option ℕ) → option_and_then (λ k. takes q xs next k (payload_at ms k)) o ≡ None
none_taken [] q xs next e None = refl
none_taken [] q xs next e (Some k) = refl
none_taken (m ∷ ms) q xs next e o = cc

-- where nothing can be taken, the queue is empty
empty_queue : (loose : Bool) (ms : List Payload) (q : Queue) (xs : List Name) (next : Code) →
    ((place : Option ℕ) → option_and_then (λ k. takes q xs next k (payload_at ms k)) (place_of loose place) ≡ None) → ms ≡ []
empty_queue loose [] q xs next h = refl
empty_queue true (m ∷ ms) q xs next h = let e = h (Some 0) in cc
empty_queue false (m ∷ ms) q xs next h = let e = h None in cc

if_none : {X : Type 0} (b : Bool) (o : Option X) → (b ≡ true → o ≡ None) → (if b then o else None) ≡ None
if_none true o h = h refl
if_none false o h = refl

if_taken : {X : Type 0} (b : Bool) (o : Option X) → b ≡ true → (if b then o else None) ≡ None → o ≡ None
if_taken true o e h = h
if_taken false o e h = cc

-- a member of a set is the one with its number
inside : (sizes : Name → ℕ) (s : Name) (w : Pid) (P : Pid → Type 0) → ((k : ℕ) → k < sizes s → P (member s k)) → is_member sizes s w ≡ true → P w
inside sizes s w P h e =
    elim (same_name s w.role) as (λ b. same_name s w.role ≡ b → (b && nat_lt w.member (sizes s)) ≡ true → P w) [
      | true ↦ λ same below. subst P (λ j. record { role = exact_name s w.role same j; member = w.member }) (h w.member (ltb-true w.member (sizes s) below))
      | false ↦ λ same below. cc
    ] refl e

is_inside : (sizes : Name → ℕ) (s : Name) (k : ℕ) → k < sizes s → is_member sizes s (member s k) ≡ true
is_inside sizes s k below = ap (λ b. b && nat_lt k (sizes s)) (name_laws.refl s) ∙ lt-ltb k (sizes s) below

module _ (sizes : Name → ℕ) (loose : Name → Bool) (own : Name → Option Value) (mail : Mail) (p : Pid) where
  -- a process that is blocked has no event
  pub blocked_idle : (c : Code) → IsBlocked sizes mail p (head_of c) → (sender : Option Pid) (place : Option ℕ) →
      effect (looks sizes loose own (λ q. payload_at (mail q))) p c sender place ≡ None
  blocked_idle done h sender place = done_effect (looks sizes loose own (λ q. payload_at (mail q))) p sender place
  blocked_idle (Recv c xs u ⨾ rest) h None place = none_taken (mail (queue (partner u) p c)) (queue (partner u) p c) xs rest h (place_of (loose c) place)
  blocked_idle (Recv c xs u ⨾ rest) h (Some w) place = refl
  blocked_idle (RecvAny c xs v s b ⨾ rest) h None place = refl
  blocked_idle (RecvAny c xs v s b ⨾ rest) h (Some w) place =
      if_none (is_member sizes s w) _ (λ e.
      none_taken (mail (queue w p c)) (queue w p c) xs _ (inside sizes s w (λ z. mail (queue z p c) ≡ []) h e) (place_of (loose c) place))
  blocked_idle (Assign x e ⨾ rest) h sender place = absurd h
  blocked_idle (Send c es u ⨾ rest) h sender place = absurd h
  blocked_idle (If e a ⨾ rest) h sender place = absurd h
  blocked_idle (IfElse e a b ⨾ rest) h sender place = absurd h
  blocked_idle (While e b ⨾ rest) h sender place = absurd h
  blocked_idle (For v s k b ⨾ rest) h sender place = absurd h
  blocked_idle (Repeat s k b ⨾ rest) h sender place = absurd h

  -- a process without event is blocked
  pub idle_blocked : (c : Code) → ((sender : Option Pid) (place : Option ℕ) → effect (looks sizes loose own (λ q. payload_at (mail q))) p c sender place ≡ None) →
      IsBlocked sizes mail p (head_of c)
  idle_blocked done h = tt
  idle_blocked (Recv c xs u ⨾ rest) h = empty_queue (loose c) (mail (queue (partner u) p c)) (queue (partner u) p c) xs rest (h None)
  idle_blocked (RecvAny c xs v s b ⨾ rest) h = λ k below.
      let w = member s k in
      empty_queue (loose c) (mail (queue w p c)) (queue w p c) xs _ (λ place. if_taken (is_member sizes s w) _ (is_inside sizes s k below) (h (Some w) place))
  idle_blocked (Assign x e ⨾ rest) h = let n = h None None in cc
  idle_blocked (Send c es u ⨾ rest) h = let n = h None None in cc
  idle_blocked (If e a ⨾ rest) h = let n = h None None in cc
  idle_blocked (IfElse e a b ⨾ rest) h = let n = h None None in cc
  idle_blocked (While e b ⨾ rest) h = let n = h None None in cc
  idle_blocked (For v s k b ⨾ rest) h = let n = h None None in cc
  idle_blocked (Repeat s k b ⨾ rest) h = let n = h None None in cc

none_mapped : {A B : Type 0} (g : A → B) (o : Option A) → option_map g o ≡ None → o ≡ None
none_mapped g None h = refl
none_mapped g (Some x) h = cc

-- a state is terminal exactly where each process is blocked
pub terminal_iff : (s : State) → ((p : Pid) → IsBlocked s.sizes s.mail p (head_of (s.code p))) ↔ IsTerminal s
terminal_iff s = (
  λ h e. ap (option_map (after s e.process)) (blocked_idle s.sizes (is_loose s.program.channels) (s.store e.process) s.mail e.process (s.code e.process) (h e.process) e.sender e.place),
  λ h p. idle_blocked s.sizes (is_loose s.program.channels) (s.store p) s.mail p (s.code p)
      (λ sender place. none_mapped (after s p) _ (h record { process = p; sender = sender; place = place })),
)

found_at : (P : Pid → Code → Type 0) (es : List (Pid × Code)) → AllByRecursion (λ e. P e.0 e.1) es → (p : Pid) → IfSome (lookup (is_at (process_cmp p)) es) (P p)
found_at P [] h p = tt
found_at P (e ∷ es) h p =
    elim (is_at (process_cmp p) e.0) as (λ b. is_at (process_cmp p) e.0 ≡ b → IfSome (cond b (Some e.1) (lookup (is_at (process_cmp p)) es)) (P p)) [
      | true ↦ λ t. subst (λ q. P q e.1) (sym (tells_apart exact_processes p e.0 t)) h.0
      | false ↦ λ t. found_at P es h.1 p
    ] refl

-- what holds of each entry holds of each process's code, where it holds of empty code
pub each_entry : (P : Pid → Option Statement → Type 0) → ((p : Pid) → P p None) → (es : List (Pid × Code)) → All (λ e. P e.0 (head_of e.1)) es → (p : Pid) →
    P p (head_of (code_in_map (from_entries es) p))
each_entry P none es h p =
    subst (λ x. P p (head_of (or_done x))) (sym (get_listed process_total es p))
    (by_found (lookup (is_at (process_cmp p)) es) (found_at (λ q c. P q (head_of c)) es (recursion_from_All (λ e. P e.0 (head_of e.1)) es h) p))
  where
    by_found : (o : Option Code) → IfSome o (λ c. P p (head_of c)) → P p (head_of (or_done o))
    by_found None h = none p
    by_found (Some c) h = h

-- what holds of each process's code holds of each entry
pub entry_each : (P : Pid → Option Statement → Type 0) (m : BTreeMap Pid Code) → All (λ e. tree.get process_cmp m e.0 ≡ Some e.1) m.entries →
    ((p : Pid) → P p (head_of (code_in_map (from_entries m.entries) p))) → All (λ e. P e.0 (head_of e.1)) m.entries
entry_each P m found h =
    All-weaker (λ e. tree.get process_cmp m e.0 ≡ Some e.1) (λ e. P e.0 (head_of e.1))
    (λ e g. subst (λ o. P e.0 (head_of (or_done o))) (get_listed process_total m.entries e.0 ∙ g) (h e.0)) m.entries found
