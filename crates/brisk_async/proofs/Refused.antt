-- An event that no test refuses has a next state.
use Rattle.std.proofs.Common.{◌≡◌, ℕ, Bool, true, false, List, [], ◌∷◌, Option, Some, None, refl, ap, ◌∙◌}
use Rattle.std.specs.Prelude.{IsSome, IsTrue, ◌↔◌, option_map, is_none, not, option_and_then, if◌then◌else◌}
use Rattle.brisk_values.specs.declared.value.Pid.{Pid}
use Rattle.brisk_values.specs.declared.value.Value.{Value}
use Rattle.brisk_values.specs.Names.{Name}
use Rattle.brisk_syntax.specs.Declarations.{is_loose}
use Rattle.brisk_syntax.specs.Syntax.{Assign, Send, Recv, RecvAny, If, IfElse, While, For, Repeat, Code, done, ◌⨾◌}
use Rattle.brisk_async.specs.declared.fault.StepFault.{StepFault}
use Rattle.brisk_async.specs.declared.fault.StepFault.TheVariants.{NoProcess, NoSuchSender, Blocked, NoSuchPlace}
use Rattle.brisk_async.specs.declared.event.Event.{Event}
use Rattle.brisk_async.specs.Effects.{looks}
use Rattle.brisk_async.specs.Machine.{Effect, Mail, Payload, Queue, State, View, after, effect, effect_in, is_member, partner, payload_at, place_of, queue, seen_by, step, takes}
use Rattle.brisk_async.specs.Refusals.{queue_refusal, refusal, refusal_at, tested}
use Rattle.brisk_async.specs.States.{is_process}
use Rattle.brisk_async.proofs.Heads.{done_effect}

taken_oldest : (o : Option Payload) (q : Queue) (xs : List Name) (next : Code) (k : ℕ) → (if is_none o then Some Blocked else None) ≡ None → IsSome (takes q xs next k o)
taken_oldest None q xs next k e = cc
taken_oldest (Some m) q xs next k e = refl

taken_at : (o p : Option Payload) (q : Queue) (xs : List Name) (next : Code) (k : ℕ) → (if is_none o then Some Blocked else (if is_none p then Some NoSuchPlace else None)) ≡ None → IsSome (takes q xs next k p)
taken_at None p q xs next k e = cc
taken_at (Some m) None q xs next k e = cc
taken_at (Some m) (Some n) q xs next k e = refl

-- where no test on the queue fails, a payload is taken
pub queue_takes : (loose : Bool) (waiting : ℕ → Option Payload) (place : Option ℕ) (q : Queue) (xs : List Name) (next : Code) →
    queue_refusal loose waiting place ≡ None → IsSome (option_and_then (λ k. takes q xs next k (waiting k)) (place_of loose place))
queue_takes true waiting None q xs next e = cc
queue_takes false waiting None q xs next e = taken_oldest (waiting 0) q xs next 0 e
queue_takes false waiting (Some k) q xs next e = cc
queue_takes true waiting (Some k) q xs next e = taken_at (waiting 0) (waiting k) q xs next k e

member_takes : (b : Bool) (later : Option StepFault) (x : Option Effect) → tested (not b) NoSuchSender later ≡ None → (later ≡ None → IsSome x) → IsSome (if b then x else None)
member_takes true later x e f = f e
member_takes false later x e f = cc

-- where no test fails, the event does something
pub not_refused : (v : View) (p : Pid) (c : Code) (sender : Option Pid) (place : Option ℕ) → refusal_at v p c sender place ≡ None → IsSome (effect v p c sender place)
not_refused v p done sender place e = cc
not_refused v p (Assign x a ⨾ rest) None None e = refl
not_refused v p (Assign x a ⨾ rest) None (Some k) e = cc
not_refused v p (Assign x a ⨾ rest) (Some w) place e = cc
not_refused v p (Send c es u ⨾ rest) None None e = refl
not_refused v p (Send c es u ⨾ rest) None (Some k) e = cc
not_refused v p (Send c es u ⨾ rest) (Some w) place e = cc
not_refused v p (Recv c xs u ⨾ rest) None place e = queue_takes (v.loose c) (v.waiting (queue (partner u) p c)) place (queue (partner u) p c) xs rest e
not_refused v p (Recv c xs u ⨾ rest) (Some w) place e = cc
not_refused v p (RecvAny c xs b s a ⨾ rest) None place e = cc
not_refused v p (RecvAny c xs b s a ⨾ rest) (Some w) place e =
    member_takes (is_member v.sizes s w) (queue_refusal (v.loose c) (v.waiting (queue w p c)) place) _ e (queue_takes (v.loose c) (v.waiting (queue w p c)) place (queue w p c) xs _)
not_refused v p (If e' a ⨾ rest) None None e = refl
not_refused v p (If e' a ⨾ rest) None (Some k) e = cc
not_refused v p (If e' a ⨾ rest) (Some w) place e = cc
not_refused v p (IfElse e' a b ⨾ rest) None None e = refl
not_refused v p (IfElse e' a b ⨾ rest) None (Some k) e = cc
not_refused v p (IfElse e' a b ⨾ rest) (Some w) place e = cc
not_refused v p (While e' a ⨾ rest) None None e = refl
not_refused v p (While e' a ⨾ rest) None (Some k) e = cc
not_refused v p (While e' a ⨾ rest) (Some w) place e = cc
not_refused v p (For b s k a ⨾ rest) None None e = refl
not_refused v p (For b s k a ⨾ rest) None (Some n) e = cc
not_refused v p (For b s k a ⨾ rest) (Some w) place e = cc
not_refused v p (Repeat s k a ⨾ rest) None None e = refl
not_refused v p (Repeat s k a ⨾ rest) None (Some n) e = cc
not_refused v p (Repeat s k a ⨾ rest) (Some w) place e = cc

not_there : (o : Option Payload) (q : Queue) (xs : List Name) (next : Code) (k : ℕ) (f : StepFault) → (if is_none o then Some NoSuchPlace else None) ≡ Some f → takes q xs next k o ≡ None
not_there None q xs next k f e = refl
not_there (Some m) q xs next k f e = cc

-- where a test on the queue fails, nothing is taken
pub queue_gives_none : (loose : Bool) (ms : List Payload) (place : Option ℕ) (q : Queue) (xs : List Name) (next : Code) (f : StepFault) →
    queue_refusal loose (payload_at ms) place ≡ Some f → option_and_then (λ k. takes q xs next k (payload_at ms k)) (place_of loose place) ≡ None
queue_gives_none true ms None q xs next f e = refl
queue_gives_none false [] None q xs next f e = refl
queue_gives_none false (m ∷ ms) None q xs next f e = cc
queue_gives_none false ms (Some k) q xs next f e = refl
queue_gives_none true [] (Some k) q xs next f e = refl
queue_gives_none true (m ∷ ms) (Some k) q xs next f e = not_there (payload_at (m ∷ ms) k) q xs next k f e

member_gives_none : (b : Bool) (later : Option StepFault) (x : Option Effect) (f : StepFault) → tested (not b) NoSuchSender later ≡ Some f → (later ≡ Some f → x ≡ None) → (if b then x else None) ≡ None
member_gives_none true later x f e g = g e
member_gives_none false later x f e g = refl

-- where a test fails, the event does nothing
pub refused : (sizes : Name → ℕ) (loose : Name → Bool) (own : Name → Option Value) (mail : Mail) (p : Pid) (c : Code) (sender : Option Pid) (place : Option ℕ) (f : StepFault) →
    refusal_at (looks sizes loose own (λ q. payload_at (mail q))) p c sender place ≡ Some f → effect (looks sizes loose own (λ q. payload_at (mail q))) p c sender place ≡ None
refused sizes loose own mail p done None None f e = refl
refused sizes loose own mail p done None (Some k) f e = refl
refused sizes loose own mail p done (Some w) None f e = refl
refused sizes loose own mail p done (Some w) (Some k) f e = refl
refused sizes loose own mail p (Recv c xs u ⨾ rest) None place f e =
    queue_gives_none (loose c) (mail (queue (partner u) p c)) place (queue (partner u) p c) xs rest f e
refused sizes loose own mail p (Recv c xs u ⨾ rest) (Some w) place f e = refl
refused sizes loose own mail p (RecvAny c xs b s a ⨾ rest) None place f e = refl
refused sizes loose own mail p (RecvAny c xs b s a ⨾ rest) (Some w) place f e =
    member_gives_none (is_member sizes s w) (queue_refusal (loose c) (payload_at (mail (queue w p c))) place) _ f e (queue_gives_none (loose c) (mail (queue w p c)) place (queue w p c) xs _ f)
refused sizes loose own mail p (Assign x a ⨾ rest) None None f e = cc
refused sizes loose own mail p (Assign x a ⨾ rest) None (Some k) f e = refl
refused sizes loose own mail p (Assign x a ⨾ rest) (Some w) place f e = refl
refused sizes loose own mail p (Send c es u ⨾ rest) None None f e = cc
refused sizes loose own mail p (Send c es u ⨾ rest) None (Some k) f e = refl
refused sizes loose own mail p (Send c es u ⨾ rest) (Some w) place f e = refl
refused sizes loose own mail p (If e' a ⨾ rest) None None f e = cc
refused sizes loose own mail p (If e' a ⨾ rest) None (Some k) f e = refl
refused sizes loose own mail p (If e' a ⨾ rest) (Some w) place f e = refl
refused sizes loose own mail p (IfElse e' a b ⨾ rest) None None f e = cc
refused sizes loose own mail p (IfElse e' a b ⨾ rest) None (Some k) f e = refl
refused sizes loose own mail p (IfElse e' a b ⨾ rest) (Some w) place f e = refl
refused sizes loose own mail p (While e' a ⨾ rest) None None f e = cc
refused sizes loose own mail p (While e' a ⨾ rest) None (Some k) f e = refl
refused sizes loose own mail p (While e' a ⨾ rest) (Some w) place f e = refl
refused sizes loose own mail p (For b s k a ⨾ rest) None None f e = cc
refused sizes loose own mail p (For b s k a ⨾ rest) None (Some n) f e = refl
refused sizes loose own mail p (For b s k a ⨾ rest) (Some w) place f e = refl
refused sizes loose own mail p (Repeat s k a ⨾ rest) None None f e = cc
refused sizes loose own mail p (Repeat s k a ⨾ rest) None (Some n) f e = refl
refused sizes loose own mail p (Repeat s k a ⨾ rest) (Some w) place f e = refl

some_mapped : {A B : Type 0} (g : A → B) (o : Option A) → IsSome o → IsSome (option_map g o)
some_mapped g None h = cc
some_mapped g (Some x) h = refl

not_process : (b : Bool) (later : Option StepFault) → tested (not b) NoProcess later ≡ None → later ≡ None
not_process true later e = e
not_process false later e = cc

-- where no test fails, there is a next state
pub no_refusal : (s : State) (e : Event) → refusal s e ≡ None → IsSome (step s e)
no_refusal s e h =
    some_mapped (after s e.process) (effect_in s e)
    (not_refused (seen_by s e.process) e.process (s.code e.process) e.sender e.place (not_process (is_process s.program s.sizes e.process) _ h))

-- where a test fails, there is none, if a process that isn't in the instance has no code
pub a_refusal : (s : State) (e : Event) (f : StepFault) → (is_process s.program s.sizes e.process ≡ false → s.code e.process ≡ done) → refusal s e ≡ Some f → step s e ≡ None
a_refusal s e f absent h = ap (option_map (after s e.process)) (by_process (is_process s.program s.sizes e.process) absent h)
  where
    by_process : (b : Bool) → (b ≡ false → s.code e.process ≡ done) → tested (not b) NoProcess (refusal_at (seen_by s e.process) e.process (s.code e.process) e.sender e.place) ≡ Some f → effect_in s e ≡ None
    by_process false none g = ap (λ c. effect (seen_by s e.process) e.process c e.sender e.place) (none refl) ∙ done_effect (seen_by s e.process) e.process e.sender e.place
    by_process true none g = refused s.sizes (is_loose s.program.channels) (s.store e.process) s.mail e.process (s.code e.process) e.sender e.place f g

by_option : (o : Option StepFault) (t : Option State) → (o ≡ None → IsSome t) → ((f : StepFault) → o ≡ Some f → t ≡ None) → IsTrue (is_none o) ↔ IsSome t
by_option None t g h = (λ _. g refl, λ _. refl)
by_option (Some f) t g h = (λ x. cc, λ y. let n = h f refl in absurd_some t n y)
  where
    absurd_some : (t : Option State) → t ≡ None → IsSome t → IsTrue (is_none (Some f))
    absurd_some None n y = cc
    absurd_some (Some z) n y = cc

pub enabled_iff : (s : State) (e : Event) → (is_process s.program s.sizes e.process ≡ false → s.code e.process ≡ done) → IsTrue (is_none (refusal s e)) ↔ IsSome (step s e)
enabled_iff s e absent = by_option (refusal s e) (step s e) (no_refusal s e) (λ f. a_refusal s e f absent)
