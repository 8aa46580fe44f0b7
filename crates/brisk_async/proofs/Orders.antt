-- Events of two processes, in either order.
use Rattle.std.proofs.Common.{◌≡◌, ℕ, Bool, true, false, List, [], ◌∷◌, ◌++◌, Option, Some, None, refl, sym, ap, ◌∙◌, subst}
use Rattle.std.specs.Prelude.{option_map, option_and_then, if◌then◌else◌}
use Rattle.brisk_values.specs.declared.value.Pid.{Pid}
use Rattle.brisk_values.specs.Names.{Name, same_process}
use Rattle.brisk_values.proofs.Changes.{changed_cases, changed-other, changes_commute, changes_apart, apart_symm, process_laws}
use Rattle.brisk_syntax.specs.Stores.{with_variables}
use Rattle.brisk_syntax.specs.Syntax.{Send, Recv, RecvAny, Code, done, ◌⨾◌}
use Rattle.brisk_async.specs.declared.event.Event.{Event}
use Rattle.brisk_async.specs.Laws.{Diamond}
use Rattle.brisk_async.specs.Machine.{State, Queue, same_queue, Payload, payload_at, without, Mail, Change, unchanged, appended, taken, changed_mail, Effect, View, takes, place_of, receives, effect, seen_by, effect_in, after, step, is_member}
use Rattle.brisk_async.proofs.Queues.{queue_laws, exact_queue, payload_at-append, without-append}
use Rattle.brisk_async.proofs.Runs.{mapped}

-- the payload that waits at a place of a queue
abbrev pub Waiting : Type 0
Waiting = Queue → ℕ → Option Payload

-- a process appends to queues from it, and takes from queues to it what waits there
abbrev pub IsOwn : Pid → Waiting → Change → Type 0
IsOwn p waiting unchanged = Unit {0}
IsOwn p waiting (appended q m) = q.from ≡ p
IsOwn p waiting (taken q k) = (q.to ≡ p) × (m : Payload) × (waiting q k ≡ Some m)

abbrev HasOwn : Pid → Waiting → Option Effect → Type 0
HasOwn p waiting None = Unit {0}
HasOwn p waiting (Some x) = IsOwn p waiting x.mail

takes_own : (p : Pid) (waiting : Waiting) (q : Queue) (xs : List Name) (next : Code) (k : ℕ) (o : Option Payload) → q.to ≡ p → waiting q k ≡ o →
    HasOwn p waiting (takes q xs next k o)
takes_own p waiting q xs next k None t e = tt
takes_own p waiting q xs next k (Some m) t e = (t, m, e)

receives_own : (v : View) (p : Pid) (q : Queue) (xs : List Name) (next : Code) (place : Option ℕ) → q.to ≡ p →
    HasOwn p v.waiting (receives v q xs next place)
receives_own v p q xs next place t =
    elim (place_of (v.loose q.channel) place) as (λ o. HasOwn p v.waiting (option_and_then (λ k. takes q xs next k (v.waiting q k)) o)) [
      | None ↦ tt
      | Some k ↦ takes_own p v.waiting q xs next k (v.waiting q k) t refl
    ]

if_own : (p : Pid) (waiting : Waiting) (b : Bool) (o : Option Effect) → HasOwn p waiting o → HasOwn p waiting (if b then o else None)
if_own p waiting true o h = h
if_own p waiting false o h = tt

effect_own : (v : View) (p : Pid) (code : Code) (sender : Option Pid) (place : Option ℕ) → HasOwn p v.waiting (effect v p code sender place)
effect_own v p (Send c es u ⨾ rest) None None = refl
effect_own v p (Recv c xs u ⨾ rest) None place = receives_own v p _ xs rest place refl
effect_own v p (RecvAny c xs b s a ⨾ rest) (Some w) place = if_own p v.waiting (is_member v.sizes s w) _ (receives_own v p _ xs _ place refl)
effect_own v p (Recv c xs u ⨾ rest) (Some w) place = tt
effect_own v p (RecvAny c xs b s a ⨾ rest) None place = tt
effect_own v p done sender place = tt
effect_own v p (s ⨾ rest) None None = tt
effect_own v p (s ⨾ rest) None (Some k) = tt
effect_own v p (s ⨾ rest) (Some w) place = tt

-- what there is of an effect is there too
abbrev Stays : Option Effect → Option Effect → Type 0
Stays None o = Unit {0}
Stays (Some x) o = o ≡ Some x

takes_stay : (q : Queue) (xs : List Name) (next : Code) (k : ℕ) (o o' : Option Payload) → ((m : Payload) → o ≡ Some m → o' ≡ Some m) →
    Stays (takes q xs next k o) (takes q xs next k o')
takes_stay q xs next k None o' h = tt
takes_stay q xs next k (Some m) o' h = ap (takes q xs next k) (h m refl)

-- the view, but these payloads wait
abbrev where_wait : View → Waiting → View
where_wait v waiting = record v { waiting = waiting }

-- each payload that waits for p still does
abbrev StillWait : Pid → Waiting → Waiting → Type 0
StillWait p waiting waiting' = (q : Queue) (k : ℕ) (m : Payload) → q.to ≡ p → waiting q k ≡ Some m → waiting' q k ≡ Some m

receives_stay : (v : View) (waiting : Waiting) (p : Pid) (q : Queue) (xs : List Name) (next : Code) (place : Option ℕ) → q.to ≡ p →
    StillWait p v.waiting waiting → Stays (receives v q xs next place) (receives (where_wait v waiting) q xs next place)
receives_stay v waiting p q xs next place t h =
    elim (place_of (v.loose q.channel) place) as (λ o. Stays (option_and_then (λ k. takes q xs next k (v.waiting q k)) o) (option_and_then (λ k. takes q xs next k (waiting q k)) o)) [
      | None ↦ tt
      | Some k ↦ takes_stay q xs next k (v.waiting q k) (waiting q k) (λ m. h q k m t)
    ]

if_stays : (b : Bool) (o o' : Option Effect) → Stays o o' → Stays (if b then o else None) (if b then o' else None)
if_stays true o o' h = h
if_stays false o o' h = tt

-- p's effect stays where the payloads for it do
effect_stays : (v : View) (waiting : Waiting) (p : Pid) (code : Code) (sender : Option Pid) (place : Option ℕ) → StillWait p v.waiting waiting →
    Stays (effect v p code sender place) (effect (where_wait v waiting) p code sender place)
effect_stays v waiting p done sender place h = tt
effect_stays v waiting p (Recv c xs u ⨾ rest) None place h = receives_stay v waiting p _ xs rest place refl h
effect_stays v waiting p (Recv c xs u ⨾ rest) (Some w) place h = tt
effect_stays v waiting p (RecvAny c xs b s a ⨾ rest) None place h = tt
effect_stays v waiting p (RecvAny c xs b s a ⨾ rest) (Some w) place h = if_stays (is_member v.sizes s w) _ _ (receives_stay v waiting p _ xs _ place refl h)
effect_stays v waiting p (s ⨾ rest) None None h = refl
effect_stays v waiting p (s ⨾ rest) None (Some k) h = tt
effect_stays v waiting p (s ⨾ rest) (Some w) place h = tt

-- what waits in the mail
abbrev pub waits_in : Mail → Waiting
waits_in mail q = payload_at (mail q)

to_others : (p q : Pid) (j k : Queue) → same_process p q ≡ false → j.to ≡ q → k.to ≡ p → same_queue j k ≡ true → ⊥
to_others p q j k apart t u e =
    let same : p ≡ q = sym u ∙ sym (ap (λ (x : Queue). x.to) (exact_queue j k e)) ∙ t in
    let h = process_laws.refl p in let g = ap (same_process p) same in cc

-- an event of q leaves the payloads for p
still_wait : (c : Change) (mail : Mail) (p q : Pid) → same_process p q ≡ false → IsOwn q (waits_in mail) c →
    StillWait p (waits_in mail) (waits_in (changed_mail c mail))
still_wait unchanged mail p q apart own j k m t e = e
still_wait (appended i x) mail p q apart own j k m t e =
    changed_cases same_queue mail i (mail i ++ x ∷ []) j (λ l. payload_at l k ≡ Some m)
    (λ same. payload_at-append (mail i) k x m (ap (λ z. waits_in mail z k) (exact_queue i j same) ∙ e)) (λ other. e)
still_wait (taken i n) mail p q apart own j k m t e =
    changed_cases same_queue mail i (without (mail i) n) j (λ l. payload_at l k ≡ Some m)
    (λ same. absurd (to_others p q i j apart own.0 t same)) (λ other. e)

differ : {A : Type 0} (p q : Pid) → same_process p q ≡ false → p ≡ q → A
differ p q apart same = absurd (let h = process_laws.refl p in let g = ap (same_process p) same in cc)

-- what two processes do to the mail, in either order
mail_commutes : (mail : Mail) (p q : Pid) (c d : Change) → same_process p q ≡ false → IsOwn p (waits_in mail) c → IsOwn q (waits_in mail) d →
    changed_mail d (changed_mail c mail) ≡ changed_mail c (changed_mail d mail)
mail_commutes mail p q unchanged d apart own own' = refl
mail_commutes mail p q (appended i x) unchanged apart own own' = refl
mail_commutes mail p q (taken i n) unchanged apart own own' = refl
mail_commutes mail p q (appended i x) (appended j y) apart own own' =
    changes_commute queue_laws mail exact_queue i j (λ ms. ms ++ x ∷ []) (λ ms. ms ++ y ∷ [])
    (λ e. differ p q apart (sym own ∙ ap (λ (z : Queue). z.from) e ∙ own'))
mail_commutes mail p q (taken i n) (taken j k) apart own own' =
    changes_commute queue_laws mail exact_queue i j (λ ms. without ms n) (λ ms. without ms k) (λ e. differ p q apart (sym own.0 ∙ ap (λ (z : Queue). z.to) e ∙ own'.0))
mail_commutes mail p q (appended i x) (taken j k) apart own own' =
    changes_commute queue_laws mail exact_queue i j (λ ms. ms ++ x ∷ []) (λ ms. without ms k) (λ e. without-append (mail i) k x own'.1 (ap (λ z. waits_in mail z k) e ∙ own'.2))
mail_commutes mail p q (taken i n) (appended j y) apart own own' =
    changes_commute queue_laws mail exact_queue i j (λ ms. without ms n) (λ ms. ms ++ y ∷ []) (λ e. sym (without-append (mail i) n y own.1 own.2))

after_commutes : (s : State) (p q : Pid) (x y : Effect) → same_process p q ≡ false → IsOwn p (waits_in s.mail) x.mail →
    IsOwn q (waits_in s.mail) y.mail → after (after s p x) q y ≡ after (after s q y) p x
after_commutes s p q x y apart own own' = λ i. record {
  program = s.program;
  sizes = s.sizes;
  code = changes_apart process_laws s.code p q (λ _. x.next) (λ _. y.next) apart i;
  store = changes_apart process_laws s.store p q (λ o. with_variables o x.variables x.values) (λ o. with_variables o y.variables y.values) apart i;
  mail = mail_commutes s.mail p q x.mail y.mail apart own own' i;
}

-- the effect of p's event is the same after an event of q
pub effect_after : (s : State) (e : Event) (q : Pid) (x y : Effect) → same_process q e.process ≡ false → IsOwn q (waits_in s.mail) y.mail →
    effect_in s e ≡ Some x → effect_in (after s q y) e ≡ Some x
effect_after s e q x y apart own h =
    let p = e.process in
    let waiting : Waiting = waits_in (changed_mail y.mail s.mail) in
    (λ i. effect record (where_wait (seen_by s p) waiting) { own = changed-other process_laws s.store q (with_variables (s.store q) y.variables y.values) p apart i } p (changed-other process_laws s.code q y.next p apart i) e.sender e.place)
    ∙ subst (λ (z : Option Effect). Stays z (effect (where_wait (seen_by s p) waiting) p (s.code p) e.sender e.place)) h
    (effect_stays (seen_by s p) waiting p (s.code p) e.sender e.place (still_wait y.mail s.mail p q (apart_symm process_laws q p apart) own))

pub own_in : (s : State) (e : Event) (x : Effect) → effect_in s e ≡ Some x → IsOwn e.process (waits_in s.mail) x.mail
own_in s e x h = subst (HasOwn e.process (waits_in s.mail)) h (effect_own (seen_by s e.process) e.process (s.code e.process) e.sender e.place)

pub two_orders : Diamond
two_orders s t t' e f apart h h' =
    let p = e.process in let q = f.process in
    let a = mapped (after s p) (effect_in s e) t h in
    let b = mapped (after s q) (effect_in s f) t' h' in
    let own = own_in s e a.0 a.1 in
    let own' = own_in s f b.0 b.1 in (
      after (after s p a.0) q b.0,
      ap (λ z. step z f) (sym a.2) ∙ ap (option_map (after (after s p a.0) q)) (effect_after s f p b.0 a.0 apart own b.1),
      ap (λ z. step z e) (sym b.2) ∙ ap (option_map (after (after s q b.0) p)) (effect_after s e q a.0 b.0 (apart_symm process_laws p q apart) own' a.1) ∙ ap Some (sym (after_commutes s p q a.0 b.0 apart own own')),
    )
