-- The event that the plain run takes.
use Rattle.std.proofs.Common.{◌≡◌, ℕ, zero, suc, ◌+◌, ◌-◌, ◌<◌, ◌≤◌, Bool, false, List, [], ◌∷◌, ◌++◌, flat_map, length, drop, get_or, Option, Some, None, refl, sym, ap, ◌∙◌, arith}
use Rattle.std.specs.Prelude.{IsSome, IsTrue, ◌↔◌, option_and_then}
use Rattle.std.specs.List.{range_with_len}
use Rattle.std.proofs.lemmas.List.{append_assoc, at_drop_more}
use Rattle.std.proofs.lemmas.Option.{same_Some}
use Rattle.brisk_async.specs.declared.event.Event.{Event}
use Rattle.brisk_async.specs.Machine.{State, after, effect_in, run, step}
use Rattle.brisk_async.specs.PlainRuns.{first_enabled, go_on, or_else, plain_events, plain_from, plain_next}
use Rattle.brisk_async.proofs.Runs.{mapped, run_on}
use Rattle.brisk_trace.specs.Plain.{event_in}
use Rattle.brisk_values.specs.declared.value.Pid.{Pid}

-- a number and then the later ones
pub range_step : (k n : ℕ) → k < n → range_with_len k (n - k) ≡ k ∷ range_with_len (k + 1) (n - (k + 1))
range_step k n less = let next : n - k ≡ suc (n - (k + 1)) = omega arith in ap (range_with_len k) next

-- what was there before one more part, the part, and what is left
pub one_part_more : {A : Type 0} (old new part later all whole : List A) → new ≡ old ++ part → all ≡ part ++ later → old ++ all ≡ whole → new ++ later ≡ whole
one_part_more old new part later all whole more first so_far = ap (λ z. z ++ later) more ∙ append_assoc old part later ∙ ap (λ z. old ++ z) (sym first) ∙ so_far

-- where the first event isn't enabled, the later ones are tried
pub not_first : (s : State) (e : Event) (es : List Event) → step s e ≡ None → first_enabled s (e ∷ es) ≡ first_enabled s es
not_first s e es h = ap (λ o. or_else e o (first_enabled s es)) h

-- what the test tells isn't there
pub not_there : {A : Type 0} (b : Bool) (o : Option A) → IsTrue b ↔ IsSome o → b ≡ false → o ≡ None
not_there b None h e = refl
not_there b (Some x) h e = let t = h.1 refl in cc

pub is_there : {A : Type 0} (o : Option A) (x : A) → o ≡ Some x → IsSome o
is_there None x e = cc
is_there (Some y) x e = refl

-- the events of one process are tried before those of the later ones
none_before : (s : State) (xs ys : List Event) → event_in (first_enabled s xs) ≡ None → first_enabled s (xs ++ ys) ≡ first_enabled s ys
none_before s [] ys h = refl
none_before s (x ∷ xs) ys h = elim (step s x) as (λ o. event_in (or_else x o (first_enabled s xs)) ≡ None → or_else x o (first_enabled s (xs ++ ys)) ≡ first_enabled s ys) [
  | None ↦ λ g. none_before s xs ys g
  | Some t ↦ λ g. cc
] h

some_before : (s : State) (xs ys : List Event) (e : Event) → event_in (first_enabled s xs) ≡ Some e → event_in (first_enabled s (xs ++ ys)) ≡ Some e
some_before s [] ys e h = cc
some_before s (x ∷ xs) ys e h = elim (step s x) as (λ o. event_in (or_else x o (first_enabled s xs)) ≡ Some e → event_in (or_else x o (first_enabled s (xs ++ ys))) ≡ Some e) [
  | None ↦ λ g. some_before s xs ys e g
  | Some t ↦ λ g. g
] h

module _ (s : State) (order : List Pid) (i : ℕ) (p : Pid) (less : i < length order) (there : p ≡ get_or order i p) where
  one_process : plain_next (drop i order) s ≡ first_enabled s (plain_events s p (s.code p) ++ flat_map (λ q. plain_events s q (s.code q)) (drop (i + 1) order))
  one_process = at_drop_more (λ (ps : List Pid). plain_next ps s) order i p less ∙ ap (λ q. plain_next (q ∷ drop (i + 1) order) s) (sym there)

  -- a process has no enabled event, and the later ones are tried
  pub without_event : event_in (first_enabled s (plain_events s p (s.code p))) ≡ None → plain_next (drop i order) s ≡ plain_next (drop (i + 1) order) s
  without_event h = one_process ∙ none_before s (plain_events s p (s.code p)) (flat_map (λ q. plain_events s q (s.code q)) (drop (i + 1) order)) h

  -- a process has an enabled event
  pub with_event : (e : Event) → event_in (first_enabled s (plain_events s p (s.code p))) ≡ Some e → event_in (plain_next (drop i order) s) ≡ Some e
  with_event e h = ap event_in one_process ∙ some_before s (plain_events s p (s.code p)) (flat_map (λ q. plain_events s q (s.code q)) (drop (i + 1) order)) e h

-- the first of these events that is enabled leads to the state that stands with it
pub enabled_step : (s : State) (es : List Event) (f : Event × State) → first_enabled s es ≡ Some f → step s f.0 ≡ Some f.1
enabled_step s [] f h = cc
enabled_step s (e ∷ es) f h = elim (step s e) as (λ o. step s e ≡ o → or_else e o (first_enabled s es) ≡ Some f → step s f.0 ≡ Some f.1) [
  | None ↦ λ none later. enabled_step s es f later
  | Some t ↦ λ some here. let is : (e, t) ≡ f = same_Some (e, t) f here in ap (λ (g : Event × State). step s g.0) (sym is) ∙ some ∙ ap (λ (g : Event × State). Some g.1) is
] refl h

-- the plain run's event is enabled
pub next_enabled : (order : List Pid) (s : State) (e : Event) → event_in (plain_next order s) ≡ Some e → (t : State) × (step s e ≡ Some t)
next_enabled order s e h =
    let m = mapped (λ (f : Event × State). f.0) (plain_next order s) e h in
    (m.0.1, ap (step s) (sym m.2) ∙ enabled_step s _ m.0 m.1)

-- the plain run takes its event and goes on from the next state
pub one_taken : (n : ℕ) (order : List Pid) (s t : State) (e : Event) → event_in (plain_next order s) ≡ Some e → step s e ≡ Some t → plain_from (suc n) order s ≡ e ∷ plain_from n order t
one_taken n order s t e h next =
    let m = mapped (λ (f : Event × State). f.0) (plain_next order s) e h in
    let led : m.0.1 ≡ t = same_Some m.0.1 t (sym (enabled_step s _ m.0 m.1) ∙ ap (step s) m.2 ∙ next) in
    ap (λ o. go_on o (plain_from n order)) m.1
    ∙ (λ i. m.2 i ∷ plain_from n order (led i))

-- without an event the plain run is at its end
pub none_taken : (n : ℕ) (order : List Pid) (s : State) → event_in (plain_next order s) ≡ None → plain_from n order s ≡ []
none_taken zero order s h = refl
none_taken (suc n) order s h = by (plain_next order s) h
  where
    by : (o : Option (Event × State)) → event_in o ≡ None → go_on o (plain_from n order) ≡ []
    by None g = refl
    by (Some f) g = cc

-- a schedule and one more event
pub run_more : (s t u : State) (es : List Event) (e : Event) → run s es ≡ Some t → step t e ≡ Some u → run s (es ++ e ∷ []) ≡ Some u
run_more s t u es e so_far next = run_on s t es (e ∷ []) so_far ∙ ap (option_and_then (λ z. run z [])) next

-- the events that were taken, one more, and those that are left
pub one_more_taken : (k n : ℕ) (order : List Pid) (s t : State) (e : Event) (es fs whole : List Event) → k < n → event_in (plain_next order s) ≡ Some e → step s e ≡ Some t → fs ≡ es ++ e ∷ [] →
    es ++ plain_from (n - k) order s ≡ whole → fs ++ plain_from (n - (k + 1)) order t ≡ whole
one_more_taken k n order s t e es fs whole less h next more so_far =
    let count : n - k ≡ suc (n - (k + 1)) = omega arith in
    one_part_more es fs (e ∷ []) (plain_from (n - (k + 1)) order t) (plain_from (n - k) order s) whole more (ap (λ m. plain_from m order s) count ∙ one_taken (n - (k + 1)) order s t e h next) so_far

-- no event is left of the number
pub none_left : (n k : ℕ) (order : List Pid) (s : State) → n ≤ k → plain_from (n - k) order s ≡ []
none_left n k order s h = let zero_left : n - k ≡ zero = omega arith in ap (λ m. plain_from m order s) zero_left

-- an event changes no program
pub program_kept : (s t : State) (e : Event) → step s e ≡ Some t → t.program ≡ s.program
program_kept s t e h = let m = mapped (after s e.process) (effect_in s e) t h in ap (λ (u : State). u.program) (sym m.2)
