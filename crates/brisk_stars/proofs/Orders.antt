-- Where the plain run takes no event of members, they are settled.
use Rattle.std.proofs.Common.{◌≡◌, ◌⊎◌, inl, inr, ℕ, Bool, true, false, List, [], ◌∷◌, ◌++◌, map, flat_map, length, Option, Some, None, refl, sym, ap, ◌∙◌, subst}
use Rattle.std.specs.Prelude.{◌&&◌, if◌then◌else◌, option_and_then, option_map}
use Rattle.std.specs.List.{AllByRecursion}
use Rattle.std.proofs.lemmas.Option.{same_Some}
use Rattle.brisk_values.specs.declared.value.Pid.{Pid}
use Rattle.brisk_values.specs.Names.{Name, same_name, single}
use Rattle.brisk_values.proofs.Changes.{both_true, exact_name}
use Rattle.brisk_syntax.specs.declared.tree.Who.{Who}
use Rattle.brisk_syntax.specs.declared.tree.Who.TheVariants as who
use Rattle.brisk_syntax.specs.Classes.{every, is_named, talks_to}
use Rattle.brisk_syntax.specs.Declarations.{is_loose}
use Rattle.brisk_syntax.specs.Syntax.{Assign, Send, Recv, RecvAny, If, IfElse, Code, done, ◌⨾◌}
use Rattle.brisk_async.specs.declared.event.Event.{Event}
use Rattle.brisk_async.specs.Machine.{State, Effect, Payload, queue, partner, payload_at, place_of, receives, takes, effect, seen_by, after, step}
use Rattle.brisk_async.specs.PlainRuns.{first_enabled, or_else, plain_events, plain_next, plain_place}
use Rattle.brisk_quiet.specs.Quiet.{Counts, one_less}
use Rattle.brisk_stars.specs.Orders.{MembersComeFirst}
use Rattle.brisk_stars.specs.Runs.{IsStarState, members_in, nobody}
use Rattle.brisk_stars.specs.Serving.{Member, if_none, messages, settled, settled_from}
use Rattle.brisk_stars.specs.Serving as serving

-- what comes of two lists of events
first_later : (s : State) (xs ys : List Event) → first_enabled s xs ≡ None → first_enabled s (xs ++ ys) ≡ first_enabled s ys
first_later s [] ys h = refl
first_later s (x ∷ xs) ys h =
    elim (step s x) as (λ o. or_else x o (first_enabled s xs) ≡ None → or_else x o (first_enabled s (xs ++ ys)) ≡ first_enabled s ys) [
      | None ↦ λ g. first_later s xs ys g
      | Some t ↦ λ g. cc
    ] h

first_found : (s : State) (xs ys : List Event) (f : Event × State) → first_enabled s xs ≡ Some f → first_enabled s (xs ++ ys) ≡ Some f
first_found s [] ys f h = cc
first_found s (x ∷ xs) ys f h =
    elim (step s x) as (λ o. or_else x o (first_enabled s xs) ≡ Some f → or_else x o (first_enabled s (xs ++ ys)) ≡ Some f) [
      | None ↦ λ g. first_found s xs ys f g
      | Some t ↦ λ g. g
    ] h

-- the event that is found is one of the list
found_in : (Q : Event → Type 0) (s : State) (es : List Event) (f : Event × State) → AllByRecursion Q es → first_enabled s es ≡ Some f → Q f.0
found_in Q s [] f all h = cc
found_in Q s (x ∷ xs) f all h =
    elim (step s x) as (λ o. or_else x o (first_enabled s xs) ≡ Some f → Q f.0) [
      | None ↦ λ g. found_in Q s xs f all.1 g
      | Some t ↦ λ g. (let is : x ≡ f.0 = cc in subst Q is all.0)
    ] h

-- and leads to the state that is found with it
pub found_leads : (s : State) (es : List Event) (f : Event × State) → first_enabled s es ≡ Some f → step s f.0 ≡ Some f.1
found_leads s [] f h = cc
found_leads s (x ∷ xs) f h =
    elim (step s x) as (λ o. step s x ≡ o → or_else x o (first_enabled s xs) ≡ Some f → step s f.0 ≡ Some f.1) [
      | None ↦ λ e g. found_leads s xs f g
      | Some t ↦ λ e g. (let is : (x, t) ≡ f = same_Some (x, t) f g in ap (λ (z : Event × State). step s z.0) (sym is) ∙ e ∙ ap (λ (z : Event × State). Some z.1) is)
    ] refl h

from_senders : (p : Pid) (place : Option ℕ) (ws : List Pid) → AllByRecursion (λ (e : Event). e.process ≡ p) (map (λ (w : Pid). record { process = p; sender = Some w; place = place }) ws)
from_senders p place [] = tt
from_senders p place (w ∷ ws) = (refl, from_senders p place ws)

-- the events that are tried of a process are its own
of_process : (s : State) (p : Pid) (c : Code) → AllByRecursion (λ (e : Event). e.process ≡ p) (plain_events s p c)
of_process s p (RecvAny c xs v set b ⨾ rest) = from_senders p (plain_place (is_loose s.program.channels c)) _
of_process s p (Recv c xs u ⨾ rest) = (refl, tt)
of_process s p c = (refl, tt)

module _ (M : Name) (s : State) (p : Pid) (st : IsStarState M s) (far : same_name M p.role ≡ false) where
  abbrev up : Counts
  up = λ c. length (s.mail (queue p (single M) c))

  abbrev down : Counts
  down = λ c. length (s.mail (queue (single M) p c))

  its_member : (c : Code) → s.code p ≡ c → members_in M s p ≡ record { left = messages c; up = up; down = down }
  its_member c at = ap (λ b. if b then nobody else record { left = messages (s.code p); up = up; down = down }) far ∙ ap (λ k. record { left = messages k; up = up; down = down }) at

  abbrev Settled : Type 0
  Settled = settled (members_in M s p) ≡ members_in M s p

  is_settled : (c : Code) → s.code p ≡ c → settled record { left = messages c; up = up; down = down } ≡ record { left = messages c; up = up; down = down } → Settled
  is_settled c at h = ap settled (its_member c at) ∙ h ∙ sym (its_member c at)

  -- what has an effect is enabled
  never : (c : Code) (place : Option ℕ) (x : Effect) → s.code p ≡ c → effect (seen_by s p) p c None place ≡ Some x → first_enabled s (record { process = p; sender = None; place = place } ∷ []) ≡ None → ⊥
  never c place x at h none =
      let e : Event = record { process = p; sender = None; place = place } in
      let steps : step s e ≡ Some (after s p x) = ap (option_map (after s p)) (ap (λ k. effect (seen_by s p) p k None place) at ∙ h) in
      let both = sym (ap (λ o. or_else e o None) steps) ∙ none in cc

  -- a receive from the centre whose mail is empty
  waits : (c : Name) (xs : List Name) (rest : Code) (place : Option ℕ) (mail : List Payload) → s.mail (queue (single M) p c) ≡ mail → place ≡ None → s.code p ≡ Recv c xs (who.Name M) ⨾ rest →
      first_enabled s (record { process = p; sender = None; place = place } ∷ []) ≡ None → Settled
  waits c xs rest place [] empty none at h =
      is_settled (Recv c xs (who.Name M) ⨾ rest) at
      (ap (λ (l : List Payload). if_none (length l) record { left = serving.takes c ∷ messages rest; up = up; down = down } (settled_from (messages rest) up (one_less down c))) empty)
  waits c xs rest place (m ∷ ms) some none at h =
      absurd (never (Recv c xs (who.Name M) ⨾ rest) place _ at
      (ap (λ (l : Bool). option_and_then (λ k. takes (queue (single M) p c) xs rest k (payload_at (s.mail (queue (single M) p c)) k)) (place_of l place)) (st.strict c)
      ∙ ap (λ o. option_and_then (λ k. takes (queue (single M) p c) xs rest k (payload_at (s.mail (queue (single M) p c)) k)) (place_of false o)) none
      ∙ ap (λ (l : List Payload). takes (queue (single M) p c) xs rest 0 (payload_at l 0)) some) h)

  settles : (c : Code) → s.code p ≡ c → every (talks_to (is_named M)) c ≡ true → first_enabled s (plain_events s p c) ≡ None → Settled
  settles done at t h = is_settled done at refl
  settles (Assign x e ⨾ rest) at t h = absurd (never (Assign x e ⨾ rest) None _ at refl h)
  settles (Send c es u ⨾ rest) at t h = absurd (never (Send c es u ⨾ rest) None _ at refl h)
  settles (If e a ⨾ rest) at t h = absurd (never (If e a ⨾ rest) None _ at refl h)
  settles (IfElse e a b ⨾ rest) at t h = absurd (never (IfElse e a b ⨾ rest) None _ at refl h)
  settles (Recv c xs (who.Name n) ⨾ rest) at t h =
      let is = exact_name M n (both_true (same_name M n) (every (talks_to (is_named M)) rest) t).0 in
      waits c xs rest (plain_place (is_loose s.program.channels c)) (s.mail (queue (single M) p c)) refl (ap plain_place (st.strict c)) (at ∙ ap (λ z. Recv c xs (who.Name z) ⨾ rest) (sym is)) h
  settles (Recv c xs (who.At n) ⨾ rest) at t h = cc
  settles (Recv c xs (who.Pid n) ⨾ rest) at t h = cc
  settles (y ⨾ rest) at t h = cc

pub members_come_first : MembersComeFirst
members_come_first M s [] ps st all = inr (refl, tt)
members_come_first M s (p ∷ ms) ps st all =
    let more = flat_map (λ p. plain_events s p (s.code p)) (ms ++ ps) in
    elim (first_enabled s (plain_events s p (s.code p))) as (λ o. first_enabled s (plain_events s p (s.code p)) ≡ o →
    ((e : Event) × (t : State) × (plain_next ((p ∷ ms) ++ ps) s ≡ Some (e, t)) × (same_name M e.process.role ≡ false))
    ⊎ ((plain_next ((p ∷ ms) ++ ps) s ≡ plain_next ps s) × AllByRecursion (λ (p : Pid). settled (members_in M s p) ≡ members_in M s p) (p ∷ ms))) [
      | Some f ↦ λ e.
          let own = found_in (λ z. z.process ≡ p) s (plain_events s p (s.code p)) f (of_process s p (s.code p)) e in
          inl (f.0, f.1, first_found s (plain_events s p (s.code p)) more f e, ap (λ (z : Pid). same_name M z.role) own ∙ all.0)
      | None ↦ λ e.
          let later = first_later s (plain_events s p (s.code p)) more e in
          elim (members_come_first M s ms ps st all.1) [
            | inl x ↦ inl (x.0, x.1, later ∙ x.2, x.3)
            | inr y ↦ inr (later ∙ y.0, (settles M s p st all.0 (s.code p) refl (st.members p all.0) e, y.1))
          ]
    ] refl
