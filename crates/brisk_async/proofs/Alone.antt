-- A plain event is the only one of its process, and comes first in some schedule to the same terminal state.
use Rattle.std.proofs.Common.{◌≡◌, ℕ, ◌+◌, Bool, true, false, List, [], ◌∷◌, Option, Some, None, refl, sym, ap, ◌∙◌, arith}
use Rattle.std.specs.Prelude.{option_and_then, not}
use Rattle.std.proofs.lemmas.Option.{same_Some}
use Rattle.brisk_values.specs.declared.value.Pid.{Pid}
use Rattle.brisk_values.specs.Names.{same_process}
use Rattle.brisk_values.proofs.Changes.{exact_process}
use Rattle.brisk_syntax.specs.Declarations.{is_loose}
use Rattle.brisk_syntax.specs.Syntax.{Recv, RecvAny, Code, done, ◌⨾◌}
use Rattle.brisk_async.specs.declared.event.Event.{Event}
use Rattle.brisk_async.specs.Laws.{OneEvent, Front, plain_event, is_plain, count}
use Rattle.brisk_async.specs.Machine.{State, Effect, View, place_of, effect, effect_in, seen_by, after, step, run}
use Rattle.brisk_async.proofs.Orders.{two_orders}
use Rattle.brisk_async.proofs.Runs.{mapped, bound}
use Rattle.std.proofs.lemmas.Bool.{not-true}

abbrev IsPlainEvent : Option Pid → Option ℕ → Type 0
IsPlainEvent sender place = (sender ≡ None) × (place ≡ None)

-- a receive that takes something has a place that fits its channel
strict_place : (loose : Bool) (place : Option ℕ) (k : ℕ) → loose ≡ false → place_of loose place ≡ Some k → place ≡ None
strict_place false None k l h = refl
strict_place false (Some n) k l h = cc
strict_place true place k l h = cc

no_place : (loose : Bool) (k : ℕ) → place_of loose None ≡ Some k → loose ≡ false
no_place false k h = refl
no_place true k h = cc

-- at a plain head an event has neither sender nor place
plain_head : (v : View) (p : Pid) (code : Code) (sender : Option Pid) (place : Option ℕ) (x : Effect) → is_plain v.loose code ≡ true →
    effect v p code sender place ≡ Some x → IsPlainEvent sender place
plain_head v p done sender place x plain h = cc
plain_head v p (Recv c xs u ⨾ rest) None place x plain h =
    let b = bound _ (place_of (v.loose c) place) x h in (refl, strict_place (v.loose c) place b.0 (not-true (v.loose c) plain) b.1)
plain_head v p (Recv c xs u ⨾ rest) (Some w) place x plain h = cc
plain_head v p (RecvAny c xs b s a ⨾ rest) sender place x plain h = cc
plain_head v p (s ⨾ rest) None None x plain h = (refl, refl)
plain_head v p (s ⨾ rest) None (Some k) x plain h = cc
plain_head v p (s ⨾ rest) (Some w) place x plain h = cc

-- a head at which the plain event is enabled is plain
head_is_plain : (v : View) (p : Pid) (code : Code) (x : Effect) → effect v p code None None ≡ Some x → is_plain v.loose code ≡ true
head_is_plain v p done x h = refl
head_is_plain v p (Recv c xs u ⨾ rest) x h = let b = bound _ (place_of (v.loose c) None) x h in ap not (no_place (v.loose c) b.0 b.1)
head_is_plain v p (RecvAny c xs b s a ⨾ rest) x h = cc
head_is_plain v p (s ⨾ rest) x h = refl

pub only_event : OneEvent
only_event = record {
  plain = λ s t e plain h.
      let m = mapped (after s e.process) (effect_in s e) t h in
      let none = plain_head (seen_by s e.process) e.process (s.code e.process) e.sender e.place m.0 plain m.1 in
      λ i. record { process = e.process; sender = none.0 i; place = none.1 i };
  only_there = λ s t p h.
      let m = mapped (after s p) (effect_in s (plain_event p)) t h in head_is_plain (seen_by s p) p (s.code p) m.0 m.1;
}

-- where p's plain event is enabled, every enabled event of p is this one
pub is_only : (s t t' : State) (p : Pid) (e : Event) → step s (plain_event p) ≡ Some t → step s e ≡ Some t' → p ≡ e.process → e ≡ plain_event p
is_only s t t' p e h h' same =
    let there = only_event.only_there s t p h in
    only_event.plain s t' e (ap (λ q. is_plain (is_loose s.program.channels) (s.code q)) (sym same) ∙ there) h' ∙ ap plain_event (sym same)

swap : (a b c d : ℕ) → b ≡ c + d → a + b ≡ c + (a + d)
swap a b c d h = omega (arith, h)

pub front_first : Front
front_first s t u p [] h r end =
    let same = same_Some s u r in let none = end (plain_event p) in
    let e = ap (λ z. step z (plain_event p)) same in
    let both = sym h ∙ e ∙ none in cc
front_first s t u p (f ∷ es) h r end =
    let b = bound (λ z. run z es) (step s f) u r in
    elim (same_process p f.process) as (λ q. same_process p f.process ≡ q → (left : List Event) × (run t left ≡ Some u) × ((q : Pid) → count q (f ∷ es) ≡ count q (plain_event p ∷ left))) [
      | true ↦ λ e.
          let alone = is_only s t b.0 p f h b.1 (exact_process p f.process e) in
          let t_is : t ≡ b.0 = same_Some t b.0 (sym h ∙ ap (step s) (sym alone) ∙ b.1) in
          (es, ap (λ z. run z es) t_is ∙ b.2, λ q. ap (λ z. count q (z ∷ es)) alone)
      | false ↦ λ e.
          let d = two_orders s t b.0 (plain_event p) f e h b.1 in
          let more = front_first b.0 d.0 u p es d.2 b.2 end in
          (f ∷ more.0, ap (option_and_then (λ z. run z more.0)) d.1 ∙ more.1, λ q. swap _ _ _ _ (more.2 q))
    ] refl
