-- A receive from any, and the same with one sender named.
use Rattle.std.proofs.Common.{◌≡◌, ℕ, ◌+◌, true, false, List, [], ◌∷◌, ◌++◌, Option, Some, None, refl, sym, ap, ◌∙◌, arith, inl, inr}
use Rattle.std.specs.Prelude.{option_map, option_and_then, if◌then◌else◌, ◌⊎◌}
use Rattle.std.proofs.lemmas.Option.{same_Some}
use Rattle.brisk_values.specs.declared.value.Pid.{Pid}
use Rattle.brisk_values.specs.Names.{same_process}
use Rattle.brisk_values.proofs.Changes.{process_laws, exact_process, changed-other, changed_again, changes_apart, apart_symm, changed-same}
use Rattle.brisk_syntax.specs.Substitution.{code_with}
use Rattle.brisk_syntax.specs.Syntax.{◌then◌}
use Rattle.brisk_syntax.specs.declared.tree.Who.TheVariants as who
use Rattle.brisk_async.specs.declared.event.Event.{Event}
use Rattle.brisk_async.specs.Laws.{count, AnyReceive, any_code, named_code, named, from_any, from_named, Takes, Waits, NamedHead, NamedBack}
use Rattle.brisk_async.specs.Machine.{State, queue, Effect, receives, effect, effect_in, seen_by, after, step, run, is_member, IsTerminal}
use Rattle.brisk_async.proofs.Runs.{run_on, split_run, mapped, bound}

-- the first event of p in a schedule
pub record FirstOf (p : Pid) (es : List Event) : Type 0 where
  pub before : List Event
  pub event : Event
  pub later : List Event
  pub parts : es ≡ before ++ event ∷ later
  pub none : count p before ≡ 0
  pub its : p ≡ event.process

one_more : (p : Pid) (f : Event) (es : List Event) → same_process p f.process ≡ false → count p es ≡ 0 → count p (f ∷ es) ≡ 0
one_more p f es e h = ap (λ b. (if b then 1 else 0) + count p es) e ∙ ap (λ n. 0 + n) h

pub not_first : (p : Pid) (f : Event) (es : List Event) → count p (f ∷ es) ≡ 0 → (same_process p f.process ≡ false) × (count p es ≡ 0)
not_first p f es h =
    elim (same_process p f.process) as (λ b. same_process p f.process ≡ b → (same_process p f.process ≡ false) × (count p es ≡ 0)) [
      | true ↦ λ e. absurd (let g = ap (λ b. (if b then 1 else 0) + count p es) (sym e) ∙ h in omega (arith, g))
      | false ↦ λ e. (e, let g = ap (λ b. (if b then 1 else 0) + count p es) (sym e) ∙ h in omega (arith, g))
    ] refl

-- a schedule has a first event of p, or none
pub first_of : (p : Pid) (es : List Event) → FirstOf p es ⊎ (count p es ≡ 0)
first_of p [] = inr refl
first_of p (f ∷ es) =
    elim (same_process p f.process) as (λ b. same_process p f.process ≡ b → FirstOf p (f ∷ es) ⊎ (count p (f ∷ es) ≡ 0)) [
      | true ↦ λ e. inl record { before = []; event = f; later = es; parts = refl; none = refl; its = exact_process p f.process e }
      | false ↦ λ e.
          elim (first_of p es) [
            | inl x ↦ inl record { before = f ∷ x.before; event = x.event; later = x.later; parts = ap (λ l. f ∷ l) x.parts; none = one_more p f x.before e x.none; its = x.its }
            | inr n ↦ inr (one_more p f es e n)
          ]
    ] refl

-- what events of other processes keep: p's code, the program and the sizes
pub record SameAt (p : Pid) (s t : State) : Type 0 where
  pub code : t.code p ≡ s.code p
  pub program : t.program ≡ s.program
  pub sizes : t.sizes ≡ s.sizes

same_after : (s t : State) (p : Pid) (f : Event) → same_process p f.process ≡ false → step s f ≡ Some t → SameAt p s t
same_after s t p f apart h =
    let m = mapped (after s f.process) (effect_in s f) t h in
    record {
      code = ap (λ (z : State). z.code p) (sym m.2) ∙ changed-other process_laws s.code f.process m.0.next p (apart_symm process_laws p f.process apart);
      program = ap (λ (z : State). z.program) (sym m.2);
      sizes = ap (λ (z : State). z.sizes) (sym m.2);
    }

pub same_run : (s t : State) (p : Pid) (es : List Event) → count p es ≡ 0 → run s es ≡ Some t → SameAt p s t
same_run s t p [] n r = let e = sym (same_Some s t r) in record { code = ap (λ (z : State). z.code p) e; program = ap (λ (z : State). z.program) e; sizes = ap (λ (z : State). z.sizes) e }
same_run s t p (f ∷ es) n r =
    let b = bound (λ z. run z es) (step s f) t r in
    let c = not_first p f es n in
    let x = same_after s b.0 p f c.0 b.1 in
    let y = same_run b.0 t p es c.1 b.2 in
    record { code = y.code ∙ x.code; program = y.program ∙ x.program; sizes = y.sizes ∙ x.sizes }

module _ (a : AnyReceive) (p : Pid) where
  -- the effect of taking w's message
  takes_from : State → Pid → Option ℕ → Option Effect
  takes_from s w place = receives (seen_by s p) (queue w p a.channel) a.variables (code_with a.binder (who.Pid w) a.body then a.rest) place

  after_named : (s : State) (w : Pid) (x : Effect) → after (named a p w s) p x ≡ after s p x
  after_named s w x = λ i. record (after s p x) { code = changed_again same_process s.code p (named_code a w) x.next i }

  named_is : (s : State) (w : Pid) (place : Option ℕ) → step (named a p w s) (from_named p place) ≡ option_map (after s p) (takes_from s w place)
  unfolding takes_from
  named_is s w place =
      ap (λ k. option_map (after (named a p w s) p) (effect (seen_by s p) p k None place)) (changed-same process_laws s.code p (named_code a w))
      ∙ ap (λ g. option_map g (takes_from s w place)) (λ i x. after_named s w x i)

  any_is : (s : State) (w : Pid) (place : Option ℕ) → s.code p ≡ any_code a →
      step s (from_any p w place) ≡ option_map (after s p) (if is_member s.sizes a.set w then takes_from s w place else None)
  unfolding takes_from
  any_is s w place is = ap (λ k. option_map (after s p) (effect (seen_by s p) p k (Some w) place)) is

  -- the event with the sender is the one without where the sender is named
  named_step : (s t : State) (w : Pid) (place : Option ℕ) → s.code p ≡ any_code a → step s (from_any p w place) ≡ Some t →
      (is_member s.sizes a.set w ≡ true) × (step (named a p w s) (from_named p place) ≡ Some t)
  named_step s t w place is h =
      elim (is_member s.sizes a.set w) as (λ b. option_map (after s p) (if b then takes_from s w place else None) ≡ Some t → (b ≡ true) × (step (named a p w s) (from_named p place) ≡ Some t)) [
        | true ↦ λ e. (refl, named_is s w place ∙ e)
        | false ↦ λ e. cc
      ] (sym (any_is s w place is) ∙ h)

  -- for a member the two are one, enabled or not
  any_step : (s : State) (w : Pid) (place : Option ℕ) → s.code p ≡ any_code a → is_member s.sizes a.set w ≡ true →
      step s (from_any p w place) ≡ step (named a p w s) (from_named p place)
  any_step s w place is inside = any_is s w place is ∙ ap (λ b. option_map (after s p) (if b then takes_from s w place else None)) inside ∙ sym (named_is s w place)

  -- each event of p has a sender, and none where the sender is named
  has_sender : (s t : State) (place : Option ℕ) → s.code p ≡ any_code a → step s (from_named p place) ≡ Some t → ⊥
  has_sender s t place is h = let e = ap (λ k. option_map (after s p) (effect (seen_by s p) p k None place)) is in let g = sym h ∙ e in cc

  pub has_none : (s : State) (w v : Pid) (place : Option ℕ) → step (named a p w s) (from_any p v place) ≡ None
  has_none s w v place = ap (λ k. option_map (after (named a p w s) p) (effect (seen_by s p) p k (Some v) place)) (changed-same process_laws s.code p (named_code a w))

  -- an event of another process leads from where the sender is named to where it is named
  other_step : (f : Event) → same_process p f.process ≡ false → (s : State) (w : Pid) → step (named a p w s) f ≡ option_map (named a p w) (step s f)
  other_step f apart s w =
      ap (λ k. option_map (after (named a p w s) f.process) (effect (seen_by s f.process) f.process k f.sender f.place)) (changed-other process_laws s.code p (named_code a w) f.process apart)
      ∙ both (effect_in s f)
    where
      after_other : (x : Effect) → after (named a p w s) f.process x ≡ named a p w (after s f.process x)
      after_other x = λ i. record (after s f.process x) { code = changes_apart process_laws s.code p f.process (λ _. named_code a w) (λ _. x.next) apart i }

      both : (o : Option Effect) → option_map (after (named a p w s) f.process) o ≡ option_map (named a p w) (option_map (after s f.process) o)
      both None = refl
      both (Some x) = ap Some (after_other x)

  pub other_run : (es : List Event) → count p es ≡ 0 → (s t : State) (w : Pid) → run s es ≡ Some t → run (named a p w s) es ≡ Some (named a p w t)
  other_run [] n s t w r = ap (λ z. Some (named a p w z)) (same_Some s t r)
  other_run (f ∷ es) n s t w r =
      let b = bound (λ z. run z es) (step s f) t r in
      let c = not_first p f es n in
      ap (option_and_then (λ z. run z es)) (other_step f c.0 s w ∙ ap (option_map (named a p w)) b.1) ∙ other_run es c.1 b.0 t w b.2

  -- and from where it leads if the sender is named it leads if it isn't
  pub other_back : (es : List Event) → count p es ≡ 0 → (s y : State) (w : Pid) → run (named a p w s) es ≡ Some y →
      (t : State) × (run s es ≡ Some t) × (named a p w t ≡ y)
  other_back [] n s y w r = (s, refl, same_Some (named a p w s) y r)
  other_back (f ∷ es) n s y w r =
      let b = bound (λ z. run z es) (step (named a p w s) f) y r in
      let c = not_first p f es n in
      let m = mapped (named a p w) (step s f) b.0 (sym (other_step f c.0 s w) ∙ b.1) in
      let x = other_back es c.1 m.0 y w (ap (λ z. run z es) m.2 ∙ b.2) in
      (x.0, ap (option_and_then (λ z. run z es)) m.1 ∙ x.1, x.2)

  waits_here : (z : State) → z.code p ≡ any_code a → IsTerminal z → (w : Pid) → is_member z.sizes a.set w ≡ true → IsTerminal (named a p w z)
  waits_here z is end w inside f =
      elim (same_process p f.process) as (λ b. same_process p f.process ≡ b → step (named a p w z) f ≡ None) [
        | true ↦ λ e. ap (λ q. step (named a p w z) record { process = q; sender = f.sender; place = f.place }) (sym (exact_process p f.process e)) ∙ own f.sender
        | false ↦ λ e. other_step f e z w ∙ ap (option_map (named a p w)) (end f)
      ] refl
    where
      own : (o : Option Pid) → step (named a p w z) record { process = p; sender = o; place = f.place } ≡ None
      own (Some v) = has_none z w v f.place
      own None = sym (any_step z w f.place is inside) ∙ end (from_any p w f.place)

pub head_named : NamedHead
head_named a p s es z is r end = elim (first_of p es) [ inl x ↦ inl (own x.event.sender x refl) | inr n ↦ inr (waits n) ]
  where
    waits : count p es ≡ 0 → Waits a p s es z
    waits n =
        let x = same_run s z p es n r in record {
          none = n;
          runs = λ w. other_run a p es n s z w r;
          terminal = λ w inside. waits_here a p z (x.code ∙ is) end w (ap (λ g. is_member g a.set w) x.sizes ∙ inside);
        }

    own : (o : Option Pid) (x : FirstOf p es) → x.event.sender ≡ o → Takes a p s es z
    own o x e =
        let y = split_run s z x.before (x.event ∷ x.later) (ap (run s) (sym x.parts) ∙ r) in
        let b = bound (λ t. run t x.later) (step y.0 x.event) z y.2 in
        let at = same_run s y.0 p x.before x.none y.1 in
        takes o (λ i. record { process = x.its i; sender = sym e i; place = x.event.place }) y.0 b.0 y.1 at b.1 b.2
      where
        takes : (o : Option Pid) → record { process = p; sender = o; place = x.event.place } ≡ x.event → (t u : State) → run s x.before ≡ Some t →
            SameAt p s t → (step t x.event ≡ Some u) → run u x.later ≡ Some z → Takes a p s es z
        takes None same t u r at h g = absurd (has_sender a p t u x.event.place (at.code ∙ is) (ap (step t) same ∙ h))
        takes (Some w) same t u r at h g =
            let n = named_step a p t u w x.event.place (at.code ∙ is) (ap (step t) same ∙ h) in record {
              before = x.before;
              from = w;
              place = x.event.place;
              later = x.later;
              parts = x.parts ∙ ap (λ f. x.before ++ f ∷ x.later) (sym same);
              first = x.none;
              inside = ap (λ g. is_member g a.set w) (sym at.sizes) ∙ n.0;
              runs =
                  run_on (named a p w s) (named a p w t) x.before (from_named p x.event.place ∷ x.later) (other_run a p x.before x.none s t w r)
                  ∙ ap (option_and_then (λ t. run t x.later)) n.1 ∙ g;
            }

pub head_back : NamedBack
head_back a p w place s before later z is inside none r =
    let y = split_run (named a p w s) z before (from_named p place ∷ later) r in
    let x = other_back a p before none s y.0 w y.1 in
    let at = same_run s x.0 p before none x.1 in
    run_on s x.0 before (from_any p w place ∷ later) x.1
    ∙ ap (option_and_then (λ t. run t later)) (any_step a p x.0 w place (at.code ∙ is) (ap (λ g. is_member g a.set w) at.sizes ∙ inside) ∙ ap (λ t. step t (from_named p place)) x.2)
    ∙ y.2
