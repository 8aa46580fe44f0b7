-- Receives that carry a sender: a schedule from where senders are named, and the one from where they aren't.
use Rattle.std.proofs.Common.{◌≡◌, ℕ, Bool, true, false, List, [], ◌∷◌, map, Option, Some, None, refl, sym, ap, ◌∙◌, subst}
use Rattle.std.specs.Prelude.{if◌then◌else◌, option_map, option_and_then}
use Rattle.std.proofs.lemmas.Option.{same_Some}
use Rattle.brisk_values.specs.declared.value.Pid.{Pid}
use Rattle.brisk_values.specs.Functions.{changed}
use Rattle.brisk_values.specs.Names.{same_process}
use Rattle.brisk_values.proofs.Changes.{process_laws, exact_process, changed-other, changed-same}
use Rattle.brisk_syntax.specs.declared.tree.Who.TheVariants as who
use Rattle.brisk_syntax.specs.Declarations.{is_loose}
use Rattle.brisk_syntax.specs.Substitution.{code_with}
use Rattle.brisk_syntax.specs.Syntax.{Statement, Recv, Code, ◌⨾◌, ◌then◌}
use Rattle.brisk_async.specs.Laws.{AnyReceive, any_code, named_code, named, plain_event, from_named}
use Rattle.brisk_async.specs.Machine.{State, View, Effect, queue, payload_at, receives, is_member, effect, effect_in, seen_by, after, step, run}
use Rattle.brisk_async.proofs.Runs.{mapped, bound}
use Rattle.brisk_sound.proofs.Leads.{unchanged_at}

-- the sender that each process is to carry, if it is to
abbrev pub Senders : Type 0
Senders = Pid → Option Pid

-- s is m, but that each process that is to carry a sender stands at a receive from any where in m the sender is named
pub record Carries (σ : Senders) (m s : State) : Type 0 where
  pub program : s.program ≡ m.program
  pub sizes : s.sizes ≡ m.sizes
  pub store : s.store ≡ m.store
  pub mail : s.mail ≡ m.mail
  pub same : (p : Pid) → σ p ≡ None → s.code p ≡ m.code p
  pub carried : (p w : Pid) → σ p ≡ Some w → (a : AnyReceive) × (m.code p ≡ named_code a w) × (s.code p ≡ any_code a) × (is_member m.sizes a.set w ≡ true)

pub none_carried : (s : State) → Carries (λ p. None) s s
none_carried s = record { program = refl; sizes = refl; store = refl; mail = refl; same = λ p e. refl; carried = λ p w e. cc }

-- the statement is a receive from a named sender
abbrev pub is_receive : Statement → Bool
is_receive (Recv c xs u) = true
is_receive s = false

-- a process at another statement carries no sender
pub not_carried : (σ : Senders) (m s : State) → Carries σ m s → (p : Pid) (x : Statement) (k : Code) → m.code p ≡ x ⨾ k → is_receive x ≡ false → σ p ≡ None
not_carried σ m s h p x k is e =
    elim (σ p) as (λ o. σ p ≡ o → o ≡ None) [
      | None ↦ λ g. refl
      | Some w ↦ λ g. absurd (let c = h.carried p w g in let same : x ≡ Recv c.0.channel c.0.variables (who.Pid w) = head x k _ _ (sym is ∙ c.1) in let r = ap is_receive same in let n = sym e ∙ r in cc)
    ] refl
  where
    head : (x : Statement) (k : Code) (y : Statement) (j : Code) → x ⨾ k ≡ y ⨾ j → x ≡ y
    head x k y j e = cc

-- what p sees is the same
seen : (σ : Senders) (m s : State) → Carries σ m s → (p : Pid) → seen_by s p ≡ seen_by m p
seen σ m s h p = λ i. record { sizes = h.sizes i; loose = is_loose (h.program i).channels; own = h.store i p; waiting = λ q. payload_at (h.mail i q) }

-- the same effect of p leads to states that are again so, where p carries nothing any more
after_carries : (σ σ' : Senders) (m s : State) (p : Pid) (x : Effect) → Carries σ m s → σ' p ≡ None → ((q : Pid) → same_process p q ≡ false → σ' q ≡ σ q) → Carries σ' (after m p x) (after s p x)
after_carries σ σ' m s p x h none others = record {
  program = h.program;
  sizes = h.sizes;
  store = λ i. (after record m { store = h.store i } p x).store;
  mail = λ i. (after record m { mail = h.mail i } p x).mail;
  same = λ q e.
      elim (same_process p q) as (λ b. same_process p q ≡ b → (if b then x.next else s.code q) ≡ (if b then x.next else m.code q)) [
        | true ↦ λ g. refl
        | false ↦ λ g. h.same q (sym (others q g) ∙ e)
      ] refl;
  carried = λ q w e.
      let apart : same_process p q ≡ false =
      elim (same_process p q) as (λ b. same_process p q ≡ b → b ≡ false) [
        | true ↦ λ g. absurd (let n = ap σ' (sym (exact_process p q g)) ∙ none in let c = sym e ∙ n in cc)
        | false ↦ λ g. refl
      ] refl in
      let c = h.carried q w (sym (others q apart) ∙ e) in
      (c.0, changed-other process_laws m.code p x.next q apart ∙ c.1, changed-other process_laws s.code p x.next q apart ∙ c.2, c.3);
}

-- an event without a sender
named_carries : (σ : Senders) (m m' s : State) (p : Pid) (place : Option ℕ) → Carries σ m s → σ p ≡ None → step m (from_named p place) ≡ Some m' → (s' : State) × (step s (from_named p place) ≡ Some s') × Carries σ m' s'
named_carries σ m m' s p place h none e =
    let x = mapped (after m p) (effect_in m (from_named p place)) m' e in
    let same : effect_in s (from_named p place) ≡ effect_in m (from_named p place) = λ i. effect (seen σ m s h p i) p (h.same p none i) None place in (
      after s p x.0,
      ap (option_map (after s p)) (same ∙ x.1),
      subst (λ (z : State). Carries σ z (after s p x.0)) x.2 (after_carries σ σ m s p x.0 h none (λ q g. refl)),
    )

pub plain_carries : (σ : Senders) (m m' s : State) (p : Pid) → Carries σ m s → σ p ≡ None → step m (plain_event p) ≡ Some m' → (s' : State) × (step s (plain_event p) ≡ Some s') × Carries σ m' s'
plain_carries σ m m' s p h none e = named_carries σ m m' s p None h none e

-- a receive, which carries the sender if there is one
pub receive_carries : (σ : Senders) (m m' s : State) (p : Pid) (place : Option ℕ) → Carries σ m s → step m (from_named p place) ≡ Some m' →
    (s' : State) × (step s record { process = p; sender = σ p; place = place } ≡ Some s') × Carries (changed same_process σ p None) m' s'
receive_carries σ m m' s p place h e = by (σ p) refl
  where
    by : (o : Option Pid) → σ p ≡ o → (s' : State) × (step s record { process = p; sender = o; place = place } ≡ Some s') × Carries (changed same_process σ p None) m' s'
    by None none =
        let x = named_carries σ m m' s p place h none e in
        (x.0, x.1, subst (λ (z : Senders). Carries z m' x.0) (sym (unchanged_at same_process exact_process σ p None (sym none))) x.2)
    by (Some w) some =
        let c = h.carried p w some in let a = c.0 in
        let x = mapped (after m p) (effect_in m (from_named p place)) m' e in
        let takes : View → Option Effect = λ v. receives v (queue w p a.channel) a.variables (code_with a.binder (who.Pid w) a.body then a.rest) place in
        let same : effect_in s record { process = p; sender = Some w; place = place } ≡ effect_in m (from_named p place) =
        (λ i. effect (seen σ m s h p i) p (c.2 i) (Some w) place) ∙ ap (λ b. if b then takes (seen_by m p) else None) c.3 ∙ (λ i. effect (seen_by m p) p (sym c.1 i) None place) in (
          after s p x.0,
          ap (option_map (after s p)) (same ∙ x.1),
          subst (λ (z : State). Carries (changed same_process σ p None) z (after s p x.0)) x.2
              (after_carries σ (changed same_process σ p None) m s p x.0 h (changed-same process_laws σ p None) (λ q g. changed-other process_laws σ p None q g)),
        )

-- events of several processes that carry nothing
abbrev pub NoneOf : Senders → List Pid → Type 0
NoneOf σ [] = Unit {0}
NoneOf σ (p ∷ ps) = (σ p ≡ None) × NoneOf σ ps

pub plains_carry : (σ : Senders) (ps : List Pid) (m m' s : State) → NoneOf σ ps → Carries σ m s → run m (map plain_event ps) ≡ Some m' → (s' : State) × (run s (map plain_event ps) ≡ Some s') × Carries σ m' s'
plains_carry σ [] m m' s none h e = (s, refl, subst (λ (z : State). Carries σ z s) (same_Some m m' e) h)
plains_carry σ (p ∷ ps) m m' s none h e =
    let b = bound (λ t. run t (map plain_event ps)) (step m (plain_event p)) m' e in
    let x = plain_carries σ m b.0 s p h none.0 b.1 in
    let y = plains_carry σ ps b.0 m' x.0 none.1 x.2 b.2 in
    (y.0, ap (option_and_then (λ t. run t (map plain_event ps))) x.1 ∙ y.1, y.2)

-- where p stands at a receive from any, and is to carry the sender w from now on
pub carries_from : (σ : Senders) (m s : State) (p w : Pid) (a : AnyReceive) → Carries σ m s → σ p ≡ None → m.code p ≡ any_code a → is_member m.sizes a.set w ≡ true → Carries (changed same_process σ p (Some w)) (named a p w m) s
carries_from σ m s p w a h none is inside = record {
  program = h.program;
  sizes = h.sizes;
  store = h.store;
  mail = h.mail;
  same = λ q e.
      elim (same_process p q) as (λ b. same_process p q ≡ b → (if b then Some w else σ q) ≡ None → s.code q ≡ (if b then named_code a w else m.code q)) [
        | true ↦ λ g f. cc
        | false ↦ λ g f. h.same q f
      ] refl e;
  carried = λ q v e.
      elim (same_process p q) as (λ b. same_process p q ≡ b → (if b then Some w else σ q) ≡ Some v → (x : AnyReceive) × ((if b then named_code a w else m.code q) ≡ named_code x v) × (s.code q ≡ any_code x) × (is_member m.sizes x.set v ≡ true)) [
        | true ↦ λ g f.
            let v_is : w ≡ v = same_Some w v f in let same = exact_process p q g in
            (a, ap (named_code a) v_is, ap s.code (sym same) ∙ h.same p none ∙ is, ap (is_member m.sizes a.set) (sym v_is) ∙ inside)
        | false ↦ λ g f. h.carried q v f
      ] refl e;
}
