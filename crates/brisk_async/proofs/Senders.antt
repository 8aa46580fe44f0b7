-- The sender of a receive from any: which member a schedule takes, and a schedule in which the sender is put in.
use Rattle.std.proofs.Common.{◌≡◌, ℕ, ◌+◌, true, false, List, [], ◌∷◌, ◌++◌, Option, Some, None, refl, sym, ap, ◌∙◌, subst, inl, inr}
use Rattle.std.specs.Prelude.{◌⊎◌, if◌then◌else◌}
use Rattle.std.proofs.lemmas.Option.{same_Some}
use Rattle.brisk_values.specs.declared.value.Pid.{Pid}
use Rattle.brisk_values.specs.Names.{same_process}
use Rattle.brisk_async.specs.declared.event.Event.{Event}
use Rattle.brisk_async.specs.Laws.{count, AnyReceive, any_code, named, from_any, from_named, Takes}
use Rattle.brisk_async.specs.Machine.{State, step, run, is_member}
use Rattle.brisk_async.proofs.Named.{FirstOf, first_of, not_first, has_none, other_back, head_back}
use Rattle.brisk_async.proofs.Runs.{split_run, bound}

-- what each event of the others keeps is so before p's first event
pub kept_before : (p : Pid) (I : State → Type 0) → ((s t : State) (f : Event) → same_process p f.process ≡ false → I s → step s f ≡ Some t → I t) →
    (s : State) (es : List Event) (z : State) → run s es ≡ Some z → count p es ≡ 0 → I s → I z
kept_before p I keep s [] z r n i = subst I (same_Some s z r) i
kept_before p I keep s (f ∷ es) z r n i =
    let b = bound (λ t. run t es) (step s f) z r in
    let c = not_first p f es n in
    kept_before p I keep b.0 es z b.2 c.1 (keep s b.0 f c.0 i b.1)

-- two events of one process count alike
pub counts_alike : (q : Pid) (before : List Event) (e f : Event) (later : List Event) → e.process ≡ f.process → count q (before ++ e ∷ later) ≡ count q (before ++ f ∷ later)
counts_alike q [] e f later h = ap (λ p. (if same_process q p then 1 else 0) + count q later) h
counts_alike q (g ∷ before) e f later h = ap (λ n. (if same_process q g.process then 1 else 0) + n) (counts_alike q before e f later h)

-- the event by which a schedule takes a member's message
pub record Taking (a : AnyReceive) (p : Pid) (s : State) (es : List Event) (z : State) (t : Takes a p s es z) : Type 0 where
  pub at : State
  pub next : State
  pub runs_before : run s t.before ≡ Some at
  pub takes : step at (from_any p t.from t.place) ≡ Some next

pub taking : (a : AnyReceive) (p : Pid) (s : State) (es : List Event) (z : State) → run s es ≡ Some z → (t : Takes a p s es z) → Taking a p s es z t
taking a p s es z r t =
    let y = split_run s z t.before (from_any p t.from t.place ∷ t.later) (ap (run s) (sym t.parts) ∙ r) in
    let b = bound (λ u. run u t.later) (step y.0 (from_any p t.from t.place)) z y.2 in
    record { at = y.0; next = b.0; runs_before = y.1; takes = b.1 }

-- a schedule in which p's first event carries the sender w, in place of one without
pub record Sent (p w : Pid) (s : State) (es : List Event) (z : State) : Type 0 where
  pub before : List Event
  pub place : Option ℕ
  pub later : List Event
  pub parts : es ≡ before ++ from_named p place ∷ later
  pub none : count p before ≡ 0
  pub runs : run s (before ++ from_any p w place ∷ later) ≡ Some z
  pub counts : (q : Pid) → count q es ≡ count q (before ++ from_any p w place ∷ later)

-- a schedule from where w is named takes w's message, or holds no event of p
pub any_schedule : (a : AnyReceive) (p : Pid) (s : State) (es : List Event) (z : State) (w : Pid) → s.code p ≡ any_code a → is_member s.sizes a.set w ≡ true →
    run (named a p w s) es ≡ Some z → Sent p w s es z ⊎ (count p es ≡ 0)
any_schedule a p s es z w is inside r = elim (first_of p es) [ inl x ↦ inl (own x.event.sender x refl) | inr n ↦ inr n ]
  where
    own : (o : Option Pid) (x : FirstOf p es) → x.event.sender ≡ o → Sent p w s es z
    own o x e =
        let y = split_run (named a p w s) z x.before (x.event ∷ x.later) (ap (run (named a p w s)) (sym x.parts) ∙ r) in
        let b = bound (λ t. run t x.later) (step y.0 x.event) z y.2 in
        let k = other_back a p x.before x.none s y.0 w y.1 in
        sent o (λ i. record { process = x.its i; sender = sym e i; place = x.event.place }) k.0 b.0 (ap (λ t. step t x.event) k.2 ∙ b.1)
      where
        sent : (o : Option Pid) → record { process = p; sender = o; place = x.event.place } ≡ x.event → (t u : State) → step (named a p w t) x.event ≡ Some u → Sent p w s es z
        sent (Some v) same t u h = absurd (let g = ap (step (named a p w t)) same in let n = has_none a p t w v x.event.place in let c = sym h ∙ sym g ∙ n in cc)
        sent None same t u h =
            let parts : es ≡ x.before ++ from_named p x.event.place ∷ x.later = x.parts ∙ ap (λ f. x.before ++ f ∷ x.later) (sym same) in
            record {
              before = x.before;
              place = x.event.place;
              later = x.later;
              parts = parts;
              none = x.none;
              runs = head_back a p w x.event.place s x.before x.later z is inside x.none (ap (run (named a p w s)) (sym parts) ∙ r);
              counts = λ q. ap (count q) parts ∙ counts_alike q x.before (from_named p x.event.place) (from_any p w x.event.place) x.later refl;
            }
