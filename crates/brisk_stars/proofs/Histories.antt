-- What came since the first member was taken in a run of a gather, and how its being taken again overtakes.
use Rattle.std.proofs.Common.{◌≡◌, ◌≢◌, ◌⊎◌, inl, inr, ℕ, suc, ◌+◌, ◌≤◌, List, [], ◌∷◌, ◌++◌, Option, Some, None, refl, sym, ap, ◌∙◌, subst, arith}
use Rattle.std.specs.Prelude.{option_map}
use Rattle.std.proofs.lemmas.List.{append_assoc}
use Rattle.std.proofs.lemmas.Option.{same_Some}
use Rattle.brisk_values.specs.declared.value.Pid.{Pid}
use Rattle.brisk_values.specs.Names.{Name, single, member}
use Rattle.brisk_syntax.specs.declared.program.Program.{Program}
use Rattle.brisk_syntax.specs.Instance.{Instance}
use Rattle.brisk_syntax.specs.Syntax.{Statement, Code, done, ◌⨾◌, ◌then◌}
use Rattle.brisk_async.specs.declared.event.Event.{Event}
use Rattle.brisk_async.specs.Machine.{State, run, start}
use Rattle.brisk_async.specs.PlainRuns.{Gather, Overtakes, at_receive, at_turn, code_after}

-- a list with one more at its end, in two parts: the second part is empty, or the first part lies before that end
parts_before_last : (es xs ys : List Event) (e : Event) → es ++ e ∷ [] ≡ xs ++ ys → (xs ≡ es ++ e ∷ []) ⊎ ((zs : List Event) × (es ≡ xs ++ zs))
parts_before_last es [] ys e h = inr (es, refl)
parts_before_last [] (x ∷ []) ys e h = inl (let same : x ≡ e = cc in ap (λ z. z ∷ []) same)
parts_before_last [] (x ∷ y ∷ xs) ys e h = cc
parts_before_last (f ∷ es) (x ∷ xs) ys e h =
    let head : f ≡ x = cc in
    let tail : es ++ e ∷ [] ≡ xs ++ ys = cc in
    elim (parts_before_last es xs ys e tail) [
      | inl is ↦ inl ((λ i. sym head i ∷ is i))
      | inr z ↦ inr (z.0, (λ i. head i ∷ z.1 i))
    ]

-- code that goes on to a later turn isn't at the first one
abbrev length_of : Code → ℕ
length_of done = 0
length_of (x ⨾ c) = suc (length_of c)

length_then : (a b : Code) → length_of (a then b) ≡ length_of a + length_of b
length_then done b = omega arith
length_then (x ⨾ a) b = let h = length_then a b in omega (arith, h)

pub not_at_first : (x : Code) (g : Gather) (k : ℕ) → x then at_turn g (suc k) ≡ at_turn g 0 → ⊥
not_at_first done g k h = cc
not_at_first (s ⨾ x) g k h =
    let rest : x then at_turn g (suc k) ≡ g.rest = cc in
    let a = ap length_of rest in
    let b = length_then x (at_turn g (suc k)) in
    absurd (omega (arith, a, b))

module _ (P : Program) (i : Instance) (M : Name) where
  abbrev codes_after : List Event → Option Code
  codes_after es = code_after P i es (single M)

  -- In these events the centre took from the first member at the gather's receive, and since then the gather wasn't begun anew.
  pub record Since (g : Gather) (past : List Event) : Type 0 where
    pub before : List Event
    pub first : Event
    pub between : List Event
    pub parts : past ≡ before ++ first ∷ between
    pub mine : first.process ≡ single M
    pub sender : first.sender ≡ Some (member g.set 0)
    pub stands : (k : ℕ) × (codes_after before ≡ Some (at_receive g k))
    pub none : (xs ys : List Event) → between ≡ xs ++ ys → codes_after (before ++ first ∷ xs) ≢ Some (at_turn g 0)

  -- the code in a state to which a schedule leads
  pub code_there : (es : List Event) (t : State) (c : Code) → run (start P i) es ≡ Some t → t.code (single M) ≡ c → codes_after es ≡ Some c
  code_there es t c r h = ap (option_map (λ (s : State). s.code (single M))) r ∙ ap Some h

  -- it begins as the first member is taken
  pub since_begins : (g : Gather) (past : List Event) (e : Event) (c : Code) (k : ℕ) → e.process ≡ single M → e.sender ≡ Some (member g.set 0) → codes_after past ≡ Some (at_receive g k) →
      codes_after (past ++ e ∷ []) ≡ Some c → (c ≡ at_turn g 0 → ⊥) → Since g (past ++ e ∷ [])
  since_begins g past e c k mine sender stands after off = record {
    before = past;
    first = e;
    between = [];
    parts = refl;
    mine = mine;
    sender = sender;
    stands = (k, stands);
    none = λ xs ys h is. nowhere xs ys h is;
  }
    where
      nowhere : (xs ys : List Event) → [] ≡ xs ++ ys → codes_after (past ++ e ∷ xs) ≡ Some (at_turn g 0) → ⊥
      nowhere [] ys h is = off (same_Some c (at_turn g 0) (sym after ∙ is))
      nowhere (x ∷ xs) ys h is = cc

  -- and goes on with each event after which the gather isn't begun anew
  pub since_goes_on : (g : Gather) (past : List Event) (e : Event) (c : Code) → Since g past → codes_after (past ++ e ∷ []) ≡ Some c → (c ≡ at_turn g 0 → ⊥) → Since g (past ++ e ∷ [])
  since_goes_on g past e c h after off = record {
    before = h.before;
    first = h.first;
    between = h.between ++ e ∷ [];
    parts = whole;
    mine = h.mine;
    sender = h.sender;
    stands = h.stands;
    none = λ xs ys split is. elim (parts_before_last h.between xs ys e split) [
      | inl all ↦ off (same_Some c (at_turn g 0) (sym after ∙ ap codes_after (whole ∙ ap (λ z. h.before ++ h.first ∷ z) (sym all)) ∙ is))
      | inr z ↦ h.none xs z.0 z.1 is
    ];
  }
    where
      whole : past ++ e ∷ [] ≡ h.before ++ h.first ∷ (h.between ++ e ∷ [])
      whole = ap (λ z. z ++ e ∷ []) h.parts ∙ append_assoc h.before (h.first ∷ h.between) (e ∷ [])

  -- where the first member is taken again, it overtakes
  pub taken_again : (g : Gather) (past later es : List Event) (e : Event) (end : State) (k : ℕ) → Since g past → codes_after past ≡ Some (at_receive g k) → e.process ≡ single M → e.sender ≡ Some (member g.set 0) →
      es ≡ past ++ e ∷ later → run (start P i) es ≡ Some end → Overtakes P i es
  taken_again g past later es e end k h stands mine sender parts runs = record {
    end = end;
    runs = runs;
    gather = g;
    first = h.first;
    second = e;
    same_process = mine ∙ sym h.mine;
    same_sender = sender ∙ sym h.sender;
    before = h.before;
    between = h.between;
    later = later;
    parts = parts ∙ ap (λ z. z ++ e ∷ later) h.parts ∙ append_assoc h.before (h.first ∷ h.between) (e ∷ later);
    stands = (h.stands.0, ap (code_after P i h.before) h.mine ∙ h.stands.1);
    stands_again = (k, ap (code_after P i (h.before ++ h.first ∷ h.between)) h.mine ∙ ap codes_after (sym h.parts) ∙ stands);
    one_run = λ xs ys split is. h.none xs ys split (sym (ap (code_after P i (h.before ++ h.first ∷ xs)) h.mine) ∙ is);
  }
