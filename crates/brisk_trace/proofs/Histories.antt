-- Lists of events and one more, and what a process took in a run of a gather.
use Rattle.std.proofs.Common.{◌≡◌, ◌≢◌, ℕ, List, [], ◌∷◌, ◌++◌, Option, Some, inl, inr, refl, sym, ap, ◌∙◌, subst}
use Rattle.std.specs.Prelude.{◌⊎◌, option_map}
use Rattle.std.proofs.lemmas.List.{append_assoc, append-nil}
use Rattle.brisk_values.specs.declared.value.Pid.{Pid}
use Rattle.brisk_syntax.specs.Syntax.{Code}
use Rattle.brisk_async.specs.declared.event.Event.{Event}
use Rattle.brisk_async.specs.Machine.{State, run}
use Rattle.brisk_async.specs.PlainRuns.{Gather, at_receive, at_turn}

-- a list with one more item in two parts: the second is empty, or the item is its last one
pub last_apart : {A : Type 0} (bs xs ys : List A) (e : A) → bs ++ e ∷ [] ≡ xs ++ ys → ((ys ≡ []) × (xs ≡ bs ++ e ∷ [])) ⊎ ((zs : List A) × (bs ≡ xs ++ zs))
last_apart [] [] ys e h = inr ([], refl)
last_apart [] (x ∷ []) [] e h = inl (refl, sym h)
last_apart [] (x ∷ []) (y ∷ ys) e h = cc
last_apart [] (x ∷ z ∷ xs) ys e h = cc
last_apart (b ∷ bs) [] ys e h = inr (b ∷ bs, refl)
last_apart (b ∷ bs) (x ∷ xs) ys e h =
    let first : b ≡ x = cc in let rest : bs ++ e ∷ [] ≡ xs ++ ys = cc in
    elim (last_apart bs xs ys e rest) [
      | inl w ↦ inl (w.0, λ i. sym first i ∷ w.1 i)
      | inr w ↦ inr (w.0, λ i. first i ∷ w.1 i)
    ]

-- a list with one more item, with an item inside: it is the last one, or stands before it
pub last_or_before : {A : Type 0} (es xs ys : List A) (e y : A) → es ++ e ∷ [] ≡ xs ++ y ∷ ys →
    ((es ≡ xs) × (e ≡ y) × (ys ≡ [])) ⊎ ((zs : List A) × (ys ≡ zs ++ e ∷ []) × (es ≡ xs ++ y ∷ zs))
last_or_before [] [] ys e y h = inl (refl, cc, cc)
last_or_before [] (x ∷ []) ys e y h = cc
last_or_before [] (x ∷ z ∷ xs) ys e y h = cc
last_or_before (b ∷ bs) [] ys e y h = inr (bs, cc, (let first : b ≡ y = cc in ap (λ z. z ∷ bs) first))
last_or_before (b ∷ bs) (x ∷ xs) ys e y h =
    let first : b ≡ x = cc in let rest : bs ++ e ∷ [] ≡ xs ++ y ∷ ys = cc in
    elim (last_or_before bs xs ys e y rest) [
      | inl w ↦ inl (λ i. first i ∷ w.0 i, w.1, w.2)
      | inr w ↦ inr (w.0, w.1, λ i. first i ∷ w.2 i)
    ]

module _ (s : State) where
  -- the code of a process after a schedule
  abbrev pub code_at : List Event → Pid → Option Code
  code_at es p = option_map (λ t. t.code p) (run s es)

  -- after these events, the process took from this sender in the run of the gather that is open
  pub record HasTaken (es : List Event) (p : Pid) (g : Gather) (from : Option Pid) : Type 0 where
    pub before : List Event
    pub first : Event
    pub between : List Event
    pub parts : es ≡ before ++ first ∷ between
    pub process : first.process ≡ p
    pub sender : first.sender ≡ from
    pub stands : (k : ℕ) × (code_at before p ≡ Some (at_receive g k))
    pub one_run : (xs ys : List Event) → between ≡ xs ++ ys → code_at (before ++ first ∷ xs) p ≢ Some (at_turn g 0)

  -- one more event, after which the gather isn't begun anew
  pub extended : (es : List Event) (e : Event) (p : Pid) (g : Gather) (from : Option Pid) → code_at (es ++ e ∷ []) p ≢ Some (at_turn g 0) → HasTaken es p g from → HasTaken (es ++ e ∷ []) p g from
  extended es e p g from not h = record {
    before = h.before;
    first = h.first;
    between = h.between ++ e ∷ [];
    parts = parts;
    process = h.process;
    sender = h.sender;
    stands = h.stands;
    one_run = λ xs ys both anew. elim (last_apart h.between xs ys e both) [
      | inl w ↦ not (ap (λ z. code_at z p) parts ∙ ap (λ z. code_at (h.before ++ h.first ∷ z) p) (sym w.1) ∙ anew)
      | inr w ↦ h.one_run xs w.0 w.1 anew
    ];
  }
    where
      parts : es ++ e ∷ [] ≡ h.before ++ h.first ∷ (h.between ++ e ∷ [])
      parts = ap (λ z. z ++ e ∷ []) h.parts ∙ append_assoc h.before (h.first ∷ h.between) (e ∷ [])

  front_empty : {A : Type 0} (xs ys : List A) → [] ≡ xs ++ ys → xs ≡ []
  front_empty [] ys h = refl
  front_empty (x ∷ xs) ys h = cc

  -- the event itself takes
  pub added : (es : List Event) (e : Event) (p : Pid) (g : Gather) (from : Option Pid) → e.process ≡ p → e.sender ≡ from → (k : ℕ) × (code_at es p ≡ Some (at_receive g k)) → code_at (es ++ e ∷ []) p ≢ Some (at_turn g 0) →
      HasTaken (es ++ e ∷ []) p g from
  added es e p g from process sender stands not = record {
    before = es;
    first = e;
    between = [];
    parts = refl;
    process = process;
    sender = sender;
    stands = stands;
    one_run = λ xs ys both anew. not (ap (λ z. code_at (es ++ e ∷ z) p) (sym (front_empty xs ys both)) ∙ anew);
  }

  -- what was taken was taken before the last event, or by it
  pub before_or_last : (es : List Event) (e : Event) (p : Pid) (g : Gather) (from : Option Pid) → HasTaken (es ++ e ∷ []) p g from →
      HasTaken es p g from ⊎ ((e.process ≡ p) × (e.sender ≡ from) × ((k : ℕ) × (code_at es p ≡ Some (at_receive g k))))
  before_or_last es e p g from h = elim (last_or_before es h.before h.between e h.first h.parts) [
    | inl w ↦ inr (ap (λ (z : Event). z.process) w.1 ∙ h.process, ap (λ (z : Event). z.sender) w.1 ∙ h.sender, (h.stands.0, ap (λ z. code_at z p) w.0 ∙ h.stands.1))
    | inr w ↦ inl record {
      before = h.before;
      first = h.first;
      between = w.0;
      parts = w.2;
      process = h.process;
      sender = h.sender;
      stands = h.stands;
      one_run = λ xs ys both. h.one_run xs (ys ++ e ∷ []) (w.1 ∙ ap (λ z. z ++ e ∷ []) both ∙ append_assoc xs ys (e ∷ []));
    }
  ]

  -- where the gather begins anew, nothing is taken in its run
  pub none_anew : (es : List Event) (p : Pid) (g : Gather) (from : Option Pid) → code_at es p ≡ Some (at_turn g 0) → HasTaken es p g from → ⊥
  none_anew es p g from anew h = h.one_run h.between [] (sym (append-nil h.between)) (ap (λ z. code_at z p) (sym h.parts) ∙ anew)

  -- a second event takes from a sender from which an earlier one of the same run took
  pub record Overtaken (es : List Event) : Type 0 where
    pub so_far : List Event
    pub second : Event
    pub later : List Event
    pub gather : Gather
    pub parts : es ≡ so_far ++ second ∷ later
    pub taken : HasTaken so_far second.process gather second.sender
    pub stands : (k : ℕ) × (code_at so_far second.process ≡ Some (at_receive gather k))

  -- a longer schedule is overtaken too
  pub overtaken_longer : (es fs : List Event) → Overtaken es → Overtaken (es ++ fs)
  overtaken_longer es fs h = record {
    so_far = h.so_far;
    second = h.second;
    later = h.later ++ fs;
    gather = h.gather;
    parts = ap (λ z. z ++ fs) h.parts ∙ append_assoc h.so_far (h.second ∷ h.later) fs;
    taken = h.taken;
    stands = h.stands;
  }

  -- with one more event a schedule is overtaken before it, or by it
  pub overtaken_last : (es : List Event) (e : Event) → Overtaken (es ++ e ∷ []) → Overtaken es ⊎ ((g : Gather) × HasTaken es e.process g e.sender × ((k : ℕ) × (code_at es e.process ≡ Some (at_receive g k))))
  overtaken_last es e h = elim (last_or_before es h.so_far h.later e h.second h.parts) [
    | inl w ↦ inr (
      h.gather,
      subst (λ (z : List Event). HasTaken z e.process h.gather e.sender) (sym w.0) (subst (λ (z : Event). HasTaken h.so_far z.process h.gather z.sender) (sym w.1) h.taken),
      subst (λ (z : List Event). (k : ℕ) × (code_at z e.process ≡ Some (at_receive h.gather k))) (sym w.0) (subst (λ (z : Event). (k : ℕ) × (code_at h.so_far z.process ≡ Some (at_receive h.gather k))) (sym w.1) h.stands),
    )
    | inr w ↦ inl record { so_far = h.so_far; second = h.second; later = w.0; gather = h.gather; parts = w.2; taken = h.taken; stands = h.stands }
  ]

  none_inside : {A : Type 0} (xs ys : List A) (y : A) → [] ≡ xs ++ y ∷ ys → ⊥
  none_inside [] ys y h = cc
  none_inside (x ∷ xs) ys y h = cc

  pub not_overtaken : Overtaken [] → ⊥
  not_overtaken h = none_inside h.so_far h.later h.second h.parts

  pub last_taken : (es : List Event) (e : Event) (g : Gather) → HasTaken es e.process g e.sender → (k : ℕ) × (code_at es e.process ≡ Some (at_receive g k)) → Overtaken (es ++ e ∷ [])
  last_taken es e g taken stands = record { so_far = es; second = e; later = []; gather = g; parts = refl; taken = taken; stands = stands }
