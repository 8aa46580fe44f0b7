-- What comes of a thread's turn that stays: no basic rule moves the thread.
use Rattle.std.proofs.Common.{◌≡◌, ℕ, zero, suc, Bool, true, false, List, [], ◌∷◌, Option, Some, None, length, refl, sym, ap, ◌∙◌, subst, true≢false}
use Rattle.std.specs.Prelude.{Ok, Err, ◌||◌, if◌then◌else◌, is_ok}
use Rattle.std.specs.List.{list_any}
use Rattle.brisk_values.specs.declared.value.Value.TheVariants as value
use Rattle.brisk_values.specs.Names.{Name, same_name}
use Rattle.brisk_values.proofs.Changes.{exact_name}
use Rattle.std.proofs.lemmas.Option.{same_Some}
use Rattle.brisk_syntax.specs.Typing.{is_among}
use Rattle.brisk_state.specs.Symbolic as symbolic
use Rattle.brisk_syntax.specs.declared.tree.Who.{Who}
use Rattle.brisk_syntax.specs.declared.tree.Who.TheVariants as who
use Rattle.brisk_syntax.specs.Syntax.{Expression, Statement, Assign, Send, Recv, RecvAny, If, IfElse, While, For, Repeat, Code, done, ◌⨾◌}
use Rattle.brisk_facts.specs.Facts.{is_known}
use Rattle.brisk_facts.specs.Learning.{folded}
use Rattle.brisk_state.specs.declared.thread.Mode.{Mode}
use Rattle.brisk_state.specs.declared.thread.Mode.TheVariants.{One, At, Each}
use Rattle.brisk_state.specs.declared.thread.Thread.{Thread}
use Rattle.brisk_state.specs.Symbolic.{Symbolic, thread_named, active_code, code_at}
use Rattle.brisk_basic.specs.Basic.{Applied}
use Rattle.brisk_derivation.specs.declared.steps.BasicStep.{BasicStep}
use Rattle.brisk_derivation.specs.declared.steps.BasicStep.TheVariants as basic
use Rattle.brisk_rules.specs.Derives.{apply_quietly, rule_of}
use Rattle.brisk_rules.specs.Rules.{Outcome, mode_of, code_in}
use Rattle.brisk_rules.specs.Standing.{stands_at, thread_of, least_free}
use Rattle.brisk_rules.specs.Reports.{applies, fills, basic_rules}
use Rattle.brisk_sound.proofs.Applied.{Applies, passes}
use Rattle.brisk_sound.proofs.Applied as applied_by
use Rattle.brisk_rules.proofs.Readings.{is_active, stands_by}
use Rattle.brisk_sound.proofs.Strict.{quietly_ok}
use Rattle.brisk_search.specs.Turns.{RulesLeft, Failures, Turn, Goes, Stays, Attempt, stay, where_it_stays, ◌otherwise◌, due}
use Rattle.brisk_search.specs.Turns as turn
use Rattle.brisk_search.specs.Tries.{while_rule, nine_tries}
use Rattle.brisk_search.specs.Advance.{Around, applied, basically, filled, acts, waits_for, at_code, passed_on, actor, acts_for, advance, unless_taken}
use Rattle.brisk_search.proofs.Pushing.{WhereStays}
use Rattle.brisk_search.proofs.Acted.{then_on, weaker, stands}

constant : (A : Type 0) → A → (t : Turn) → WhereStays (λ gs. A) t
constant A a (Goes step items S left) = tt
constant A a (Stays gs left) = a
constant A a turn.Spent = tt

pub goes : (A : Failures → Type 0) (b : BasicStep) (r : Applied) (o : Outcome Applied) → o ≡ Ok r → (fs : Failures) (left : RulesLeft) → WhereStays A (applied b o fs left)
goes A b r (Ok x) e fs None = tt
goes A b r (Ok x) e fs (Some zero) = tt
goes A b r (Ok x) e fs (Some (suc n)) = tt
goes A b r (Err why) e fs left = cc

-- a rule that goes, and whatever comes where it stays
goes_first : (around : Around) (A : Failures → Type 0) (S : Symbolic) (b : BasicStep) (r : Applied) → apply_quietly around.program around.follows S (rule_of b) ≡ Ok r → (next : Attempt) (fs : Failures) (left : RulesLeft) → WhereStays A ((basically around S b otherwise next) fs left)
goes_first around A S b r e next fs left = then_on (λ gs. ⊥) A next (basically around S b fs left) (goes (λ gs. ⊥) b r (apply_quietly around.program around.follows S (rule_of b)) e fs left) (λ gs l a. absurd a)

-- where a basic rule stays, it doesn't apply
fails : (b : BasicStep) (o : Outcome Applied) (fs : Failures) (left : RulesLeft) → WhereStays (λ gs. is_ok o ≡ false) (applied b o fs left)
fails b (Ok r) fs None = tt
fails b (Ok r) fs (Some zero) = tt
fails b (Ok r) fs (Some (suc n)) = tt
fails b (Err why) fs left = refl

basic_fails : (around : Around) (S : Symbolic) (b : BasicStep) (fs : Failures) (left : RulesLeft) → WhereStays (λ gs. applies around.program around.follows S b ≡ false) (basically around S b fs left)
basic_fails around S b = fails b (apply_quietly around.program around.follows S (rule_of b))

-- one basic rule, and then the rest of a turn
one_fails : (around : Around) (S : Symbolic) (b : BasicStep) (next : Attempt) (A : Type 0) → (applies around.program around.follows S b ≡ false → (gs : Failures) (left : RulesLeft) → WhereStays (λ hs. A) (next gs left)) → (fs : Failures) (left : RulesLeft) →
    WhereStays (λ gs. A) ((basically around S b otherwise next) fs left)
one_fails around S b next A h fs left = then_on (λ gs. applies around.program around.follows S b ≡ false) (λ gs. A) next (basically around S b fs left) (basic_fails around S b fs left) (λ gs l e. h e gs l)

fill_fails : (around : Around) (S : Symbolic) (t u c : Name) (n : Option ℕ) (fs : Failures) (left : RulesLeft) → WhereStays (λ gs. list_any (applies around.program around.follows S) (fills t u c n) ≡ false) (filled around S t u c n fs left)
fill_fails around S t u c None fs left = refl
fill_fails around S t u c (Some n) fs left =
    weaker (λ gs. applies around.program around.follows S (basic.Fill t u c n) ≡ false) (λ gs. list_any (applies around.program around.follows S) (fills t u c (Some n)) ≡ false) (basically around S (basic.Fill t u c n) fs left) (λ gs e i. e i || false) (basic_fails around S (basic.Fill t u c n) fs left)

-- the thread isn't at a receive
abbrev pub NoReceive : Code → Type 0
NoReceive (Recv c xs u ⨾ rest) = ⊥
NoReceive code = Unit {0}

module _ (around : Around) (S : Symbolic) (t : Name) where
  -- a basic rule alone, or first
  alone : (b : BasicStep) (fs : Failures) (left : RulesLeft) → WhereStays (λ gs. list_any (applies around.program around.follows S) (b ∷ []) ≡ false) (basically around S b fs left)
  alone b fs left = weaker (λ gs. applies around.program around.follows S b ≡ false) (λ gs. list_any (applies around.program around.follows S) (b ∷ []) ≡ false) (basically around S b fs left) (λ gs e i. e i || false) (basic_fails around S b fs left)

  at_first : (b : BasicStep) (next : Attempt) (fs : Failures) (left : RulesLeft) → WhereStays (λ gs. list_any (applies around.program around.follows S) (b ∷ []) ≡ false) ((basically around S b otherwise next) fs left)
  at_first b next = one_fails around S b next (list_any (applies around.program around.follows S) (b ∷ []) ≡ false) (λ e gs l. constant _ (λ i. e i || false) (next gs l))

  at_last : (attempt : Attempt) (b : BasicStep) (fs : Failures) (left : RulesLeft) → WhereStays (λ gs. list_any (applies around.program around.follows S) (b ∷ []) ≡ false) ((attempt otherwise basically around S b) fs left)
  at_last attempt b fs left =
      then_on (λ gs. Unit {0}) (λ gs. list_any (applies around.program around.follows S) (b ∷ []) ≡ false) (basically around S b) (attempt fs left) (constant (Unit {0}) tt (attempt fs left)) (λ gs l u. alone b gs l)

  whiles : (f : Bool) (attempt : Attempt) (fs : Failures) (left : RulesLeft) →
      WhereStays (λ gs. list_any (applies around.program around.follows S) (basic.Known t ∷ []) ≡ false) ((if f then basically around S (basic.Known t) else (attempt otherwise basically around S (basic.Known t))) fs left)
  whiles true attempt = alone (basic.Known t)
  whiles false attempt = at_last attempt (basic.Known t)

  pub acting_still : (code : Code) → NoReceive code → (fs : Failures) (left : RulesLeft) → WhereStays (λ gs. list_any (applies around.program around.follows S) (basic_rules S t code) ≡ false) (acts around S t code fs left)
  acting_still done n fs left = refl
  acting_still (Assign x e ⨾ rest) n fs left = alone (basic.Assign t) fs left
  acting_still (Send c es u ⨾ rest) n fs left =
      one_fails around S (basic.Pass t (thread_of u) c) (filled around S t (thread_of u) c (least_free S.pending)) _ (λ e gs l.
      weaker (λ hs. list_any (applies around.program around.follows S) (fills t (thread_of u) c (least_free S.pending)) ≡ false) (λ hs. list_any (applies around.program around.follows S) (basic_rules S t (Send c es u ⨾ rest)) ≡ false) (filled around S t (thread_of u) c (least_free S.pending) gs l)
      (λ hs f i. e i || f i) (fill_fails around S t (thread_of u) c (least_free S.pending) gs l)) fs left
  acting_still (Recv c xs u ⨾ rest) n fs left = absurd n
  acting_still (If e a ⨾ rest) n fs left = at_first (basic.Known t) _ fs left
  acting_still (IfElse e a b ⨾ rest) n fs left = at_first (basic.Known t) _ fs left
  acting_still (While e b ⨾ rest) n fs left = whiles (is_known (folded S.facts t e) (value.Bool false)) (nine_tries around.program around.below S (while_rule around.follows S t)) fs left
  acting_still (For v s k b ⨾ rest) n fs left = constant (list_any (applies around.program around.follows S) (basic_rules S t (For v s k b ⨾ rest)) ≡ false) refl (acts around S t (For v s k b ⨾ rest) fs left)
  acting_still (Repeat s k b ⨾ rest) n fs left = constant (list_any (applies around.program around.follows S) (basic_rules S t (Repeat s k b ⨾ rest)) ≡ false) refl (acts around S t (Repeat s k b ⨾ rest) fs left)
  acting_still (RecvAny c xs v s b ⨾ rest) n fs left = constant (list_any (applies around.program around.follows S) (basic_rules S t (RecvAny c xs v s b ⨾ rest)) ≡ false) refl (acts around S t (RecvAny c xs v s b ⨾ rest) fs left)

-- the thread that acts in a turn is there
pub actor_there : (around : Around) (S : Symbolic) (room : ℕ) (waiting : List Name) (t u : Name) → actor around room S waiting t ≡ Some u → code_at S u ≡ Some (stands_at S u)
actor_there around S zero waiting t u e = cc
actor_there around S (suc room) waiting t u e = at_head (code_at S t) refl e (λ w f. actor_there around S room (t ∷ waiting) w u f)
  where
    passing : (w : Option Name) → code_at S t ≡ Some (stands_at S t) → passed_on (actor around room S (t ∷ waiting)) waiting t w ≡ Some u → ((w : Name) → actor around room S (t ∷ waiting) w ≡ Some u → code_at S u ≡ Some (stands_at S u)) →
        code_at S u ≡ Some (stands_at S u)
    passing None there f more = let q : t ≡ u = same_Some t u f in subst (λ z. code_at S z ≡ Some (stands_at S z)) q there
    passing (Some w) there f more = among (is_among waiting w) f
      where
        among : (b : Bool) → (if b then None else actor around room S (t ∷ waiting) w) ≡ Some u → code_at S u ≡ Some (stands_at S u)
        among true f = cc
        among false f = more w f

    at_head : (o : Option Code) → code_at S t ≡ o → at_code o (λ code. passed_on (actor around room S (t ∷ waiting)) waiting t (waits_for around S t code)) ≡ Some u →
        ((w : Name) → actor around room S (t ∷ waiting) w ≡ Some u → code_at S u ≡ Some (stands_at S u)) → code_at S u ≡ Some (stands_at S u)
    at_head None h f more = cc
    at_head (Some done) h f more = cc
    at_head (Some (s ⨾ c)) h f more = passing (waits_for around S t (s ⨾ c)) (h ∙ ap Some (sym (stands S t (s ⨾ c) h))) f more

-- a thread that rules move has its code
pub active_there : (S : Symbolic) (t : Name) → is_active (mode_of (thread_named S.threads t)) ≡ true → code_at S t ≡ Some (stands_at S t)
active_there S t e = go (thread_named S.threads t) e
  where
    if_active : (b : Bool) (c : Code) → b ≡ true → (if b then Some c else None) ≡ Some c
    if_active true c e = refl
    if_active false c e = absurd (true≢false (sym e))

    go : (o : Option Thread) → is_active (mode_of o) ≡ true → active_code o ≡ Some (code_in o)
    go None e = absurd (true≢false (sym e))
    go (Some u) e = if_active (symbolic.is_active u.mode) u.code e

-- the partner of a statement is the thread that it stands for
pub partner_is : (m : Option Mode) (t : Name) (w : Who) → stands_by m t w ≡ true → thread_of w ≡ t
partner_is (Some One) t (who.Name n) e = sym (exact_name t n e)
partner_is (Some One) t (who.At s) e = absurd (true≢false (sym e))
partner_is (Some One) t (who.Pid p) e = absurd (true≢false (sym e))
partner_is (Some At) t (who.Name n) e = absurd (true≢false (sym e))
partner_is (Some At) t (who.At s) e = sym (exact_name t s e)
partner_is (Some At) t (who.Pid p) e = absurd (true≢false (sym e))
partner_is (Some Each) t w e = absurd (true≢false (sym e))
partner_is None t w e = absurd (true≢false (sym e))

-- a sender whose message may be passed on to the thread
record Sender (S : Symbolic) (u t c : Name) : Type 0 where
  values : List Expression
  partner : Who
  rest : Code
  there : code_at S u ≡ Some (Send c values partner ⨾ rest)
  is : thread_of partner ≡ t

sender_of : (S : Symbolic) (u t c : Name) (r : Applied) → Applies S r (rule_of (basic.Pass u t c)) → Sender S u t c
sender_of S u t c r (passes _ _ _ es w k xs w' k' act act' is st is' st' pend q n named) =
    record { values = es; partner = w; rest = k; there = active_there S u act ∙ ap Some is; is = partner_is (mode_of (thread_named S.threads t)) t w st }

no_thread : (S : Symbolic) (t : Name) (code : Code) → S.threads ≡ [] → code_at S t ≡ Some code → ⊥
no_thread S t code e h = let g : active_code (thread_named [] t) ≡ Some code = ap (λ ts. active_code (thread_named ts t)) (sym e) ∙ h in cc

pub some_room : (S : Symbolic) (t : Name) (code : Code) → code_at S t ≡ Some code → (n : ℕ) × (length S.threads ≡ suc n)
some_room S t code h = go S.threads refl
  where
    go : (ts : List Thread) → S.threads ≡ ts → (n : ℕ) × (length ts ≡ suc n)
    go [] e = absurd (no_thread S t code e h)
    go (v ∷ vs) e = (length vs, refl)

only : (v : Thread) (t : Name) (code : Code) → active_code (thread_named (v ∷ []) t) ≡ Some code → v.code ≡ code
only v t code e = named (same_name t v.name) e
  where
    if_active : (b : Bool) (c : Code) → (if b then Some c else None) ≡ Some code → c ≡ code
    if_active true c e = cc
    if_active false c e = cc

    named : (b : Bool) → active_code (if b then Some v else None) ≡ Some code → v.code ≡ code
    named true e = if_active (symbolic.is_active v.mode) v.code e
    named false e = cc

-- there are two threads where a sender and a receiver are
more_room : (S : Symbolic) (t u c : Name) (xs : List Name) (w : Who) (rest : Code) → code_at S t ≡ Some (Recv c xs w ⨾ rest) → Sender S u t c → (n : ℕ) × (length S.threads ≡ suc (suc n))
more_room S t u c xs w rest h s = go S.threads refl
  where
    both : (v : Thread) → S.threads ≡ v ∷ [] → ⊥
    both v e =
        let a = only v t _ (ap (λ ts. active_code (thread_named ts t)) (sym e) ∙ h) in
        let b = only v u _ (ap (λ ts. active_code (thread_named ts u)) (sym e) ∙ s.there) in
        let g : Recv c xs w ⨾ rest ≡ Send c s.values s.partner ⨾ s.rest = sym a ∙ b in cc

    go : (ts : List Thread) → S.threads ≡ ts → (n : ℕ) × (length ts ≡ suc (suc n))
    go [] e = absurd (no_thread S t _ e h)
    go (v ∷ []) e = absurd (both v e)
    go (v ∷ v' ∷ vs) e = (length vs, refl)

-- a thread that waits for nobody acts in its own turn
actor_itself : (around : Around) (S : Symbolic) (n : ℕ) (waiting : List Name) (t : Name) (s : Statement) (c : Code) → code_at S t ≡ Some (s ⨾ c) → waits_for around S t (s ⨾ c) ≡ None → actor around (suc n) S waiting t ≡ Some t
actor_itself around S n waiting t s c there w =
    ap (λ o. at_code o (λ code. passed_on (actor around n S (t ∷ waiting)) waiting t (waits_for around S t code))) there ∙ ap (passed_on (actor around n S (t ∷ waiting)) waiting t) w

-- one that waits for a sender has the sender act
actor_sender : (around : Around) (S : Symbolic) (n : ℕ) (t u : Name) (s : Statement) (c : Code) → code_at S t ≡ Some (s ⨾ c) → waits_for around S t (s ⨾ c) ≡ Some u → actor around (suc n) S [] t ≡ actor around n S (t ∷ []) u
actor_sender around S n t u s c there w =
    ap (λ o. at_code o (λ code. passed_on (actor around n S (t ∷ [])) [] t (waits_for around S t code))) there ∙ ap (passed_on (actor around n S (t ∷ [])) [] t) w

module _ (around : Around) (S : Symbolic) (t : Name) where
  -- the turn of a thread for which this one acts
  by_actor : (A : Failures → Type 0) (u : Name) → actor around (length S.threads) S [] t ≡ Some u → (fs : Failures) (left : RulesLeft) → WhereStays A (acts around S u (stands_at S u) fs left) → WhereStays A (advance around S t fs left)
  by_actor A u e fs left h = subst (λ o. WhereStays A (acts_for around S o fs left)) (sym e) h

  pub own_turn : (A : Failures → Type 0) (s : Statement) (c : Code) → code_at S t ≡ Some (s ⨾ c) → waits_for around S t (s ⨾ c) ≡ None → (fs : Failures) (left : RulesLeft) → WhereStays A (acts around S t (stands_at S t) fs left) →
      WhereStays A (advance around S t fs left)
  own_turn A s c there w fs left h = let (n, e) = some_room S t (s ⨾ c) there in by_actor A t (ap (λ m. actor around m S [] t) e ∙ actor_itself around S n [] t s c there w) fs left h

  -- a receiver in whose turn nothing goes
  pub receiving_still : (c : Name) (xs : List Name) (w : Who) (rest : Code) → code_at S t ≡ Some (Recv c xs w ⨾ rest) → (fs : Failures) (left : RulesLeft) →
      WhereStays (λ gs. list_any (applies around.program around.follows S) (basic_rules S t (Recv c xs w ⨾ rest)) ≡ false) (advance around S t fs left)
  receiving_still c xs w rest there fs left = taken (apply_quietly around.program around.follows S (rule_of (basic.Take (thread_of w) t c))) refl (apply_quietly around.program around.follows S (rule_of (basic.Pass (thread_of w) t c))) refl
    where
      taken : (o : Outcome Applied) → apply_quietly around.program around.follows S (rule_of (basic.Take (thread_of w) t c)) ≡ o → (q : Outcome Applied) → apply_quietly around.program around.follows S (rule_of (basic.Pass (thread_of w) t c)) ≡ q →
          WhereStays (λ gs. list_any (applies around.program around.follows S) (basic_rules S t (Recv c xs w ⨾ rest)) ≡ false) (advance around S t fs left)
      taken (Ok r) e q p =
          own_turn (λ gs. list_any (applies around.program around.follows S) (basic_rules S t (Recv c xs w ⨾ rest)) ≡ false) (Recv c xs w) rest there (ap (unless_taken (thread_of w)) e) fs left (
          subst (λ k. WhereStays (λ gs. list_any (applies around.program around.follows S) (basic_rules S t (Recv c xs w ⨾ rest)) ≡ false) (acts around S t k fs left)) (sym (stands S t (Recv c xs w ⨾ rest) there))
          (goes (λ gs. list_any (applies around.program around.follows S) (basic_rules S t (Recv c xs w ⨾ rest)) ≡ false) (basic.Take (thread_of w) t c) r (apply_quietly around.program around.follows S (rule_of (basic.Take (thread_of w) t c))) e fs left))
      taken (Err why) e (Err other) p =
          constant (list_any (applies around.program around.follows S) (basic_rules S t (Recv c xs w ⨾ rest)) ≡ false) (λ i. is_ok (e i) || (is_ok (p i) || false)) (advance around S t fs left)
      taken (Err why) e (Ok r) p =
          let s = sender_of S (thread_of w) t c r (applied_by.applies S (rule_of (basic.Pass (thread_of w) t c)) r (quietly_ok around.program around.follows S (rule_of (basic.Pass (thread_of w) t c)) r p)) in
          let (n, len) = more_room S t (thread_of w) c xs w rest there s in
          let who_acts : actor around (length S.threads) S [] t ≡ Some (thread_of w) =
          ap (λ m. actor around m S [] t) len ∙ actor_sender around S (suc n) t (thread_of w) (Recv c xs w) rest there (ap (unless_taken (thread_of w)) e)
          ∙ actor_itself around S n (t ∷ []) (thread_of w) (Send c s.values s.partner) s.rest s.there refl in
          by_actor (λ gs. list_any (applies around.program around.follows S) (basic_rules S t (Recv c xs w ⨾ rest)) ≡ false) (thread_of w) who_acts fs left (
          subst (λ k. WhereStays (λ gs. list_any (applies around.program around.follows S) (basic_rules S t (Recv c xs w ⨾ rest)) ≡ false) (acts around S (thread_of w) k fs left)) (sym (stands S (thread_of w) (Send c s.values s.partner ⨾ s.rest) s.there)) (
          goes_first around (λ gs. list_any (applies around.program around.follows S) (basic_rules S t (Recv c xs w ⨾ rest)) ≡ false) S (basic.Pass (thread_of w) (thread_of s.partner) c) r (ap (λ z. apply_quietly around.program around.follows S (rule_of (basic.Pass (thread_of w) z c))) s.is ∙ p)
          (filled around S (thread_of w) (thread_of s.partner) c (least_free S.pending)) fs left))
