-- What comes of a round that stays: what is told holds, and each thread that came in turn, and each set, is told.
use Rattle.std.proofs.Common.{◌≡◌, ℕ, Bool, true, false, List, [], ◌∷◌, Option, Some, None, length, refl, sym, ap, ◌∙◌, subst, true≢false}
use Rattle.std.specs.Prelude.{Err, ◌&&◌, ◌||◌, not, nat_lt, if◌then◌else◌, is_some, filter, cond}
use Rattle.std.specs.List.{list_any}
use Rattle.brisk_values.specs.Names.{Name, same_name}
use Rattle.brisk_values.proofs.Changes.{name_laws, both_true, exact_name}
use Rattle.brisk_syntax.specs.declared.program.Program.{Program}
use Rattle.brisk_syntax.specs.Syntax.{Statement, Assign, Send, Recv, RecvAny, If, IfElse, While, For, Repeat, Code, done, ◌⨾◌}
use Rattle.brisk_syntax.specs.Typing.{is_among}
use Rattle.brisk_state.specs.declared.thread.Mode.{Mode}
use Rattle.brisk_state.specs.declared.thread.Mode.TheVariants.{One, At, Each}
use Rattle.brisk_state.specs.declared.thread.Thread.{Thread}
use Rattle.brisk_state.specs.Same.{same_code}
use Rattle.brisk_state.specs.Symbolic as symbolic
use Rattle.brisk_state.specs.Symbolic.{Symbolic, thread_named, active_code, code_at}
use Rattle.brisk_derivation.specs.declared.steps.Fact.{Fact}
use Rattle.brisk_derivation.specs.Steps.{Step}
use Rattle.brisk_derivation.specs.Steps as step
use Rattle.brisk_rules.specs.declared.why.Why.TheVariants.{Rule as BasicFault}
use Rattle.brisk_rules.specs.Rules.{mode_of, code_in, enter_for}
use Rattle.brisk_rules.specs.Standing.{stands_at, has_code, is_movable, thread_names, resting}
use Rattle.brisk_rules.specs.Reports.{applies, basic_rules, moves, is_compound, is_for, is_for_set}
use Rattle.brisk_rules.specs.Following.{Follow}
use Rattle.brisk_search.specs.Turns.{RulesLeft, Failures, Turn, Goes, Stays, Attempt, stay, where_it_stays, ◌otherwise◌, first_of}
use Rattle.brisk_search.specs.Turns as turn
use Rattle.brisk_search.specs.Drives.{Drive, Driver, side_of, in_turn}
use Rattle.brisk_search.specs.Tries.{for_rule}
use Rattle.brisk_search.specs.Advance.{Around, waits_for, acts, acts_for, actor, advance}
use Rattle.brisk_search.specs.Passes.{last_try, round, without_owners}
use Rattle.brisk_search.proofs.Heads.{is_for as is_for_rule}
use Rattle.brisk_search.proofs.Pushing.{WhereStays, Pushes}
use Rattle.brisk_search.proofs.Pushing as push
use Rattle.brisk_search.proofs.Acted.{then_on, weaker, stands, AllHold, TellsAt, LastBy, Acted, Ready, rule_tells, last_is, nine_tell, acting_tells}
use Rattle.brisk_search.proofs.Still.{NoReceive, acting_still, actor_there, own_turn, receiving_still}
use Rattle.std.proofs.lemmas.Bool.{not-true}

-- two things hold where a turn stays
both_stay : (A B : Failures → Type 0) (t : Turn) → WhereStays A t → WhereStays B t → WhereStays (λ gs. A gs × B gs) t
both_stay A B (Goes step items S left) a b = tt
both_stay A B (Stays gs left) a b = (a, b)
both_stay A B turn.Spent a b = tt

always : (A : Failures → Type 0) → ((gs : Failures) → A gs) → (t : Turn) → WhereStays A t
always A h (Goes step items S left) = tt
always A h (Stays gs left) = h gs
always A h turn.Spent = tt

-- the thread is movable, or isn't
there_or_not : (S : Symbolic) (t : Name) → is_movable S t ≡ true → code_at S t ≡ Some (stands_at S t)
there_or_not S t e = go (code_at S t) refl e
  where
    go : (o : Option Code) → code_at S t ≡ o → is_some o ≡ true → o ≡ Some (stands_at S t)
    go None h f = absurd (true≢false (sym f))
    go (Some code) h f = ap Some (sym (stands S t code h))

module _ (P : Program) (deep : ℕ) (F : Follow) where
  -- The tries so far hold; the last at each compound head is by a rule for it, and the last for a set is a `for` over it
  -- without owners.
  pub record Good (S : Symbolic) (fs : Failures) : Type 0 where
    pub hold : AllHold P deep F S fs
    pub made : (t : Name) → is_movable S t ≡ true → is_compound S (stands_at S t) ≡ true → is_some (last_try fs t) ≡ true → LastBy P deep F (is_for t (stands_at S t)) t fs
    pub sets : (s : Name) → is_movable S s ≡ false → is_some (last_try fs s) ≡ true → LastBy P deep F (is_for_set s) s fs

  pub no_failures : (S : Symbolic) → Good S []
  no_failures S = record { hold = tt; made = λ t m c e. absurd (true≢false (sym e)); sets = λ s m e. absurd (true≢false (sym e)) }

  abbrev pub Grows : Failures → Failures → Type 0
  Grows fs gs = (u : Name) → is_some (last_try fs u) ≡ true → is_some (last_try gs u) ≡ true

  abbrev pub Fair : Symbolic → Attempt → Type 0
  Fair S attempt = (fs : Failures) (left : RulesLeft) → Good S fs → WhereStays (λ gs. Good S gs × Grows fs gs) (attempt fs left)

  same_last : (test : Step → Bool) (t : Name) (fs gs : Failures) → last_try gs t ≡ last_try fs t → LastBy P deep F test t fs → LastBy P deep F test t gs
  same_last test t fs gs e l = record { rule = l.rule; end = l.end; is = e ∙ l.is; by = l.by }

  -- the turn of a thread keeps this
  good_acted : (S : Symbolic) (t : Name) → is_movable S t ≡ true → (fs gs : Failures) → Acted P deep F S t (stands_at S t) fs gs → Good S fs → Good S gs
  good_acted S t m fs gs a g = record {
    hold = a.tells.hold g.hold;
    made = λ u n c e. made_at u n c e (same_name u t) refl;
    sets = λ s n e. set_at s n e (same_name s t) refl;
  }
    where
      made_at : (u : Name) → is_movable S u ≡ true → is_compound S (stands_at S u) ≡ true → is_some (last_try gs u) ≡ true → (same : Bool) → same_name u t ≡ same → LastBy P deep F (is_for u (stands_at S u)) u gs
      made_at u n c e true q = let eq : t ≡ u = sym (exact_name u t q) in subst (λ z. is_compound S (stands_at S z) ≡ true → LastBy P deep F (is_for z (stands_at S z)) z gs) eq a.tried c
      made_at u n c e false q = let o = a.tells.others u q in same_last (is_for u (stands_at S u)) u fs gs o (g.made u n c (ap is_some (sym o) ∙ e))

      set_at : (s : Name) → is_movable S s ≡ false → is_some (last_try gs s) ≡ true → (same : Bool) → same_name s t ≡ same → LastBy P deep F (is_for_set s) s gs
      set_at s n e true q = absurd (true≢false (sym m ∙ ap (is_movable S) (sym (exact_name s t q)) ∙ n))
      set_at s n e false q = let o = a.tells.others s q in same_last (is_for_set s) s fs gs o (g.sets s n (ap is_some (sym o) ∙ e))

  -- and so does the turn of a set
  good_set : (S : Symbolic) (s : Name) → is_movable S s ≡ false → (fs gs : Failures) → Pushes P deep F S (for_rule F S s s []) fs gs → Good S fs → Good S gs
  good_set S s m fs gs p g = record {
    hold = tells.hold g.hold;
    made = λ u n c e. made_at u n c e (same_name u s) refl;
    sets = λ u n e. set_at u n e (same_name u s) refl;
  }
    where
      tells : TellsAt P deep F S s fs gs
      tells = rule_tells P deep F S (for_rule F S s s []) fs gs p

      made_at : (u : Name) → is_movable S u ≡ true → is_compound S (stands_at S u) ≡ true → is_some (last_try gs u) ≡ true → (same : Bool) → same_name u s ≡ same → LastBy P deep F (is_for u (stands_at S u)) u gs
      made_at u n c e true q = absurd (true≢false (sym n ∙ ap (is_movable S) (exact_name u s q) ∙ m))
      made_at u n c e false q = let o = tells.others u q in same_last (is_for u (stands_at S u)) u fs gs o (g.made u n c (ap is_some (sym o) ∙ e))

      pushed : (gs : Failures) → Pushes P deep F S (for_rule F S s s []) fs gs → is_some (last_try gs s) ≡ true → LastBy P deep F (is_for_set s) s gs
      pushed _ (push.pushes drops a end h) e = last_is P deep F s (step.For s [] drops a) end fs (is_for_set s) (name_laws.refl s)
      pushed _ (push.refuses drops why h) e = g.sets s m e

      set_at : (u : Name) → is_movable S u ≡ false → is_some (last_try gs u) ≡ true → (same : Bool) → same_name u s ≡ same → LastBy P deep F (is_for_set u) u gs
      set_at u n e true q = let eq : s ≡ u = sym (exact_name u s q) in subst (λ z. is_some (last_try gs z) ≡ true → LastBy P deep F (is_for_set z) z gs) eq (pushed gs p) e
      set_at u n e false q = let o = tells.others u q in same_last (is_for_set u) u fs gs o (g.sets u n (ap is_some (sym o) ∙ e))

  fair_stay : (S : Symbolic) → Fair S stay
  fair_stay S fs left g = (g, λ u e. e)

  fair_either : (S : Symbolic) (attempt next : Attempt) → Fair S attempt → Fair S next → Fair S (attempt otherwise next)
  fair_either S attempt next a b fs left g =
      then_on (λ gs. Good S gs × Grows fs gs) (λ gs. Good S gs × Grows fs gs) next (attempt fs left) (a fs left g) (λ gs l (good, grows).
      weaker (λ hs. Good S hs × Grows gs hs) (λ hs. Good S hs × Grows fs hs) (next gs l) (λ hs (better, more). (better, λ u e. more u (grows u e))) (b gs l good))

  fair_first : {B : Type 0} (S : Symbolic) (attempt : B → Attempt) → ((b : B) → Fair S (attempt b)) → (bs : List B) → Fair S (first_of attempt bs)
  fair_first S attempt h [] = fair_stay S
  fair_first S attempt h (b ∷ bs) = fair_either S (attempt b) (first_of attempt bs) (h b) (fair_first S attempt h bs)

  module _ (below : Option Driver) (fits : nat_lt deep 256 ≡ is_some below) (S : Symbolic) (ready : Ready P deep F below S) where
    abbrev around : Around
    around = record { program = P; below = below; side = side_of; follows = F }

    fair_acts : (o : Option Name) → ((u : Name) → o ≡ Some u → is_movable S u ≡ true) → Fair S (acts_for around S o)
    fair_acts None h fs left g = (g, λ u e. e)
    fair_acts (Some u) h fs left g =
        weaker (Acted P deep F S u (stands_at S u) fs) (λ gs. Good S gs × Grows fs gs) (acts around S u (stands_at S u) fs left) (λ gs a. (good_acted S u (h u refl) fs gs a g, a.tells.grows))
        (acting_tells P deep F below fits S ready u (there_or_not S u (h u refl)) (stands_at S u) refl fs left)

    fair_advance : (t : Name) → Fair S (advance around S t)
    fair_advance t = fair_acts (actor around (length S.threads) S [] t) (λ u e. ap is_some (actor_there around S (length S.threads) [] t u e))

    -- the thread is told: no basic rule moves it, and a compound head has a try
    pub record Covered (t : Name) (gs : Failures) : Type 0 where
      pub still : moves P F S t ≡ false
      pub tried : is_compound S (stands_at S t) ≡ true → is_some (last_try gs t) ≡ true

    no_head : (code : Code) (t : Name) → stands_at S t ≡ code → is_compound S code ≡ false → is_compound S (stands_at S t) ≡ true → ⊥
    no_head code t is plain h = true≢false (sym h ∙ ap (is_compound S) is ∙ plain)

    rules_at : (code : Code) (t : Name) → stands_at S t ≡ code → list_any (applies P F S) (basic_rules S t code) ≡ false → moves P F S t ≡ false
    rules_at code t is e = ap (λ c. list_any (applies P F S) (basic_rules S t c)) is ∙ e

    module _ (t : Name) (m : is_movable S t ≡ true) (fs : Failures) (left : RulesLeft) where
      own : (s : Statement) (c : Code) → stands_at S t ≡ s ⨾ c → NoReceive (s ⨾ c) → waits_for around S t (s ⨾ c) ≡ None → WhereStays (Covered t) (advance around S t fs left)
      own s c is n w =
          own_turn around S t (Covered t) s c (there_or_not S t m ∙ ap Some is) w fs left (
          weaker (λ gs. Acted P deep F S t (stands_at S t) fs gs × (moves P F S t ≡ false)) (Covered t) (acts around S t (stands_at S t) fs left) (λ gs (a, e). record { still = e; tried = λ c. ap is_some (a.tried c).is }) (
          both_stay (Acted P deep F S t (stands_at S t) fs) (λ gs. moves P F S t ≡ false) (acts around S t (stands_at S t) fs left)
          (acting_tells P deep F below fits S ready t (there_or_not S t m) (stands_at S t) refl fs left) (acting_still around S t (stands_at S t) (subst NoReceive (sym is) n) fs left)))

      covers : (code : Code) → stands_at S t ≡ code → WhereStays (Covered t) (advance around S t fs left)
      covers done is = always (Covered t) (λ gs. record { still = rules_at done t is refl; tried = λ c. absurd (no_head done t is refl c) }) (advance around S t fs left)
      covers (Assign x e ⨾ rest) is = own (Assign x e) rest is tt refl
      covers (Send c es u ⨾ rest) is = own (Send c es u) rest is tt refl
      covers (Recv c xs w ⨾ rest) is =
          weaker (λ gs. list_any (applies P F S) (basic_rules S t (Recv c xs w ⨾ rest)) ≡ false) (Covered t) (advance around S t fs left)
          (λ gs e. record { still = rules_at (Recv c xs w ⨾ rest) t is e; tried = λ k. absurd (no_head (Recv c xs w ⨾ rest) t is refl k) })
          (receiving_still around S t c xs w rest (there_or_not S t m ∙ ap Some is) fs left)
      covers (If e a ⨾ rest) is = own (If e a) rest is tt refl
      covers (IfElse e a b ⨾ rest) is = own (IfElse e a b) rest is tt refl
      covers (While e b ⨾ rest) is = own (While e b) rest is tt refl
      covers (For v s k b ⨾ rest) is = own (For v s k b) rest is tt refl
      covers (Repeat s k b ⨾ rest) is = own (Repeat s k b) rest is tt refl
      covers (RecvAny c xs v s b ⨾ rest) is = own (RecvAny c xs v s b) rest is tt refl

    if_movable : (t : Name) (b : Bool) → is_movable S t ≡ b → (fs : Failures) (left : RulesLeft) → WhereStays (λ gs. is_movable S t ≡ true → Covered t gs) (advance around S t fs left)
    if_movable t true e fs left = weaker (Covered t) (λ gs. is_movable S t ≡ true → Covered t gs) (advance around S t fs left) (λ gs c m. c) (covers t e fs left (stands_at S t) refl)
    if_movable t false e fs left = always (λ gs. is_movable S t ≡ true → Covered t gs) (λ gs m. absurd (true≢false (sym m ∙ e))) (advance around S t fs left)

    -- of these threads each that rules move is told
    abbrev pub AllCovered : List Name → Failures → Type 0
    AllCovered ts gs = (u : Name) → is_among ts u ≡ true → is_movable S u ≡ true → Covered u gs

    more_covered : (t : Name) (ts : List Name) (gs hs : Failures) → (is_movable S t ≡ true → Covered t gs) → Grows gs hs → AllCovered ts hs → AllCovered (t ∷ ts) hs
    more_covered t ts gs hs c grows all u among m = go (same_name u t) refl among
      where
        go : (same : Bool) → same_name u t ≡ same → (same || is_among ts u) ≡ true → Covered u hs
        go true q e =
            let eq : t ≡ u = sym (exact_name u t q) in
            let k : Covered u gs = subst (λ z. is_movable S z ≡ true → Covered z gs) eq c m in
            record { still = k.still; tried = λ y. grows u (k.tried y) }
        go false q e = all u e m

    first_covers : (ts : List Name) (fs : Failures) (left : RulesLeft) → Good S fs → WhereStays (λ gs. (Good S gs × Grows fs gs) × AllCovered ts gs) (first_of (advance around S) ts fs left)
    first_covers [] fs left g = ((g, λ u e. e), λ u e m. absurd (true≢false (sym e)))
    first_covers (t ∷ ts) fs left g =
        then_on (λ gs. (Good S gs × Grows fs gs) × (is_movable S t ≡ true → Covered t gs)) (λ gs. (Good S gs × Grows fs gs) × AllCovered (t ∷ ts) gs) (first_of (advance around S) ts) (advance around S t fs left)
        (both_stay (λ gs. Good S gs × Grows fs gs) (λ gs. is_movable S t ≡ true → Covered t gs) (advance around S t fs left) (fair_advance t fs left g) (if_movable t (is_movable S t) refl fs left))
        (λ gs l ((good, grows), c).
        weaker (λ hs. (Good S hs × Grows gs hs) × AllCovered ts hs) (λ hs. (Good S hs × Grows fs hs) × AllCovered (t ∷ ts) hs) (first_of (advance around S) ts gs l)
        (λ hs ((better, more), all). ((better, λ u e. more u (grows u e)), more_covered t ts gs hs c more all)) (first_covers ts gs l good))

    -- a set that rests may come into focus
    each_rests : (s : Name) → is_movable S s ≡ false → has_code S s ≡ true → mode_of (thread_named S.threads s) ≡ Some Each
    each_rests s m c = go (thread_named S.threads s) m c
      where
        by_mode : (mode : Mode) (code : Code) → is_some (if symbolic.is_active mode then Some code else None) ≡ false → mode ≡ Each
        by_mode One code e = absurd (true≢false e)
        by_mode At code e = absurd (true≢false e)
        by_mode Each code e = refl

        go : (o : Option Thread) → is_some (active_code o) ≡ false → not (same_code (code_in o) done) ≡ true → mode_of o ≡ Some Each
        go None e f = absurd (true≢false (sym f))
        go (Some u) e f = ap Some (by_mode u.mode u.code e)

    never_refused : (s : Name) → mode_of (thread_named S.threads s) ≡ Some Each → (drops : List Fact) (why : _) → enter_for S s [] drops ≡ Err (BasicFault why) → ⊥
    never_refused s e drops why f = cc

    -- of these sets each has a try
    abbrev pub AllTried : List Name → Failures → Type 0
    AllTried ss gs = (s : Name) → is_among ss s ≡ true → is_some (last_try gs s) ≡ true

    abbrev rests : Name → Bool
    rests s = not (is_movable S s) && has_code S s

    one_set : (s : Name) → rests s ≡ true → (fs : Failures) (left : RulesLeft) → Good S fs → WhereStays (λ gs. (Good S gs × Grows fs gs) × (is_some (last_try gs s) ≡ true)) (without_owners around S s fs left)
    one_set s e fs left g =
        let (m, c) = both_true (not (is_movable S s)) (has_code S s) e in
        let quiet = not-true (is_movable S s) m in
        weaker (Pushes P deep F S (for_rule F S s s []) fs) (λ gs. (Good S gs × Grows fs gs) × (is_some (last_try gs s) ≡ true)) (without_owners around S s fs left)
        (λ gs p. ((good_set S s quiet fs gs p g, (rule_tells P deep F S (for_rule F S s s []) fs gs p).grows), pushed gs p (each_rests s quiet c)))
        (nine_tell P deep F below fits S ready (for_rule F S s s []) (is_for_rule s s [] c) fs left)
      where
        pushed : (gs : Failures) → Pushes P deep F S (for_rule F S s s []) fs gs → mode_of (thread_named S.threads s) ≡ Some Each → is_some (last_try gs s) ≡ true
        pushed _ (push.pushes drops a end h) each = rw (name_laws.refl s) refl
        pushed _ (push.refuses drops why h) each = absurd (never_refused s each drops why h)

    sets_tried : (ss : List Name) (fs : Failures) (left : RulesLeft) → Good S fs → WhereStays (λ gs. (Good S gs × Grows fs gs) × AllTried (filter rests ss) gs) (first_of (without_owners around S) (filter rests ss) fs left)
    sets_tried [] fs left g = ((g, λ u e. e), λ s e. absurd (true≢false (sym e)))
    sets_tried (s ∷ ss) fs left g = go (rests s) refl (λ fs left g. sets_tried ss fs left g)
      where
        go : (b : Bool) → rests s ≡ b →
            ((fs : Failures) (left : RulesLeft) → Good S fs → WhereStays (λ gs. (Good S gs × Grows fs gs) × AllTried (filter rests ss) gs) (first_of (without_owners around S) (filter rests ss) fs left)) →
            WhereStays (λ gs. (Good S gs × Grows fs gs) × AllTried (cond b (s ∷ filter rests ss) (filter rests ss)) gs) (first_of (without_owners around S) (cond b (s ∷ filter rests ss) (filter rests ss)) fs left)
        go false e more = more fs left g
        go true e more =
            then_on (λ gs. (Good S gs × Grows fs gs) × (is_some (last_try gs s) ≡ true)) (λ gs. (Good S gs × Grows fs gs) × AllTried (s ∷ filter rests ss) gs) (first_of (without_owners around S) (filter rests ss)) (without_owners around S s fs left)
            (one_set s e fs left g) (λ gs l ((good, grows), tried).
            weaker (λ hs. (Good S hs × Grows gs hs) × AllTried (filter rests ss) hs) (λ hs. (Good S hs × Grows fs hs) × AllTried (s ∷ filter rests ss) hs) (first_of (without_owners around S) (filter rests ss) gs l)
            (λ hs ((better, grown), all). ((better, λ u e. grown u (grows u e)), λ u among. either_set u gs hs grown all tried (same_name u s) refl among)) (more gs l good))
          where
            either_set : (u : Name) (gs hs : Failures) → Grows gs hs → AllTried (filter rests ss) hs → is_some (last_try gs s) ≡ true → (same : Bool) → same_name u s ≡ same → (same || is_among (filter rests ss) u) ≡ true → is_some (last_try hs u) ≡ true
            either_set u gs hs grown all tried true q e = grown u (ap (λ z. is_some (last_try gs z)) (exact_name u s q) ∙ tried)
            either_set u gs hs grown all tried false q e = all u e

    -- a round that stays: what is told holds, and all that came in turn is told
    pub record Ended (d : Drive) (gs : Failures) : Type 0 where
      pub good : Good S gs
      pub threads : AllCovered (in_turn d S) gs
      pub sets : d.sets ≡ true → AllTried (resting S) gs

    round_ends : (d : Drive) (b : Bool) → d.sets ≡ b → (left : RulesLeft) → WhereStays (Ended d) ((first_of (advance around S) (in_turn d S) otherwise (if b then first_of (without_owners around S) (resting S) else stay)) [] left)
    round_ends d b e left =
        then_on (λ gs. (Good S gs × Grows [] gs) × AllCovered (in_turn d S) gs) (Ended d) (if b then first_of (without_owners around S) (resting S) else stay) (first_of (advance around S) (in_turn d S) [] left)
        (first_covers (in_turn d S) [] left (no_failures S)) (λ gs l ((good, grows), all). sets_end b e gs l good all)
      where
        still_covered : (gs hs : Failures) → Grows gs hs → AllCovered (in_turn d S) gs → AllCovered (in_turn d S) hs
        still_covered gs hs grown all u among m = let k = all u among m in record { still = k.still; tried = λ y. grown u (k.tried y) }

        sets_end : (b : Bool) → d.sets ≡ b → (gs : Failures) (l : RulesLeft) → Good S gs → AllCovered (in_turn d S) gs → WhereStays (Ended d) ((if b then first_of (without_owners around S) (resting S) else stay) gs l)
        sets_end false e gs l good all = record { good = good; threads = all; sets = λ h. absurd (true≢false (sym h ∙ e)) }
        sets_end true e gs l good all =
            weaker (λ hs. (Good S hs × Grows gs hs) × AllTried (resting S) hs) (Ended d) (first_of (without_owners around S) (resting S) gs l)
            (λ hs ((better, grown), tried). record { good = better; threads = still_covered gs hs grown all; sets = λ h. tried }) (sets_tried (thread_names S) gs l good)

    pub in_round : (d : Drive) (left : RulesLeft) → WhereStays (Ended d) (round around d S [] left)
    in_round d left = round_ends d d.sets refl left
