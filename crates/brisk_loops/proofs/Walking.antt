-- The calls of steps, made on a walk, give what the steps derive.
use Rattle.std.proofs.Common.{◌≡◌, ℕ, ◌+◌, Bool, true, false, List, [], ◌∷◌, ◌++◌, length, refl, sym, ap, ◌∙◌, subst, arith}
use Rattle.std.specs.Prelude.{Result, Ok, Err, nat_lt}
use Rattle.brisk_syntax.specs.declared.program.Program.{Program}
use Rattle.brisk_seq.specs.Items.{nothing, ◌⨟◌, ◌followed_by◌}
use Rattle.brisk_seq.proofs.Items.{followed_by-nothing, followed_by_assoc}
use Rattle.brisk_state.specs.Symbolic.{Symbolic, initial}
use Rattle.brisk_basic.specs.Basic.{Applied}
use Rattle.brisk_basic.specs.Outcomes.{when, and_then}
use Rattle.brisk_derivation.specs.Counts.{steps_in, steps_among}
use Rattle.brisk_derivation.specs.declared.fault.SideFault.TheVariants.{TooDeep}
use Rattle.brisk_derivation.specs.declared.steps.BasicStep.{BasicStep}
use Rattle.brisk_derivation.specs.Steps.{Step, Basic, Branch, While, For, Repeat, Gather, Pick, Steps, no_steps, ◌▷◌}
use Rattle.brisk_rules.specs.declared.why.Why.TheVariants.{Side}
use Rattle.brisk_rules.specs.Following.{Follow, nothing_follows, follows_in}
use Rattle.brisk_rules.specs.Derives as derived
use Rattle.brisk_rules.specs.Derives.{Failure, Derived, told_at, items_in, apply_quietly, by_basic, by_loop, by_branch, derive, derive_all, outcome}
use Rattle.brisk_rules.specs.Rules.{Outcome, Entered, around, Parted, around_sides, close, enter_while, enter_for, enter_repeat, enter_gather, enter_pick, enter_branch, join}
use Rattle.brisk_loops.specs.Walk.{Inside, Premise, First, Second, Open, Walked, Called, line, start, in_premise, entry, opened, inside, follows, across, outside, finish, back, Call, Enter, Apply, Other, Leave, made, made_all, calls, calls_of}
use Rattle.brisk_rules.proofs.Fulfilled.{and_then_ok, same_ok}
use Rattle.brisk_loops.specs.WalkLaws.{WalkDerives, WalkApplies, BackUndoes}

-- steps from a line and a state on, in a program and inside so many rules
abbrev Part : Type 0
Part = Program → ℕ → Follow → derived.Premise

-- the walk w after steps that came to d, so many of them, and so many counted calls
abbrev pub after : Walked → ℕ → Derived → ℕ → Walked
after w n d k = record w { state = d.state; items = w.items followed_by d.items; applied = w.applied + n; counted = k }

-- calls on the walk w that give r do what steps do that come to x, so many of them
abbrev pub Does : Walked → ℕ → Called → Result Derived Failure → Type 0
Does w n r (Err failure) = r ≡ Err failure
Does w n r (Ok d) = (k : ℕ) × (k + 2 ≡ d.line) × (r ≡ Ok (after w n d k))

-- on each walk these calls do what this part of a derivation does
abbrev pub Follows : ℕ → List Call → Part → Type 0
Follows n cs part = (w : Walked) → Does w n (made_all cs w) (part w.program (length w.entered) (follows w.entered) (line w) w.state)

-- calls after calls
thens : (cs ds : List Call) → ((w : Walked) → made_all (cs ++ ds) w ≡ and_then (made_all cs w) (made_all ds)) → (r : Called) → and_then r (made_all (cs ++ ds)) ≡ and_then (and_then r (made_all cs)) (made_all ds)
thens cs ds more (Ok v) = more v
thens cs ds more (Err failure) = refl

pub made_append : (cs ds : List Call) (w : Walked) → made_all (cs ++ ds) w ≡ and_then (made_all cs w) (made_all ds)
made_append [] ds w = refl
made_append (c ∷ cs) ds w = thens cs ds (made_append cs ds) (made c w)

-- calls that fail fail with those after them
stops : (cs ds : List Call) (w : Walked) (failure : Failure) → made_all cs w ≡ Err failure → made_all (cs ++ ds) w ≡ Err failure
stops cs ds w failure e = made_append cs ds w ∙ ap (λ (r : Called). and_then r (made_all ds)) e

-- calls that don't are followed by those after them
goes_on : (cs ds : List Call) (w v : Walked) → made_all cs w ≡ Ok v → made_all (cs ++ ds) w ≡ made_all ds v
goes_on cs ds w v e = made_append cs ds w ∙ ap (λ (r : Called). and_then r (made_all ds)) e

only : (r : Called) → and_then r (made_all []) ≡ r
only (Ok v) = refl
only (Err failure) = refl

pub deeper : (o : Open) (os : List Open) → length (o ∷ os) ≡ length os + 1
deeper o os = omega arith

pub next_line : (n : ℕ) → n + 1 + 2 ≡ n + 2 + 1
next_line n = omega arith

one_more : (a n : ℕ) → a + n + 1 ≡ a + (1 + n)
one_more a n = omega arith

two_more : (a m n : ℕ) → a + m + n + 1 ≡ a + (1 + m + n)
two_more a m n = omega arith

sums : (a m n : ℕ) → a + m + n ≡ a + (m + n)
sums a m n = omega arith

-- a basic rule
basic_follows : (b : BasicStep) → Follows 1 (Apply b ∷ []) (λ P deep F at S. by_basic P F at S b)
basic_follows b w = by (apply_quietly w.program (follows w.entered) w.state (derived.rule_of b))
  where
    by : (r : Outcome Applied) → Does w 1 (and_then (and_then (told_at (line w) r) (λ z. Ok record w { state = z.next; items = w.items followed_by items_in z.statement; applied = w.applied + 1; counted = w.counted + 1 })) (made_all []))
        (and_then (told_at (line w) r) (λ z. Ok record { items = items_in z.statement; state = z.next; line = line w + 1 }))
    by (Ok z) = (w.counted + 1, next_line w.counted, refl)
    by (Err why) = refl

-- a rule with one premise
loop_follows : (n : ℕ) (cs : List Call) (A : Step) (enters : Program → Symbolic → Outcome Entered) (part : Part) →
    ((P : Program) (S : Symbolic) → entry P S A ≡ in_premise (enters P S)) → Follows n cs part →
    Follows (1 + n) (Enter A ∷ cs ++ Leave ∷ []) (λ P deep F at S. by_loop deep at (enters P S) (λ r. part P (deep + 1) (follows_in S r F)))
loop_follows n cs A enters part is inner w =
    subst (λ (e : Outcome Inside). Does w (1 + n) (and_then (and_then (told_at (line w) (derived.nested (length w.entered) e)) (λ i. Ok (inside w A i))) (made_all (cs ++ Leave ∷ [])))
    (by_loop (length w.entered) (line w) (enters w.program w.state) (λ r. part w.program (length w.entered + 1) (follows_in w.state r (follows w.entered))))) (sym (is w.program w.state))
    (enters_so (nat_lt (length w.entered) 256) (enters w.program w.state))
  where
    closes : (r : Entered) (d : Derived) (k : ℕ) → k + 2 ≡ d.line → made_all cs (inside w A (Premise r)) ≡ Ok (after (inside w A (Premise r)) n d k) → (c : Outcome Symbolic) → close r d.state ≡ c →
        Does w (1 + n) (made_all (cs ++ Leave ∷ []) (inside w A (Premise r))) (and_then (told_at d.line c) (λ S. Ok record { items = around r.kind d.items ⨟ nothing; state = S; line = d.line + 1 }))
    closes r d k l e (Ok S) c = (
      k + 1,
      next_line k ∙ ap (λ m. m + 1) l,
      goes_on cs (Leave ∷ []) _ _ e ∙ only _ ∙ ap (λ (o : Outcome Symbolic). and_then (told_at (k + 2) o) (λ T. Ok (outside (after (inside w A (Premise r)) n d k) (opened w A (Premise r)) w.entered T (around r.kind d.items)))) c
          ∙ (λ i. Ok record w { state = S; items = w.items followed_by (around r.kind d.items ⨟ nothing); applied = one_more w.applied n i; counted = k + 1 }),
    )
    closes r d k l e (Err why) c =
        goes_on cs (Leave ∷ []) _ _ e ∙ only _ ∙ ap (λ (o : Outcome Symbolic). and_then (told_at (k + 2) o) (λ T. Ok (outside (after (inside w A (Premise r)) n d k) (opened w A (Premise r)) w.entered T (around r.kind d.items)))) c
        ∙ (λ i. Err record { line = l i; why = why })

    leaves : (r : Entered) (x : Result Derived Failure) → Does (inside w A (Premise r)) n (made_all cs (inside w A (Premise r))) x →
        Does w (1 + n) (made_all (cs ++ Leave ∷ []) (inside w A (Premise r))) (and_then x (λ d. and_then (told_at d.line (close r d.state)) (λ S. Ok record { items = around r.kind d.items ⨟ nothing; state = S; line = d.line + 1 })))
    leaves r (Err failure) e = stops cs (Leave ∷ []) _ failure e
    leaves r (Ok d) e = closes r d e.0 e.1 e.2 (close r d.state) refl

    enters_so : (b : Bool) (e : Outcome Entered) → Does w (1 + n) (and_then (and_then (told_at (line w) (when b (Side TooDeep) (in_premise e))) (λ i. Ok (inside w A i))) (made_all (cs ++ Leave ∷ [])))
        (and_then (told_at (line w) (when b (Side TooDeep) e)) (λ r. and_then (part w.program (length w.entered + 1) (follows_in w.state r (follows w.entered)) (line w + 1) r.start) (λ d. and_then (told_at d.line (close r d.state)) (λ S. Ok record { items = around r.kind d.items ⨟ nothing; state = S; line = d.line + 1 }))))
    enters_so false e = refl
    enters_so true (Err why) = refl
    enters_so true (Ok r) =
        leaves r (part w.program (length w.entered + 1) (follows_in w.state r (follows w.entered)) (line w + 1) r.start)
        (subst (λ (deep : ℕ). Does (inside w A (Premise r)) n (made_all cs (inside w A (Premise r))) (part w.program deep (follows_in w.state r (follows w.entered)) (line w + 1) r.start)) (deeper (opened w A (Premise r)) w.entered)
        (subst (λ (at : ℕ). Does (inside w A (Premise r)) n (made_all cs (inside w A (Premise r))) (part w.program (length (inside w A (Premise r)).entered) (follows_in w.state r (follows w.entered)) at r.start)) (next_line w.counted) (inner (inside w A (Premise r)))))

-- a step, and then steps
then_follows : (m n : ℕ) (cs ds : List Call) (one more : Part) → Follows m cs one → Follows n ds more →
    Follows (m + n) (cs ++ ds) (λ P deep F at S. and_then (one P deep F at S) (λ d. and_then (more P deep F d.line d.state) (λ e. Ok record e { items = d.items followed_by e.items })))
then_follows m n cs ds one more first second w = goes (one w.program (length w.entered) (follows w.entered) (line w) w.state) (first w)
  where
    both : (d : Derived) (k : ℕ) → made_all cs w ≡ Ok (after w m d k) → (y : Result Derived Failure) → Does (after w m d k) n (made_all ds (after w m d k)) y →
        Does w (m + n) (made_all (cs ++ ds) w) (and_then y (λ e. Ok record e { items = d.items followed_by e.items }))
    both d k r (Err failure) h = goes_on cs ds w _ r ∙ h
    both d k r (Ok e) h = (
      h.0,
      h.1,
      goes_on cs ds w _ r ∙ h.2
          ∙ (λ i. Ok record w { state = e.state; items = followed_by_assoc w.items d.items e.items i; applied = sums w.applied m n i; counted = h.0 }),
    )

    goes : (x : Result Derived Failure) → Does w m (made_all cs w) x →
        Does w (m + n) (made_all (cs ++ ds) w) (and_then x (λ d. and_then (more w.program (length w.entered) (follows w.entered) d.line d.state) (λ e. Ok record e { items = d.items followed_by e.items })))
    goes (Err failure) h = stops cs ds w failure h
    goes (Ok d) h = both d h.0 h.2 (more w.program (length w.entered) (follows w.entered) d.line d.state)
        (subst (λ (at : ℕ). Does (after w m d h.0) n (made_all ds (after w m d h.0)) (more w.program (length w.entered) (follows w.entered) at d.state)) h.1 (second (after w m d h.0)))

-- a branch
branch_follows : (m n : ℕ) (cs ds : List Call) (A : Step) (enters : Program → Symbolic → Outcome Parted) (one two : Part) →
    ((P : Program) (S : Symbolic) → entry P S A ≡ and_then (enters P S) (λ r. Ok (First r))) → Follows m cs one → Follows n ds two →
    Follows (1 + m + n) (Enter A ∷ cs ++ (Other ∷ ds ++ Leave ∷ [])) (λ P deep F at S. by_branch deep at (enters P S) (one P (deep + 1) F) (two P (deep + 1) F))
branch_follows m n cs ds A enters one two is inner inner_second w =
    subst (λ (e : Outcome Inside). Does w (1 + m + n) (and_then (and_then (told_at (line w) (derived.nested (length w.entered) e)) (λ i. Ok (inside w A i))) (made_all (cs ++ (Other ∷ ds ++ Leave ∷ []))))
    (by_branch (length w.entered) (line w) (enters w.program w.state) (one w.program (length w.entered + 1) (follows w.entered)) (two w.program (length w.entered + 1) (follows w.entered)))) (sym (is w.program w.state))
    (enters_so (nat_lt (length w.entered) 256) (enters w.program w.state))
  where
    -- the walk in the second side, after the first
    second : Parted → Derived → ℕ → Walked
    second r d k = across (after (inside w A (First r)) m d k) (opened w A (First r)) w.entered r

    joins : (r : Parted) (d f : Derived) (k l : ℕ) → l + 2 ≡ f.line → made_all (cs ++ (Other ∷ ds ++ Leave ∷ [])) (inside w A (First r)) ≡ made_all (Leave ∷ []) (after (second r d k) n f l) → (c : Outcome Symbolic) → join d.state f.state ≡ c →
        Does w (1 + m + n) (made_all (cs ++ (Other ∷ ds ++ Leave ∷ [])) (inside w A (First r))) (and_then (told_at f.line c) (λ S. Ok record { items = around_sides r d.items f.items ⨟ nothing; state = S; line = f.line + 1 }))
    joins r d f k l p e (Ok S) c = (
      l + 1,
      next_line l ∙ ap (λ a. a + 1) p,
      e ∙ only _ ∙ ap (λ (o : Outcome Symbolic). and_then (told_at (l + 2) o) (λ T. Ok (outside (after (second r d k) n f l) record (opened w A (First r)) { inside = Second r d.state d.items } w.entered T (around_sides r d.items f.items)))) c
          ∙ (λ i. Ok record w { state = S; items = w.items followed_by (around_sides r d.items f.items ⨟ nothing); applied = two_more w.applied m n i; counted = l + 1 }),
    )
    joins r d f k l p e (Err why) c =
        e ∙ only _ ∙ ap (λ (o : Outcome Symbolic). and_then (told_at (l + 2) o) (λ T. Ok (outside (after (second r d k) n f l) record (opened w A (First r)) { inside = Second r d.state d.items } w.entered T (around_sides r d.items f.items)))) c
        ∙ (λ i. Err record { line = p i; why = why })

    leaves : (r : Parted) (d : Derived) (k : ℕ) → made_all (cs ++ (Other ∷ ds ++ Leave ∷ [])) (inside w A (First r)) ≡ made_all (ds ++ Leave ∷ []) (second r d k) → (y : Result Derived Failure) → Does (second r d k) n (made_all ds (second r d k)) y →
        Does w (1 + m + n) (made_all (cs ++ (Other ∷ ds ++ Leave ∷ [])) (inside w A (First r)))
        (and_then y (λ f. and_then (told_at f.line (join d.state f.state)) (λ S. Ok record { items = around_sides r d.items f.items ⨟ nothing; state = S; line = f.line + 1 })))
    leaves r d k e (Err failure) h = e ∙ stops ds (Leave ∷ []) _ failure h
    leaves r d k e (Ok f) h = joins r d f k h.0 h.1 (e ∙ goes_on ds (Leave ∷ []) _ _ h.2) (join d.state f.state) refl

    passes : (r : Parted) (x : Result Derived Failure) → Does (inside w A (First r)) m (made_all cs (inside w A (First r))) x →
        Does w (1 + m + n) (made_all (cs ++ (Other ∷ ds ++ Leave ∷ [])) (inside w A (First r)))
        (and_then x (λ d. and_then (two w.program (length w.entered + 1) (follows w.entered) (d.line + 1) r.second) (λ f. and_then (told_at f.line (join d.state f.state)) (λ S. Ok record { items = around_sides r d.items f.items ⨟ nothing; state = S; line = f.line + 1 }))))
    passes r (Err failure) e = stops cs (Other ∷ ds ++ Leave ∷ []) _ failure e
    passes r (Ok d) h =
        leaves r d h.0 (goes_on cs (Other ∷ ds ++ Leave ∷ []) _ _ h.2) (two w.program (length w.entered + 1) (follows w.entered) (d.line + 1) r.second)
        (subst (λ (deep : ℕ). Does (second r d h.0) n (made_all ds (second r d h.0)) (two w.program deep (follows w.entered) (d.line + 1) r.second)) (deeper record (opened w A (First r)) { inside = Second r d.state d.items } w.entered)
        (subst (λ (at : ℕ). Does (second r d h.0) n (made_all ds (second r d h.0)) (two w.program (length (second r d h.0).entered) (follows w.entered) at r.second)) (next_line h.0 ∙ ap (λ a. a + 1) h.1) (inner_second (second r d h.0))))

    enters_so : (b : Bool) (e : Outcome Parted) → Does w (1 + m + n) (and_then (and_then (told_at (line w) (when b (Side TooDeep) (and_then e (λ r. Ok (First r))))) (λ i. Ok (inside w A i))) (made_all (cs ++ (Other ∷ ds ++ Leave ∷ []))))
        (and_then (told_at (line w) (when b (Side TooDeep) e)) (λ r. and_then (one w.program (length w.entered + 1) (follows w.entered) (line w + 1) r.first) (λ d. and_then (two w.program (length w.entered + 1) (follows w.entered) (d.line + 1) r.second) (λ f.
        and_then (told_at f.line (join d.state f.state)) (λ S. Ok record { items = around_sides r d.items f.items ⨟ nothing; state = S; line = f.line + 1 })))))
    enters_so false e = refl
    enters_so true (Err why) = refl
    enters_so true (Ok r) =
        passes r (one w.program (length w.entered + 1) (follows w.entered) (line w + 1) r.first)
        (subst (λ (deep : ℕ). Does (inside w A (First r)) m (made_all cs (inside w A (First r))) (one w.program deep (follows w.entered) (line w + 1) r.first)) (deeper (opened w A (First r)) w.entered)
        (subst (λ (at : ℕ). Does (inside w A (First r)) m (made_all cs (inside w A (First r))) (one w.program (length (inside w A (First r)).entered) (follows w.entered) at r.first)) (next_line w.counted) (inner (inside w A (First r)))))

no_more : (a : ℕ) → a ≡ a + 0
no_more a = omega arith

mutual
  pub step_follows : (A : Step) → Follows (steps_in A) (calls A) (λ P deep F at S. derive P deep F A at S)
  step_follows (Basic b) w = basic_follows b w
  step_follows (Branch t a b) w =
      branch_follows (steps_among a) (steps_among b) (calls_of a) (calls_of b) (Branch t a b) (λ P S. enter_branch S t) (λ P deep F. derive_all P deep F a) (λ P deep F. derive_all P deep F b) (λ P S. refl) (steps_follow a) (steps_follow b) w
  step_follows (While t drops a) w = loop_follows (steps_among a) (calls_of a) (While t drops a) (λ P S. enter_while S t drops) (λ P deep F. derive_all P deep F a) (λ P S. refl) (steps_follow a) w
  step_follows (For s ts drops a) w = loop_follows (steps_among a) (calls_of a) (For s ts drops a) (λ P S. enter_for S s ts drops) (λ P deep F. derive_all P deep F a) (λ P S. refl) (steps_follow a) w
  step_follows (Repeat t drops a) w = loop_follows (steps_among a) (calls_of a) (Repeat t drops a) (λ P S. enter_repeat S t drops) (λ P deep F. derive_all P deep F a) (λ P S. refl) (steps_follow a) w
  step_follows (Gather t drops a) w = loop_follows (steps_among a) (calls_of a) (Gather t drops a) (λ P S. enter_gather S t drops) (λ P deep F. derive_all P deep F a) (λ P S. refl) (steps_follow a) w
  step_follows (Pick t drops a) w = loop_follows (steps_among a) (calls_of a) (Pick t drops a) (λ P S. enter_pick P S t drops) (λ P deep F. derive_all P deep F a) (λ P S. refl) (steps_follow a) w

  pub steps_follow : (D : Steps) → Follows (steps_among D) (calls_of D) (λ P deep F at S. derive_all P deep F D at S)
  steps_follow no_steps w = (w.counted, refl, λ i. Ok record w { items = sym (followed_by-nothing w.items) i; applied = no_more w.applied i })
  steps_follow (A ▷ rest) w = then_follows (steps_in A) (steps_among rest) (calls A) (calls_of rest) (λ P deep F. derive P deep F A) (λ P deep F. derive_all P deep F rest) (step_follows A) (steps_follow rest) w

pub walk_derives : WalkDerives
walk_derives P D = by (derive_all P 0 nothing_follows D 2 (initial P)) (steps_follow D (start P))
  where
    by : (x : Result Derived Failure) → Does (start P) (steps_among D) (made_all (calls_of D) (start P)) x → and_then (made_all (calls_of D) (start P)) finish ≡ and_then x (derived.finish P)
    by (Err failure) e = ap (λ (r : Called). and_then r finish) e
    by (Ok d) h = ap (λ (r : Called). and_then r finish) h.2 ∙ (λ i. derived.finish P record { items = d.items; state = d.state; line = h.1 i })

-- a walk after steps
came : (D : Steps) (w u : Walked) → made_all (calls_of D) w ≡ Ok u → (d : Derived) × (k : ℕ) × (after w (steps_among D) d k ≡ u)
came D w u e = by (derive_all w.program (length w.entered) (follows w.entered) D (line w) w.state) (steps_follow D w)
  where
    by : (x : Result Derived Failure) → Does w (steps_among D) (made_all (calls_of D) w) x → (d : Derived) × (k : ℕ) × (after w (steps_among D) d k ≡ u)
    by (Err failure) h = let z = sym h ∙ e in cc
    by (Ok d) h = (d, h.0, same_ok _ u (sym h.2 ∙ e))

pub walk_applies : WalkApplies
walk_applies P D w e = let c = came D (start P) w e in sym (ap (λ (z : Walked). z.applied) c.2) ∙ from_nothing (steps_among D)
  where
    from_nothing : (n : ℕ) → 0 + n ≡ n
    from_nothing n = omega arith

pub back_undoes : BackUndoes
back_undoes w v u A D e f =
    let i = and_then_ok (told_at (line w) (derived.nested (length w.entered) (entry w.program w.state A))) (λ i. Ok (inside w A i)) v e in
    let c = came D v u f in
    subst (λ (z : Walked). back z ≡ record w { applied = z.applied }) ((λ j. after (same_ok (inside w A i.0) v i.2 j) (steps_among D) c.0 c.1) ∙ c.2) refl
