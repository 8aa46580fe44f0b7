-- Where calls lead a walk: what it has is what steps derive, in each rule that is entered.
use Rattle.std.proofs.Common.{◌≡◌, ℕ, ◌+◌, Bool, true, List, [], ◌∷◌, length, refl, sym, ap, ◌∙◌, subst}
use Rattle.std.specs.Prelude.{Result, Ok, Err, nat_lt}
use Rattle.brisk_syntax.specs.declared.program.Program.{Program}
use Rattle.brisk_seq.specs.Items.{Items, nothing, ◌⨟◌, ◌followed_by◌}
use Rattle.brisk_seq.proofs.Items.{followed_by-nothing, followed_by_assoc}
use Rattle.brisk_state.specs.Symbolic.{Symbolic, initial}
use Rattle.brisk_basic.specs.Outcomes.{when, and_then}
use Rattle.brisk_derivation.specs.declared.fault.SideFault.TheVariants.{TooDeep}
use Rattle.brisk_derivation.specs.declared.steps.BasicStep.{BasicStep}
use Rattle.brisk_derivation.specs.Steps.{Step, Basic, Branch, While, For, Repeat, Gather, Pick, Steps, no_steps, ◌▷◌}
use Rattle.brisk_rules.specs.declared.why.Why.TheVariants.{Side}
use Rattle.brisk_rules.specs.Following.{Follow, nothing_follows, follows_in}
use Rattle.brisk_rules.specs.Derives as derived
use Rattle.brisk_rules.specs.Derives.{Failure, Derived, told_at, items_in, apply_quietly, by_loop, by_branch, derive, derive_all, Derivable}
use Rattle.brisk_rules.specs.Rules.{Outcome, Entered, around, Parted, around_sides, close, enter_while, enter_for, enter_repeat, enter_gather, enter_pick, enter_branch, join}
use Rattle.brisk_loops.specs.Walk.{Inside, Premise, First, Second, Open, Walked, line, alone, in_premise, entry, starts, follows, follows_inside, opened, inside, across, outside, other_in, other_of, leave_in, leave_of, back, back_to, Call, Enter, Apply, Other, Leave, made}
use Rattle.brisk_loops.specs.WalkLaws.{Reached, begun, called, gave_up, began_again, WalkIsValid}
use Rattle.brisk_rules.proofs.Fulfilled.{and_then_ok, told_ok, same_ok, when_ok}
use Rattle.brisk_loops.proofs.Walking.{deeper, next_line}

-- the steps before a rule that is entered, and those of its first side
pub record Level : Type 0 where
  pub before : Steps
  pub first : Steps

-- one step more
abbrev pub with_step : Steps → Step → Steps
with_step no_steps s = s ▷ no_steps
with_step (r ▷ rest) s = r ▷ with_step rest s

-- a step with own steps: those of the first side of a branch, and those of its second side or of its only premise
abbrev pub filled : Step → Steps → Steps → Step
filled (Basic b) F D = Basic b
filled (Branch t a b) F D = Branch t F D
filled (While t drops a) F D = While t drops D
filled (For s ts drops a) F D = For s ts drops D
filled (Repeat t drops a) F D = Repeat t drops D
filled (Gather t drops a) F D = Gather t drops D
filled (Pick t drops a) F D = Pick t drops D

-- The steps D, after those of the first side F, lead in a rule from its premise's start to these items and this state.
abbrev pub Within : Program → Follow → Steps → Steps → Items → Symbolic → ℕ → Open → ℕ → Inside → Type 0
Within P G F D X S k o deep (Premise r) =
    (entry P o.state o.step ≡ Ok (Premise r)) × (nat_lt deep 256 ≡ true)
    × (derive_all P (deep + 1) (follows_in o.state r G) D (o.counted + 2 + 1) r.start ≡ Ok record { items = X; state = S; line = k + 2 })
Within P G F D X S k o deep (First r) =
    (entry P o.state o.step ≡ Ok (First r)) × (nat_lt deep 256 ≡ true)
    × (derive_all P (deep + 1) G D (o.counted + 2 + 1) r.first ≡ Ok record { items = X; state = S; line = k + 2 })
Within P G F D X S k o deep (Second r E Y) =
    (entry P o.state o.step ≡ Ok (First r)) × (nat_lt deep 256 ≡ true)
    × (l : ℕ) × (derive_all P (deep + 1) G F (o.counted + 2 + 1) r.first ≡ Ok record { items = Y; state = E; line = l })
    × (derive_all P (deep + 1) G D (l + 1) r.second ≡ Ok record { items = X; state = S; line = k + 2 })

-- The steps D, in rules that were entered after these steps, lead from the start to these items and this state.
abbrev pub Stands : Program → Steps → List Level → Items → Symbolic → ℕ → List Open → Type 0
Stands P D [] X S k [] = derive_all P 0 nothing_follows D 2 (initial P) ≡ Ok record { items = X; state = S; line = k + 2 }
Stands P D [] X S k (o ∷ os) = ⊥
Stands P D (l ∷ ls) X S k [] = ⊥
Stands P D (l ∷ ls) X S k (o ∷ os) = Within P (follows os) l.first D X S k o (length os) o.inside × Stands P l.before ls o.items o.state o.counted os

-- where a walk stands
abbrev pub Standing : Steps → List Level → Walked → Type 0
Standing D ls w = Stands w.program D ls w.items w.state w.counted w.entered

-- a walk stands somewhere
abbrev pub Somewhere : Walked → Type 0
Somewhere w = (D : Steps) × (ls : List Level) × Standing D ls w

-- steps, and then one step more
pub one_more_step : (P : Program) (deep : ℕ) (F : Follow) (D : Steps) (s : Step) (at : ℕ) (S : Symbolic) (d e : Derived) → derive_all P deep F D at S ≡ Ok d → derive P deep F s d.line d.state ≡ Ok e →
    derive_all P deep F (with_step D s) at S ≡ Ok record e { items = d.items followed_by e.items }
one_more_step P deep F no_steps s at S d e p =
    subst (λ (z : Derived). derive P deep F s z.line z.state ≡ Ok e → derive_all P deep F (s ▷ no_steps) at S ≡ Ok record e { items = z.items followed_by e.items }) (same_ok _ d p) (λ h.
    ap (λ (x : Result Derived Failure). and_then x (λ y. Ok record y { items = y.items followed_by nothing })) h ∙ (λ i. Ok record e { items = followed_by-nothing e.items i }))
one_more_step P deep F (r ▷ rest) s at S d e p =
    let a = and_then_ok (derive P deep F r at S) _ d p in
    let b = and_then_ok (derive_all P deep F rest a.0.line a.0.state) _ d a.2 in
    subst (λ (z : Derived). derive P deep F s z.line z.state ≡ Ok e → derive_all P deep F (r ▷ with_step rest s) at S ≡ Ok record e { items = z.items followed_by e.items }) (same_ok _ d b.2) (λ h.
    ap (λ (x : Result Derived Failure). and_then x (λ y. and_then (derive_all P deep F (with_step rest s) y.line y.state) (λ z. Ok record z { items = y.items followed_by z.items }))) a.1
    ∙ ap (λ (x : Result Derived Failure). and_then x (λ z. Ok record z { items = a.0.items followed_by z.items })) (one_more_step P deep F rest s a.0.line a.0.state b.0 e b.1 h)
    ∙ (λ i. Ok record e { items = sym (followed_by_assoc a.0.items b.0.items e.items) i }))

-- a step that derives is one step more where a walk stands
grows : (P : Program) (D : Steps) (ls : List Level) (X : Items) (S : Symbolic) (k m : ℕ) (os : List Open) (s : Step) (Y : Items) (T : Symbolic) → Stands P D ls X S k os →
    derive P (length os) (follows os) s (k + 2) S ≡ Ok record { items = Y; state = T; line = m + 2 } → Stands P (with_step D s) ls (X followed_by Y) T m os
grows P D [] X S k m [] s Y T h e = one_more_step P 0 nothing_follows D s 2 (initial P) _ _ h e
grows P D [] X S k m (o ∷ os) s Y T h e = absurd h
grows P D (l ∷ ls) X S k m [] s Y T h e = absurd h
grows P D (l ∷ ls) X S k m (o ∷ os) s Y T h e = (within o.inside here h.0, h.1)
  where
    here : derive P (length os + 1) (follows (o ∷ os)) s (k + 2) S ≡ Ok record { items = Y; state = T; line = m + 2 }
    here = subst (λ (deep : ℕ). derive P deep (follows (o ∷ os)) s (k + 2) S ≡ Ok record { items = Y; state = T; line = m + 2 }) (deeper o os) e

    within : (i : Inside) → derive P (length os + 1) (follows_inside o.state i (follows os)) s (k + 2) S ≡ Ok record { items = Y; state = T; line = m + 2 } → Within P (follows os) l.first D X S k o (length os) i → Within P (follows os) l.first (with_step D s) (X followed_by Y) T m o (length os) i
    within (Premise r) here g = (g.0, g.1, one_more_step P (length os + 1) (follows_in o.state r (follows os)) D s _ _ _ _ g.2 here)
    within (First r) here g = (g.0, g.1, one_more_step P (length os + 1) (follows os) D s _ _ _ _ g.2 here)
    within (Second r E Z) here g = (g.0, g.1, g.2, g.3, one_more_step P (length os + 1) (follows os) D s _ _ _ _ g.4 here)

-- a rule with one premise derives
by_loop_ok : (deep at : ℕ) (e : Outcome Entered) (premise : Entered → derived.Premise) (r : Entered) (d : Derived) (S : Symbolic) → nat_lt deep 256 ≡ true → e ≡ Ok r → premise r (at + 1) r.start ≡ Ok d → close r d.state ≡ Ok S →
    by_loop deep at e premise ≡ Ok record { items = around r.kind d.items ⨟ nothing; state = S; line = d.line + 1 }
by_loop_ok deep at e premise r d S b p q c =
    ap (λ (z : Bool). and_then (told_at at (when z (Side TooDeep) e)) after_entry) b
    ∙ ap (λ (z : Outcome Entered). and_then (told_at at z) after_entry) p
    ∙ ap (λ (z : Result Derived Failure). and_then z (after_premise r)) q
    ∙ ap (λ (z : Outcome Symbolic). and_then (told_at d.line z) (after_closing r d)) c
  where
    after_closing : Entered → Derived → Symbolic → Result Derived Failure
    after_closing r d S = Ok record { items = around r.kind d.items ⨟ nothing; state = S; line = d.line + 1 }

    after_premise : Entered → Derived → Result Derived Failure
    after_premise r d = and_then (told_at d.line (close r d.state)) (after_closing r d)

    after_entry : Entered → Result Derived Failure
    after_entry r = and_then (premise r (at + 1) r.start) (after_premise r)

-- a branch derives
by_branch_ok : (deep at : ℕ) (e : Outcome Parted) (one two : derived.Premise) (r : Parted) (d f : Derived) (S : Symbolic) → nat_lt deep 256 ≡ true → e ≡ Ok r →
    one (at + 1) r.first ≡ Ok d → two (d.line + 1) r.second ≡ Ok f → join d.state f.state ≡ Ok S →
    by_branch deep at e one two ≡ Ok record { items = around_sides r d.items f.items ⨟ nothing; state = S; line = f.line + 1 }
by_branch_ok deep at e one two r d f S b p q q' c =
    ap (λ (z : Bool). and_then (told_at at (when z (Side TooDeep) e)) after_entry) b
    ∙ ap (λ (z : Outcome Parted). and_then (told_at at z) after_entry) p
    ∙ ap (λ (z : Result Derived Failure). and_then z (after_first r)) q
    ∙ ap (λ (z : Result Derived Failure). and_then z (after_second r d)) q'
    ∙ ap (λ (z : Outcome Symbolic). and_then (told_at f.line z) (after_join r d f)) c
  where
    after_join : Parted → Derived → Derived → Symbolic → Result Derived Failure
    after_join r d f S = Ok record { items = around_sides r d.items f.items ⨟ nothing; state = S; line = f.line + 1 }

    after_second : Parted → Derived → Derived → Result Derived Failure
    after_second r d f = and_then (told_at f.line (join d.state f.state)) (after_join r d f)

    after_first : Parted → Derived → Result Derived Failure
    after_first r d = and_then (two (d.line + 1) r.second) (after_second r d)

    after_entry : Parted → Result Derived Failure
    after_entry r = and_then (one (at + 1) r.first) (after_first r)

pub from_premise : (e : Outcome Entered) (r : Entered) → in_premise e ≡ Ok (Premise r) → e ≡ Ok r
from_premise (Ok q) r h = cc
from_premise (Err why) r h = cc

pub from_first : (e : Outcome Parted) (r : Parted) → and_then e (λ q. Ok (First q)) ≡ Ok (First r) → e ≡ Ok r
from_first (Ok q) r h = cc
from_first (Err why) r h = cc

pub not_premise : (e : Outcome Parted) (r : Entered) → and_then e (λ q. Ok (First q)) ≡ Ok (Premise r) → ⊥
not_premise (Ok q) r h = cc
not_premise (Err why) r h = cc

pub not_first : (e : Outcome Entered) (r : Parted) → in_premise e ≡ Ok (First r) → ⊥
not_first (Ok q) r h = cc
not_first (Err why) r h = cc

-- a rule that closes is a step that derives
pub loop_derives : (P : Program) (G : Follow) (deep at m : ℕ) (A : Step) (S : Symbolic) (r : Entered) (F D : Steps) (X : Items) (E T : Symbolic) → entry P S A ≡ Ok (Premise r) → nat_lt deep 256 ≡ true →
    derive_all P (deep + 1) (follows_in S r G) D (at + 1) r.start ≡ Ok record { items = X; state = E; line = m } → close r E ≡ Ok T →
    derive P deep G (filled A F D) at S ≡ Ok record { items = around r.kind X ⨟ nothing; state = T; line = m + 1 }
loop_derives P G deep at m (Basic b) S r F D X E T p q g c = cc
loop_derives P G deep at m (Branch t a b) S r F D X E T p q g c = absurd (not_premise (enter_branch S t) r p)
loop_derives P G deep at m (While t drops a) S r F D X E T p q g c = by_loop_ok deep at (enter_while S t drops) (λ r. derive_all P (deep + 1) (follows_in S r G) D) r _ T q (from_premise _ r p) g c
loop_derives P G deep at m (For s ts drops a) S r F D X E T p q g c = by_loop_ok deep at (enter_for S s ts drops) (λ r. derive_all P (deep + 1) (follows_in S r G) D) r _ T q (from_premise _ r p) g c
loop_derives P G deep at m (Repeat t drops a) S r F D X E T p q g c = by_loop_ok deep at (enter_repeat S t drops) (λ r. derive_all P (deep + 1) (follows_in S r G) D) r _ T q (from_premise _ r p) g c
loop_derives P G deep at m (Gather t drops a) S r F D X E T p q g c = by_loop_ok deep at (enter_gather S t drops) (λ r. derive_all P (deep + 1) (follows_in S r G) D) r _ T q (from_premise _ r p) g c
loop_derives P G deep at m (Pick t drops a) S r F D X E T p q g c = by_loop_ok deep at (enter_pick P S t drops) (λ r. derive_all P (deep + 1) (follows_in S r G) D) r _ T q (from_premise _ r p) g c

pub branch_derives : (P : Program) (H : Follow) (deep at l m : ℕ) (A : Step) (S : Symbolic) (r : Parted) (F D : Steps) (Y X : Items) (E G T : Symbolic) → entry P S A ≡ Ok (First r) → nat_lt deep 256 ≡ true →
    derive_all P (deep + 1) H F (at + 1) r.first ≡ Ok record { items = Y; state = E; line = l } → derive_all P (deep + 1) H D (l + 1) r.second ≡ Ok record { items = X; state = G; line = m } → join E G ≡ Ok T →
    derive P deep H (filled A F D) at S ≡ Ok record { items = around_sides r Y X ⨟ nothing; state = T; line = m + 1 }
branch_derives P H deep at l m (Basic b) S r F D Y X E G T p q g h c = cc
branch_derives P H deep at l m (Branch t a b) S r F D Y X E G T p q g h c = by_branch_ok deep at (enter_branch S t) (derive_all P (deep + 1) H F) (derive_all P (deep + 1) H D) r _ _ T q (from_first _ r p) g h c
branch_derives P H deep at l m (While t drops a) S r F D Y X E G T p q g h c = absurd (not_first (enter_while S t drops) r p)
branch_derives P H deep at l m (For s ts drops a) S r F D Y X E G T p q g h c = absurd (not_first (enter_for S s ts drops) r p)
branch_derives P H deep at l m (Repeat t drops a) S r F D Y X E G T p q g h c = absurd (not_first (enter_repeat S t drops) r p)
branch_derives P H deep at l m (Gather t drops a) S r F D Y X E G T p q g h c = absurd (not_first (enter_gather S t drops) r p)
branch_derives P H deep at l m (Pick t drops a) S r F D Y X E G T p q g h c = absurd (not_first (enter_pick P S t drops) r p)

-- own steps don't count for what is entered
pub entry_alone : (P : Program) (S : Symbolic) (A : Step) → entry P S A ≡ entry P S (alone A)
entry_alone P S (Basic b) = refl
entry_alone P S (Branch t a b) = refl
entry_alone P S (While t drops a) = refl
entry_alone P S (For s ts drops a) = refl
entry_alone P S (Repeat t drops a) = refl
entry_alone P S (Gather t drops a) = refl
entry_alone P S (Pick t drops a) = refl

-- no step enters the second side of a branch
pub no_second : (P : Program) (S : Symbolic) (A : Step) (r : Parted) (E : Symbolic) (X : Items) → entry P S A ≡ Ok (Second r E X) → ⊥
no_second P S A r E X = of A
  where
    loop : (e : Outcome Entered) → in_premise e ≡ Ok (Second r E X) → ⊥
    loop (Ok q) h = cc
    loop (Err why) h = cc

    fork : (e : Outcome Parted) → and_then e (λ q. Ok (First q)) ≡ Ok (Second r E X) → ⊥
    fork (Ok q) h = cc
    fork (Err why) h = cc

    of : (A : Step) → entry P S A ≡ Ok (Second r E X) → ⊥
    of (Basic b) h = cc
    of (Branch t a b) h = fork (enter_branch S t) h
    of (While t drops a) h = loop (enter_while S t drops) h
    of (For s ts drops a) h = loop (enter_for S s ts drops) h
    of (Repeat t drops a) h = loop (enter_repeat S t drops) h
    of (Gather t drops a) h = loop (enter_gather S t drops) h
    of (Pick t drops a) h = loop (enter_pick P S t drops) h

-- a rule that is entered
pub stands_entered : (w v : Walked) (A : Step) (D : Steps) (ls : List Level) → Standing D ls w → made (Enter A) w ≡ Ok v → Standing no_steps (record { before = D; first = no_steps } ∷ ls) v
stands_entered w v A D ls h e =
    let i = and_then_ok (told_at (line w) (derived.nested (length w.entered) (entry w.program w.state A))) (λ i. Ok (inside w A i)) v e in
    let n = when_ok (nat_lt (length w.entered) 256) (Side TooDeep) (entry w.program w.state A) i.0 (told_ok (λ why. record { line = line w; why = why }) (derived.nested (length w.entered) (entry w.program w.state A)) i.0 i.1) in
    subst (Standing no_steps (record { before = D; first = no_steps } ∷ ls)) (same_ok (inside w A i.0) v i.2) (within i.0 n.0 n.1, h)
  where
    within : (i : Inside) → nat_lt (length w.entered) 256 ≡ true → entry w.program w.state A ≡ Ok i → Within w.program (follows w.entered) no_steps no_steps nothing (starts i) (w.counted + 1) (opened w A i) (length w.entered) i
    within (Premise r) b p = (sym (entry_alone w.program w.state A) ∙ p, b, λ j. Ok record { items = nothing; state = r.start; line = sym (next_line w.counted) j })
    within (First r) b p = (sym (entry_alone w.program w.state A) ∙ p, b, λ j. Ok record { items = nothing; state = r.first; line = sym (next_line w.counted) j })
    within (Second r E X) b p = absurd (no_second w.program w.state A r E X p)

-- a basic rule
pub stands_applied : (w v : Walked) (b : BasicStep) (D : Steps) (ls : List Level) → Standing D ls w → made (Apply b) w ≡ Ok v → Standing (with_step D (Basic b)) ls v
stands_applied w v b D ls h e =
    let r = and_then_ok (told_at (line w) (apply_quietly w.program (follows w.entered) w.state (derived.rule_of b))) _ v e in
    subst (Standing (with_step D (Basic b)) ls) (same_ok _ v r.2)
    (grows w.program D ls w.items w.state w.counted (w.counted + 1) w.entered (Basic b) (items_in r.0.statement) r.0.next h
    (ap (λ (z : Result _ Failure). and_then z (λ x. Ok record { items = items_in x.statement; state = x.next; line = line w + 1 })) r.1
    ∙ (λ i. Ok record { items = items_in r.0.statement; state = r.0.next; line = sym (next_line w.counted) i })))

-- a first side, of a branch
abbrev pub IsFirst : Inside → Type 0
IsFirst (Premise r) = ⊥
IsFirst (First r) = Unit {0}
IsFirst (Second r E X) = ⊥

-- no first side
abbrev pub IsLast : Inside → Type 0
IsLast (Premise r) = Unit {0}
IsLast (First r) = ⊥
IsLast (Second r E X) = Unit {0}

-- The other side of a branch: the steps so far are those of its first side, and there is none of the second yet.
pub stands_across : (w v : Walked) (D : Steps) (l : Level) (ls : List Level) (o : Open) (os : List Open) → Stands w.program D (l ∷ ls) w.items w.state w.counted (o ∷ os) → IsFirst o.inside → other_of w (o ∷ os) ≡ Ok v →
    Standing no_steps (record { before = l.before; first = D } ∷ ls) v
stands_across w v D l ls o os h is e = side o.inside is h.0 e
  where
    side : (i : Inside) → IsFirst i → Within w.program (follows os) l.first D w.items w.state w.counted o (length os) i → other_in w o os i ≡ Ok v → Standing no_steps (record { before = l.before; first = D } ∷ ls) v
    side (Premise r) is g e = absurd is
    side (First r) is g e =
        subst (Standing no_steps (record { before = l.before; first = D } ∷ ls)) (same_ok (across w o os r) v e)
        ((g.0, g.1, w.counted + 2, g.2, λ j. Ok record { items = nothing; state = r.second; line = sym (next_line w.counted) j }), h.1)
    side (Second r E X) is g e = absurd is

-- A rule that closes: it is one step more after those before it, with the steps so far as its own.
pub stands_left : (w v : Walked) (D : Steps) (l : Level) (ls : List Level) (o : Open) (os : List Open) → Stands w.program D (l ∷ ls) w.items w.state w.counted (o ∷ os) → IsLast o.inside → leave_of w (o ∷ os) ≡ Ok v →
    Standing (with_step l.before (filled o.step l.first D)) ls v
stands_left w v D l ls o os h is e = side o.inside is h.0 e
  where
    side : (i : Inside) → IsLast i → Within w.program (follows os) l.first D w.items w.state w.counted o (length os) i → leave_in w o os i ≡ Ok v → Standing (with_step l.before (filled o.step l.first D)) ls v
    side (Premise r) is g e =
        let c = and_then_ok (told_at (line w) (close r w.state)) _ v e in
        subst (Standing (with_step l.before (filled o.step l.first D)) ls) (same_ok (outside w o os c.0 (around r.kind w.items)) v c.2)
        (grows w.program l.before ls o.items o.state o.counted (w.counted + 1) os (filled o.step l.first D) (around r.kind w.items ⨟ nothing) c.0 h.1
        (loop_derives w.program (follows os) (length os) (o.counted + 2) (w.counted + 2) o.step o.state r l.first D w.items w.state c.0 g.0 g.1 g.2 (told_ok (λ why. record { line = line w; why = why }) (close r w.state) c.0 c.1)
        ∙ (λ i. Ok record { items = around r.kind w.items ⨟ nothing; state = c.0; line = sym (next_line w.counted) i })))
    side (First r) is g e = absurd is
    side (Second r E X) is g e =
        let c = and_then_ok (told_at (line w) (join E w.state)) _ v e in
        subst (Standing (with_step l.before (filled o.step l.first D)) ls) (same_ok (outside w o os c.0 (around_sides r X w.items)) v c.2)
        (grows w.program l.before ls o.items o.state o.counted (w.counted + 1) os (filled o.step l.first D) (around_sides r X w.items ⨟ nothing) c.0 h.1
        (branch_derives w.program (follows os) (length os) (o.counted + 2) g.2 (w.counted + 2) o.step o.state r l.first D X w.items E w.state c.0 g.0 g.1 g.3 g.4 (told_ok (λ why. record { line = line w; why = why }) (join E w.state) c.0 c.1)
        ∙ (λ i. Ok record { items = around_sides r X w.items ⨟ nothing; state = c.0; line = sym (next_line w.counted) i })))

-- a call that isn't called for leaves the walk as it is
across_somewhere : (w v : Walked) (D : Steps) (ls : List Level) → Standing D ls w → made Other w ≡ Ok v → Somewhere v
across_somewhere w v D ls h e = of ls w.entered h (λ z f. subst Somewhere f (D, ls, h)) e
  where
    of : (ls : List Level) (os : List Open) → Stands w.program D ls w.items w.state w.counted os → ((z : Walked) → w ≡ z → Somewhere z) → other_of w os ≡ Ok v → Somewhere v
    of [] [] h same e = same v (same_ok w v e)
    of [] (o ∷ os) h same e = absurd h
    of (l ∷ ls) [] h same e = absurd h
    of (l ∷ ls) (o ∷ os) h same e =
        side o.inside e (λ is. (no_steps, record { before = l.before; first = D } ∷ ls, stands_across w v D l ls o os h is e))
      where
        side : (i : Inside) → other_in w o os i ≡ Ok v → (IsFirst i → Somewhere v) → Somewhere v
        side (Premise r) e more = same v (same_ok w v e)
        side (First r) e more = more tt
        side (Second r E X) e more = same v (same_ok w v e)

left_somewhere : (w v : Walked) (D : Steps) (ls : List Level) → Standing D ls w → made Leave w ≡ Ok v → Somewhere v
left_somewhere w v D ls h e = of ls w.entered h (λ z f. subst Somewhere f (D, ls, h)) e
  where
    of : (ls : List Level) (os : List Open) → Stands w.program D ls w.items w.state w.counted os → ((z : Walked) → w ≡ z → Somewhere z) → leave_of w os ≡ Ok v → Somewhere v
    of [] [] h same e = same v (same_ok w v e)
    of [] (o ∷ os) h same e = absurd h
    of (l ∷ ls) [] h same e = absurd h
    of (l ∷ ls) (o ∷ os) h same e =
        side o.inside e (λ is. (with_step l.before (filled o.step l.first D), ls, stands_left w v D l ls o os h is e))
      where
        side : (i : Inside) → leave_in w o os i ≡ Ok v → (IsLast i → Somewhere v) → Somewhere v
        side (Premise r) e more = more tt
        side (First r) e more = same v (same_ok w v e)
        side (Second r E X) e more = more tt

pub stands_made : (c : Call) (w v : Walked) (D : Steps) (ls : List Level) → Standing D ls w → made c w ≡ Ok v → Somewhere v
stands_made (Enter A) w v D ls h e = (no_steps, record { before = D; first = no_steps } ∷ ls, stands_entered w v A D ls h e)
stands_made (Apply b) w v D ls h e = (with_step D (Basic b), ls, stands_applied w v b D ls h e)
stands_made Other w v D ls h e = across_somewhere w v D ls h e
stands_made Leave w v D ls h e = left_somewhere w v D ls h e

-- where a rule is given up, the steps before it are left
pub stands_given_up : (w : Walked) (D : Steps) (l : Level) (ls : List Level) (o : Open) (os : List Open) → Stands w.program D (l ∷ ls) w.items w.state w.counted (o ∷ os) → Standing l.before ls (back_to w (o ∷ os))
stands_given_up w D l ls o os h = h.1

pub stands_back : (w : Walked) (D : Steps) (ls : List Level) → Standing D ls w → Somewhere (back w)
stands_back w D ls h = of ls w.entered h (D, ls, h)
  where
    of : (ls : List Level) (os : List Open) → Stands w.program D ls w.items w.state w.counted os → Somewhere w → Somewhere (back_to w os)
    of [] [] h same = same
    of [] (o ∷ os) h same = absurd h
    of (l ∷ ls) [] h same = absurd h
    of (l ∷ ls) (o ∷ os) h same = (l.before, ls, stands_given_up w D l ls o os h)

pub reached_stands : (w : Walked) → Reached w → Somewhere w
reached_stands w (begun P) = (no_steps, [], refl)
reached_stands w (called c u v r e) = let s = reached_stands u r in stands_made c u v s.0 s.1 s.2 e
reached_stands w (gave_up u r) = let s = reached_stands u r in stands_back u s.0 s.1 s.2
reached_stands w (began_again u r) = (no_steps, [], refl)

pub walk_is_valid : WalkIsValid
walk_is_valid w Q r n e = let s = reached_stands w r in ends s.0 s.1 (subst (λ (os : List Open). Stands w.program s.0 s.1 w.items w.state w.counted os) n s.2)
  where
    ends : (D : Steps) (ls : List Level) → Stands w.program D ls w.items w.state w.counted [] → Derivable w.program Q
    ends D [] h = (D, ap (λ (x : Result Derived Failure). and_then x (derived.finish w.program)) h ∙ e)
    ends D (l ∷ ls) h = absurd h
