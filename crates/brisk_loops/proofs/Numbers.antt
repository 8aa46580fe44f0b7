-- Walks whose numbers are kept do what walks do.
use Rattle.std.proofs.Common.{◌≡◌, ℕ, ◌+◌, List, [], ◌∷◌, map, length, refl, ap, ◌∙◌, arith}
use Rattle.std.specs.Prelude.{Option, Some, None, Ok, Err}
use Rattle.brisk_values.specs.Names.{Name}
use Rattle.brisk_seq.specs.Items.{Item, ◌followed_by◌}
use Rattle.brisk_state.specs.Symbolic.{Symbolic}
use Rattle.brisk_basic.specs.Basic.{Applied}
use Rattle.brisk_basic.specs.Outcomes.{and_then, told_as}
use Rattle.brisk_derivation.specs.declared.fault.SideFault.TheVariants.{Unfinished}
use Rattle.brisk_derivation.specs.Steps.{Step}
use Rattle.brisk_rules.specs.declared.why.Why.TheVariants.{Side}
use Rattle.brisk_rules.specs.Derives as derived
use Rattle.brisk_rules.specs.Derives.{Failure, told_at, items_in, apply_quietly, nested, first_unfinished, sequential, unless_unfinished}
use Rattle.brisk_rules.specs.Rules.{Outcome, around, around_sides, close, join}
use Rattle.brisk_loops.specs.Walk.{Inside, Premise, First, Second, Open, Walked, Called, line, start, entry, inside, follows_inside, follows, across, outside, other_in, other_of, leave_in, leave_of, finish, Call, Enter, Apply, Other, Leave, made, made_all, calls_of}
use Rattle.brisk_loops.specs.WalkKept.{kept, capped, kept_failure, kept_call, kept_all, KeptDerives}
use Rattle.brisk_loops.proofs.Walking.{walk_derives}

again : (n : ℕ) → kept (kept n) ≡ kept n
again n = omega arith

one : (n : ℕ) → kept (kept n + 1) ≡ kept (n + 1)
one n = omega arith

two : (n : ℕ) → kept (kept n + 2) ≡ kept (n + 2)
two n = omega arith

-- all numbers of a walk
abbrev kept_open : Open → Open
kept_open o = record o { counted = kept o.counted }

abbrev all_kept : Walked → Walked
all_kept w = record w { entered = map kept_open w.entered; applied = kept w.applied; counted = kept w.counted }

abbrev told : Called → Called
told call = and_then (told_as kept_failure call) (λ v. Ok (all_kept v))

same_follows : (os : List Open) → follows (map kept_open os) ≡ follows os
same_follows [] = refl
same_follows (o ∷ os) = ap (follows_inside o.state o.inside) (same_follows os)

same_length : (os : List Open) → length (map kept_open os) ≡ length os
same_length [] = refl
same_length (o ∷ os) = let h = same_length os in omega (arith, h)

capped_again : (w : Walked) → capped (all_kept w) ≡ all_kept w
capped_again w = λ i. record w { entered = map kept_open w.entered; applied = again w.applied i; counted = again w.counted i }

entered_kept : (w : Walked) (A : Step) (x : Outcome Inside) →
    kept_call (and_then (told_at (line (all_kept w)) x) (λ i. Ok (inside (all_kept w) A i))) ≡ told (and_then (told_at (line w) x) (λ i. Ok (inside w A i)))
entered_kept w A (Ok i) = λ j. Ok record (inside (all_kept w) A i) { applied = again w.applied j; counted = one w.counted j }
entered_kept w A (Err why) = λ j. Err record { line = two w.counted j; why = why }

basic_kept : (w : Walked) (x : Outcome Applied) →
    kept_call (and_then (told_at (line (all_kept w)) x) (λ r. Ok record (all_kept w) { state = r.next; items = w.items followed_by items_in r.statement; applied = kept w.applied + 1; counted = kept w.counted + 1 }))
    ≡ told (and_then (told_at (line w) x) (λ r. Ok record w { state = r.next; items = w.items followed_by items_in r.statement; applied = w.applied + 1; counted = w.counted + 1 }))
basic_kept w (Ok r) = λ j. Ok record (all_kept w) { state = r.next; items = w.items followed_by items_in r.statement; applied = one w.applied j; counted = one w.counted j }
basic_kept w (Err why) = λ j. Err record { line = two w.counted j; why = why }

other_kept : (w : Walked) (os : List Open) → kept_call (other_of (all_kept w) (map kept_open os)) ≡ told (other_of w os)
other_kept w [] = ap Ok (capped_again w)
other_kept w (o ∷ os) = by o.inside
  where
    by : (i : Inside) → kept_call (other_in (all_kept w) (kept_open o) (map kept_open os) i) ≡ told (other_in w o os i)
    by (Premise r) = ap Ok (capped_again w)
    by (First r) = λ j. Ok record (across (all_kept w) (kept_open o) (map kept_open os) r) { applied = again w.applied j; counted = one w.counted j }
    by (Second r E X) = ap Ok (capped_again w)

leave_kept : (w : Walked) (os : List Open) → kept_call (leave_of (all_kept w) (map kept_open os)) ≡ told (leave_of w os)
leave_kept w [] = ap Ok (capped_again w)
leave_kept w (o ∷ os) = by o.inside
  where
    ends : (q : Item) (x : Outcome Symbolic) → kept_call (and_then (told_at (line (all_kept w)) x) (λ S. Ok (outside (all_kept w) (kept_open o) (map kept_open os) S q))) ≡ told (and_then (told_at (line w) x) (λ S. Ok (outside w o os S q)))
    ends q (Ok S) = λ j. Ok record (outside (all_kept w) (kept_open o) (map kept_open os) S q) { applied = one w.applied j; counted = one w.counted j }
    ends q (Err why) = λ j. Err record { line = two w.counted j; why = why }

    by : (i : Inside) → kept_call (leave_in (all_kept w) (kept_open o) (map kept_open os) i) ≡ told (leave_in w o os i)
    by (Premise r) = ends (around r.kind w.items) (close r w.state)
    by (First r) = ap Ok (capped_again w)
    by (Second r E X) = ends (around_sides r X w.items) (join E w.state)

-- a call on a walk whose numbers are kept
pub made_kept : (c : Call) (w : Walked) → kept_call (made c (all_kept w)) ≡ told (made c w)
made_kept (Enter A) w =
    (λ j. kept_call (and_then (told_at (line (all_kept w)) (nested (same_length w.entered j) (entry w.program w.state A))) (λ i. Ok (inside (all_kept w) A i))))
    ∙ entered_kept w A (nested (length w.entered) (entry w.program w.state A))
made_kept (Apply b) w =
    (λ j. kept_call (and_then (told_at (line (all_kept w)) (apply_quietly w.program (same_follows w.entered j) w.state (derived.rule_of b))) (λ r. Ok record (all_kept w) { state = r.next; items = w.items followed_by items_in r.statement; applied = kept w.applied + 1; counted = kept w.counted + 1 })))
    ∙ basic_kept w (apply_quietly w.program (follows w.entered) w.state (derived.rule_of b))
made_kept Other w = other_kept w w.entered
made_kept Leave w = leave_kept w w.entered

thens : (cs : List Call) → ((w : Walked) → kept_all cs (all_kept w) ≡ told (made_all cs w)) → (x : Called) → and_then (told x) (kept_all cs) ≡ told (and_then x (made_all cs))
thens cs more (Ok v) = more v
thens cs more (Err f) = refl

-- calls on a walk whose numbers are kept
pub made_all_kept : (cs : List Call) (w : Walked) → kept_all cs (all_kept w) ≡ told (made_all cs w)
made_all_kept [] w = refl
made_all_kept (c ∷ cs) w = ap (λ (x : Called). and_then x (kept_all cs)) (made_kept c w) ∙ thens cs (made_all_kept cs) (made c w)

-- the end of a walk
finished : (w : Walked) → told_as kept_failure (finish (all_kept w)) ≡ told_as kept_failure (finish w)
finished w = by (first_unfinished w.state.threads)
  where
    by : (o : Option Name) → told_as kept_failure (unless_unfinished (kept w.counted + 2) o (sequential w.program w.items)) ≡ told_as kept_failure (unless_unfinished (w.counted + 2) o (sequential w.program w.items))
    by None = refl
    by (Some t) = λ j. Err record { line = two w.counted j; why = Side (Unfinished t) }

ends : (x : Called) → and_then (told x) (λ w. told_as kept_failure (finish w)) ≡ told_as kept_failure (and_then x finish)
ends (Ok w) = finished w
ends (Err f) = refl

pub kept_derives : KeptDerives
kept_derives P D = ap (λ (x : Called). and_then x (λ w. told_as kept_failure (finish w))) (made_all_kept (calls_of D) (start P)) ∙ ends (made_all (calls_of D) (start P)) ∙ ap (told_as kept_failure) (walk_derives P D)
