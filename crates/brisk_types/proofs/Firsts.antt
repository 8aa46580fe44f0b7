-- What is noted of all failures is the first of them.
use Rattle.std.proofs.Common.{◌≡◌, ℕ, ◌<◌, ◌≤◌, ◌⊎◌, inl, inr, Bool, true, false, ◌||◌, ◌&&◌, cond, nat_lt, nat_eq, Option, Some, None, Result, Ok, Err, refl, sym, subst, ◌∙◌, arith}
use Rattle.std.specs.Prelude.{IfErr}
use Rattle.brisk_types.specs.declared.fault.Failure.{Failure}
use Rattle.brisk_types.specs.declared.fault.Rule.{Rule}
use Rattle.brisk_types.specs.declared.fault.Rule.TheVariants.{Unknown, Twice, NotASet, NotSingle, SelfPartner, WrongCount, WrongKind}
use Rattle.brisk_types.specs.declared.fault.TypeFault.{TypeFault}
use Rattle.brisk_types.specs.declared.fault.TypeFault.TheVariants as fault
use Rattle.brisk_types.specs.Failures.{Failures, none, fails, ◌also◌, Fails, NoneFails, FailsFirst, IsChecked, IsBelow, rank, answer, is_before, note_all}

abbrev Leq : Failure → Rule → ℕ → Type 0
Leq f q j = (f.at < j) ⊎ ((f.at ≡ j) × (rank f.rule ≤ rank q))

leq_trans : (f g : Failure) (q : Rule) (j : ℕ) → Leq f g.rule g.at → Leq g q j → Leq f q j
leq_trans f g q j (inl a) (inl b) = inl (omega arith)
leq_trans f g q j (inl a) (inr b) = inl (omega (arith, b.0))
leq_trans f g q j (inr a) (inl b) = inl (omega (arith, a.0))
leq_trans f g q j (inr a) (inr b) = inr (omega (arith, a.0, b.0), omega (arith, a.1, b.1))

leq_refl : (f : Failure) → Leq f f.rule f.at
leq_refl f = inr (refl, omega arith)

is_less : (i j r s : ℕ) → (nat_lt i j || (nat_eq i j && nat_lt r s)) ≡ true → (i < j) ⊎ ((i ≡ j) × (r ≤ s))
is_less i j r s h = grind arith

is_no_less : (i j r s : ℕ) → (nat_lt i j || (nat_eq i j && nat_lt r s)) ≡ false → (j < i) ⊎ ((j ≡ i) × (s ≤ r))
is_no_less i j r s h = grind arith

if_before : (f g : Failure) → is_before f g ≡ true → Leq f g.rule g.at
if_before f g h = is_less f.at g.at (rank f.rule) (rank g.rule) h

if_not_before : (f g : Failure) → is_before f g ≡ false → Leq g f.rule f.at
if_not_before f g h = is_no_less f.at g.at (rank f.rule) (rank g.rule) h

nowhere : (fs : Failures) (q : Rule) (j : ℕ) → NoneFails fs → Fails fs q j → ⊥
nowhere none q j h f = f
nowhere (fails r i) q j h f = h
nowhere (a also b) q j h (inl f) = nowhere a q j h.0 f
nowhere (a also b) q j h (inr f) = nowhere b q j h.1 f

abbrev After : Option Failure → Failure → Type 0
After None f = Unit {0}
After (Some g) f = Leq f g.rule g.at

-- the last is the first of the one before and of these failures
abbrev IsBest : Option Failure → Failures → Option Failure → Type 0
IsBest o fs None = (o ≡ None) × NoneFails fs
IsBest o fs (Some f) = ((o ≡ Some f) ⊎ Fails fs f.rule f.at) × ((q : Rule) (j : ℕ) → Fails fs q j → Leq f q j) × After o f

after_less : (o : Option Failure) (f g : Failure) → Leq f g.rule g.at → After o g → After o f
after_less None f g le h = tt
after_less (Some k) f g le h = leq_trans f g k.rule k.at le h

both : (o p r : Option Failure) (a b : Failures) → IsBest o a p → IsBest p b r → IsBest o (a also b) r
both o None None a b h k = (h.0, (h.1, k.1))
both o None (Some f) a b h k = (
  elim k.0 [ inl e ↦ cc | inr e ↦ inr (inr e) ],
  (λ q j w. elim w [ inl e ↦ absurd (nowhere a q j h.1 e) | inr e ↦ k.1 q j e ]),
  subst (λ (o : Option Failure). After o f) (sym h.0) tt,
)
both o (Some g) None a b h k = let e = k.0 in cc
both o (Some g) (Some f) a b h k = (
  elim k.0 [ inl e ↦ elim h.0 [ inl d ↦ inl (d ∙ e) | inr d ↦ inr (inl (same g f e d)) ] | inr e ↦ inr (inr e) ],
  (λ q j w. elim w [ inl e ↦ leq_trans f g q j k.2 (h.1 q j e) | inr e ↦ k.1 q j e ]),
  after_less o f g k.2 h.2,
)
  where
    same : (g f : Failure) → Some g ≡ Some f → Fails a g.rule g.at → Fails a f.rule f.at
    same g f e d = let e' : g ≡ f = cc in subst (λ (k : Failure). Fails a k.rule k.at) e' d

one : (g f : Failure) (b : Bool) → is_before f g ≡ b → IsBest (Some g) (fails f.rule f.at) (cond b (Some f) (Some g))
one g f true h = (inr (refl, refl), (λ q j w. inr (w.1, subst (λ (p : Rule). rank f.rule ≤ rank p) w.0 (omega arith))), if_before f g h)
one g f false h = (inl refl, (λ q j w. subst (λ (j : ℕ). Leq g q j) w.1 (subst (λ (p : Rule). Leq g p f.at) w.0 (if_not_before f g h))), leq_refl g)

best : (o : Option Failure) (fs : Failures) → IsBest o fs (note_all o fs)
best None none = (refl, tt)
best (Some f) none = (inl refl, (λ q j w. absurd w), leq_refl f)
best None (fails r i) = (inr (refl, refl), (λ q j w. inr (w.1, subst (λ (p : Rule). rank r ≤ rank p) w.0 (omega arith))), tt)
best (Some g) (fails r i) = one g (record { rule = r; at = i }) (is_before (record { rule = r; at = i }) g) refl
best o (a also b) = both o (note_all o a) (note_all (note_all o a) b) a b (best o a) (best (note_all o a) b)

-- the first failure, or none, is the exact answer
pub checked : (fs : Failures) (r : Option Failure) (result : Result (Unit {0}) TypeFault) → r ≡ note_all None fs → result ≡ answer r → IsChecked fs result
checked fs r result first e = subst (IsChecked fs) (sym e) (by r (subst (IsBest None fs) (sym first) (best None fs)))
  where
    fits : (f : Failure) → FailsFirst fs f.rule f.at → (q : Rule) → f.rule ≡ q → FailsFirst fs q f.at
    fits f h q e = subst (λ (q : Rule). FailsFirst fs q f.at) e h

    told : (r : Rule) (i : ℕ) → FailsFirst fs r i → IsChecked fs (answer (Some (record { rule = r; at = i })))
    told Unknown i h = h
    told Twice i h = h
    told NotASet i h = h
    told NotSingle i h = h
    told SelfPartner i h = h
    told WrongCount i h = h
    told WrongKind i h = h

    by : (r : Option Failure) → IsBest None fs r → IsChecked fs (answer r)
    by None h = h.1
    by (Some f) h = told f.rule f.at (elim h.0 [ inl e ↦ cc | inr e ↦ e ], h.1)

-- where each failure is below n, the token of the fault is
pub told_below : (n : ℕ) (fs : Failures) (result : Result (Unit {0}) TypeFault) → ((r : Rule) (i : ℕ) → Fails fs r i → i < n) → IsChecked fs result → IfErr result (IsBelow n)
told_below n fs (Ok u) h c = tt
told_below n fs (Err (fault.Unknown i)) h c = h Unknown i c.0
told_below n fs (Err (fault.Twice i)) h c = h Twice i c.0
told_below n fs (Err (fault.NotASet i)) h c = h NotASet i c.0
told_below n fs (Err (fault.NotSingle i)) h c = h NotSingle i c.0
told_below n fs (Err (fault.SelfPartner i)) h c = h SelfPartner i c.0
told_below n fs (Err (fault.WrongCount i)) h c = h WrongCount i c.0
told_below n fs (Err (fault.WrongKind i)) h c = h WrongKind i c.0
told_below n fs (Err fault.NoMemory) h c = tt
