-- Calls one after another, with the numbers that are kept.
use Rattle.std.proofs.Common.{◌≡◌, ◌⊎◌, ℕ, List, [], ◌∷◌, ◌++◌, refl, sym, ap, ◌∙◌, subst, inl, inr}
use Rattle.std.specs.Prelude.{Result, Ok, Err, IfOk, IfErr}
use Rattle.brisk_values.specs.Names.{Name}
use Rattle.brisk_syntax.specs.declared.program.Program.{Program}
use Rattle.brisk_seq.specs.declared.tree.SeqProgram.{SeqProgram}
use Rattle.brisk_basic.specs.Outcomes.{and_then, told_as}
use Rattle.brisk_derivation.specs.declared.steps.Fact.{Fact}
use Rattle.brisk_derivation.specs.declared.steps.Step.{Step as Raw}
use Rattle.brisk_derivation.specs.declared.steps.Step.TheVariants as raw
use Rattle.brisk_derivation.specs.Seen.{step_of, steps_of}
use Rattle.brisk_derivation.specs.Steps.{Steps}
use Rattle.brisk_loops.specs.declared.fault.AcceptFault.{AcceptFault}
use Rattle.brisk_loops.specs.declared.fault.AcceptFault.TheVariants.{Bad, NoMemory}
use Rattle.brisk_rules.specs.declared.why.Why.{Why}
use Rattle.brisk_rules.specs.Derives.{Failure, outcome}
use Rattle.brisk_loops.specs.Walk.{Walked, Called, start, finish, Call, Enter, Other, Leave, made, calls, calls_of}
use Rattle.brisk_loops.specs.WalkKept.{kept, kept_failure, kept_call, kept_all}
use Rattle.brisk_loops.specs.WalkSeen.{Gives, Fails, Tells}
use Rattle.brisk_loops.proofs.Numbers.{kept_derives}

pub gives_kept : (call : Called) (v : Walked) → Gives call v → kept_call call ≡ Ok v
gives_kept call v g = ap kept_call g.1 ∙ ap Ok (sym g.2)

pub fails_kept : (call : Called) (f : AcceptFault) → Fails call f → Tells (kept_call call) f
fails_kept call (Bad at why) g = ap kept_call g.1 ∙ (λ i. Err record { line = sym g.2 i; why = why })
fails_kept call NoMemory g = tt

pub tells_with : {A : Type 0} (x y : Result A Failure) (f : AcceptFault) → x ≡ y → Tells y f → Tells x f
tells_with x y f e t = subst (λ z. Tells z f) (sym e) t

-- what fails goes on failing
pub tells_on : (x : Called) (go : Walked → Called) (f : AcceptFault) → Tells x f → Tells (and_then x go) f
tells_on x go (Bad at why) e = ap (λ (z : Called). and_then z go) e
tells_on x go NoMemory e = tt

thens : (cs ds : List Call) → ((w : Walked) → kept_all (cs ++ ds) w ≡ and_then (kept_all cs w) (kept_all ds)) → (x : Called) → and_then x (kept_all (cs ++ ds)) ≡ and_then (and_then x (kept_all cs)) (kept_all ds)
thens cs ds more (Ok v) = more v
thens cs ds more (Err f) = refl

pub kept_append : (cs ds : List Call) (w : Walked) → kept_all (cs ++ ds) w ≡ and_then (kept_all cs w) (kept_all ds)
kept_append [] ds w = refl
kept_append (c ∷ cs) ds w = thens cs ds (kept_append cs ds) (kept_call (made c w))

pub then_kept : (cs ds : List Call) (w v : Walked) → kept_all cs w ≡ Ok v → kept_all (cs ++ ds) w ≡ kept_all ds v
then_kept cs ds w v e = kept_append cs ds w ∙ ap (λ (z : Called). and_then z (kept_all ds)) e

pub then_tells : (cs ds : List Call) (w : Walked) (f : AcceptFault) → Tells (kept_all cs w) f → Tells (kept_all (cs ++ ds) w) f
then_tells cs ds w f e = tells_with _ _ f (kept_append cs ds w) (tells_on (kept_all cs w) (kept_all ds) f e)

-- one call, and then others
pub call_kept : (c : Call) (cs : List Call) (w v : Walked) → Gives (made c w) v → kept_all (c ∷ cs) w ≡ kept_all cs v
call_kept c cs w v g = ap (λ (z : Called). and_then z (kept_all cs)) (gives_kept (made c w) v g)

pub call_tells : (c : Call) (cs : List Call) (w : Walked) (f : AcceptFault) → Fails (made c w) f → Tells (kept_all (c ∷ cs) w) f
call_tells c cs w f g = tells_on (kept_call (made c w)) (kept_all cs) f (fails_kept (made c w) f g)

only : (x : Called) → and_then x (kept_all []) ≡ x
only (Ok v) = refl
only (Err f) = refl

-- what the last call answers
pub answers_ok : (r : Result (Unit {0}) AcceptFault) (call K : Called) (v : Walked) → K ≡ kept_call call → IfOk r (λ _. Gives call v) → IfOk r (λ _. K ≡ Ok v)
answers_ok (Ok u) call K v e g = e ∙ gives_kept call v g
answers_ok (Err f) call K v e g = tt

pub answers_err : (r : Result (Unit {0}) AcceptFault) (call K : Called) → K ≡ kept_call call → IfErr r (λ f. Fails call f) → IfErr r (λ f. Tells K f)
answers_err (Ok u) call K e g = tt
answers_err (Err f) call K e g = tells_with K (kept_call call) f e (fails_kept call f g)

-- a failure that is handed on
pub handed_on : {A : Type 0} (r : Result A AcceptFault) (f : AcceptFault) (Q : AcceptFault → Type 0) → r ≡ Err f → Q f → IfErr r Q
handed_on {A = A} r f Q e q = subst (λ (z : Result A AcceptFault). IfErr z Q) (sym e) q

-- a step with one premise
abbrev pub IsLoop : Raw → Steps → Type 0
IsLoop s p =
    ((t : Name) × (d : List Fact) × (s ≡ raw.While t d p)) ⊎ (((t : Name) × (ts : List Name) × (d : List Fact) × (s ≡ raw.For t ts d p))
    ⊎ (((t : Name) × (d : List Fact) × (s ≡ raw.Repeat t d p)) ⊎ (((t : Name) × (d : List Fact) × (s ≡ raw.Gather t d p)) ⊎ ((t : Name) × (d : List Fact) × (s ≡ raw.Pick t d p)))))

abbrev LoopCalls : Raw → Steps → Type 0
LoopCalls s p = calls (step_of s) ≡ Enter (step_of s) ∷ calls_of p ++ Leave ∷ []

loop_calls : (s : Raw) (p : Steps) → IsLoop s p → LoopCalls s p
loop_calls s p (inl x) = subst (λ (z : Raw). LoopCalls z p) (sym x.2) refl
loop_calls s p (inr (inl x)) = subst (λ (z : Raw). LoopCalls z p) (sym x.3) refl
loop_calls s p (inr (inr (inl x))) = subst (λ (z : Raw). LoopCalls z p) (sym x.2) refl
loop_calls s p (inr (inr (inr (inl x)))) = subst (λ (z : Raw). LoopCalls z p) (sym x.2) refl
loop_calls s p (inr (inr (inr (inr x)))) = subst (λ (z : Raw). LoopCalls z p) (sym x.2) refl

loop_entered : (s : Raw) (p : Steps) → IsLoop s p → (w v : Walked) → Gives (made (Enter (step_of s)) w) v → kept_all (calls (step_of s)) w ≡ kept_all (calls_of p ++ Leave ∷ []) v
loop_entered s p is w v g = ap (λ cs. kept_all cs w) (loop_calls s p is) ∙ call_kept (Enter (step_of s)) (calls_of p ++ Leave ∷ []) w v g

pub loop_tells : (s : Raw) (p : Steps) → IsLoop s p → (w v : Walked) (f : AcceptFault) → Gives (made (Enter (step_of s)) w) v → Tells (kept_all (calls_of p) v) f → Tells (kept_all (calls (step_of s)) w) f
loop_tells s p is w v f g t = tells_with _ _ f (loop_entered s p is w v g) (then_tells (calls_of p) (Leave ∷ []) v f t)

pub loop_leaves : (s : Raw) (p : Steps) → IsLoop s p → (w v u : Walked) → Gives (made (Enter (step_of s)) w) v → kept_all (calls_of p) v ≡ Ok u → kept_all (calls (step_of s)) w ≡ kept_call (made Leave u)
loop_leaves s p is w v u g e = loop_entered s p is w v g ∙ then_kept (calls_of p) (Leave ∷ []) v u e ∙ only (kept_call (made Leave u))

-- a branch
abbrev BranchCalls : Raw → Steps → Steps → Type 0
BranchCalls s a b = calls (step_of s) ≡ Enter (step_of s) ∷ calls_of a ++ (Other ∷ calls_of b ++ Leave ∷ [])

branch_entered : (s : Raw) (t : Name) (a b : Steps) → s ≡ raw.Branch t a b → (w v : Walked) → Gives (made (Enter (step_of s)) w) v → kept_all (calls (step_of s)) w ≡ kept_all (calls_of a ++ (Other ∷ calls_of b ++ Leave ∷ [])) v
branch_entered s t a b is w v g =
    ap (λ cs. kept_all cs w) (subst (λ (z : Raw). BranchCalls z a b) (sym is) refl) ∙ call_kept (Enter (step_of s)) (calls_of a ++ (Other ∷ calls_of b ++ Leave ∷ [])) w v g

pub branch_tells : (s : Raw) (t : Name) (a b : Steps) → s ≡ raw.Branch t a b → (w v : Walked) (f : AcceptFault) → Gives (made (Enter (step_of s)) w) v → Tells (kept_all (calls_of a) v) f → Tells (kept_all (calls (step_of s)) w) f
branch_tells s t a b is w v f g h = tells_with _ _ f (branch_entered s t a b is w v g) (then_tells (calls_of a) (Other ∷ calls_of b ++ Leave ∷ []) v f h)

branch_passed : (s : Raw) (t : Name) (a b : Steps) → s ≡ raw.Branch t a b → (w v u x : Walked) → Gives (made (Enter (step_of s)) w) v → kept_all (calls_of a) v ≡ Ok u → Gives (made Other u) x →
    kept_all (calls (step_of s)) w ≡ kept_all (calls_of b ++ Leave ∷ []) x
branch_passed s t a b is w v u x g e h = branch_entered s t a b is w v g ∙ then_kept (calls_of a) (Other ∷ calls_of b ++ Leave ∷ []) v u e ∙ call_kept Other (calls_of b ++ Leave ∷ []) u x h

pub branch_second_tells : (s : Raw) (t : Name) (a b : Steps) → s ≡ raw.Branch t a b → (w v u x : Walked) (f : AcceptFault) → Gives (made (Enter (step_of s)) w) v → kept_all (calls_of a) v ≡ Ok u → Gives (made Other u) x →
    Tells (kept_all (calls_of b) x) f → Tells (kept_all (calls (step_of s)) w) f
branch_second_tells s t a b is w v u x f g e h k = tells_with _ _ f (branch_passed s t a b is w v u x g e h) (then_tells (calls_of b) (Leave ∷ []) x f k)

pub branch_leaves : (s : Raw) (t : Name) (a b : Steps) → s ≡ raw.Branch t a b → (w v u x y : Walked) → Gives (made (Enter (step_of s)) w) v → kept_all (calls_of a) v ≡ Ok u → Gives (made Other u) x →
    kept_all (calls_of b) x ≡ Ok y → kept_all (calls (step_of s)) w ≡ kept_call (made Leave y)
branch_leaves s t a b is w v u x y g e h k = branch_passed s t a b is w v u x g e h ∙ then_kept (calls_of b) (Leave ∷ []) x y k ∙ only (kept_call (made Leave y))

-- what a derivation gives, from what its calls give
failed : (x : Result SeqProgram Failure) (at : ℕ) (why : Why) → told_as kept_failure x ≡ Err record { line = at; why = why } → (k : ℕ) × (x ≡ Err record { line = k; why = why }) × (at ≡ kept k)
failed (Ok q) at why h = cc
failed (Err g) at why h = let k : kept_failure g ≡ record { line = at; why = why } = cc in (g.line, (λ i. Err record { line = g.line; why = (k i).why }), sym (ap (λ (z : Failure). z.line) k))

gave : (x : Result SeqProgram Failure) (q : SeqProgram) → told_as kept_failure x ≡ Ok q → x ≡ Ok q
gave (Ok p) q h = cc
gave (Err g) q h = cc

pub outcome_fails : (P : Program) (D : Steps) (f : AcceptFault) → Tells (kept_all (calls_of D) (start P)) f → Fails (outcome P D) f
outcome_fails P D NoMemory e = tt
outcome_fails P D (Bad at why) e = failed (outcome P D) at why (sym (kept_derives P D) ∙ ap (λ (x : Called). and_then x (λ w. told_as kept_failure (finish w))) e)

told_finish : (P : Program) (D : Steps) (w : Walked) → kept_all (calls_of D) (start P) ≡ Ok w → told_as kept_failure (outcome P D) ≡ told_as kept_failure (finish w)
told_finish P D w e = sym (kept_derives P D) ∙ ap (λ (x : Called). and_then x (λ w. told_as kept_failure (finish w))) e

pub outcome_gives : (P : Program) (D : Steps) (w : Walked) (r : Result SeqProgram AcceptFault) → kept_all (calls_of D) (start P) ≡ Ok w → IfOk r (λ q. finish w ≡ Ok q) → IfOk r (λ q. outcome P D ≡ Ok q)
outcome_gives P D w (Ok q) e h = gave (outcome P D) q (told_finish P D w e ∙ ap (told_as kept_failure) h)
outcome_gives P D w (Err f) e h = tt

pub outcome_refuses : (P : Program) (D : Steps) (w : Walked) (r : Result SeqProgram AcceptFault) → kept_all (calls_of D) (start P) ≡ Ok w → IfErr r (λ f. Fails (finish w) f) → IfErr r (λ f. Fails (outcome P D) f)
outcome_refuses P D w (Ok q) e h = tt
outcome_refuses P D w (Err NoMemory) e h = tt
outcome_refuses P D w (Err (Bad at why)) e h =
    let x = failed (outcome P D) (kept h.0) why (told_finish P D w e ∙ ap (told_as kept_failure) h.1) in (x.0, x.1, h.2 ∙ x.2)

-- a step, and then the steps after it
pub steps_go : (s : Raw) (ss : List Raw) (w v : Walked) → kept_all (calls (step_of s)) w ≡ Ok v → kept_all (calls_of (steps_of (s ∷ ss))) w ≡ kept_all (calls_of (steps_of ss)) v
steps_go s ss w v e = then_kept (calls (step_of s)) (calls_of (steps_of ss)) w v e

pub steps_tell : (s : Raw) (ss : List Raw) (w : Walked) (f : AcceptFault) → Tells (kept_all (calls (step_of s)) w) f → Tells (kept_all (calls_of (steps_of (s ∷ ss))) w) f
steps_tell s ss w f e = then_tells (calls (step_of s)) (calls_of (steps_of ss)) w f e
