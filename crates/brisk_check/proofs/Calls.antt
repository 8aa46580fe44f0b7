-- The calls of the lines of steps do what the calls of the steps do.
use Rattle.std.proofs.Common.{◌≡◌, List, [], ◌∷◌, ◌++◌, map, Option, Some, None, refl, sym, ap, ◌∙◌, append_assoc}
use Rattle.std.specs.Prelude.{Ok, Err}
use Rattle.std.proofs.lemmas.List.{map-append}
use Rattle.brisk_basic.specs.Outcomes.{and_then}
use Rattle.brisk_syntax.specs.declared.program.Program.{Program}
use Rattle.brisk_derivation.specs.Steps.{Step, Basic, Branch, While, For, Repeat, Gather, Pick, Steps, no_steps, ◌▷◌}
use Rattle.brisk_rules.specs.Derives.{Failure, outcome}
use Rattle.brisk_loops.specs.Walk.{Walked, Called, Call, Enter, Apply, Other, Leave, alone, made, made_all, calls, calls_of, start, finish}
use Rattle.brisk_loops.specs.WalkKept.{kept_call, kept_all}
use Rattle.brisk_loops.proofs.Walking.{walk_derives}
use Rattle.brisk_derivtext.specs.declared.line.Line.{Line}
use Rattle.brisk_derivtext.specs.declared.line.Line.TheVariants as line
use Rattle.brisk_derivtext.specs.Texts.{lines_in, lines_of}
use Rattle.brisk_check.specs.Checking.{calls_at, calls_in, called, Walking, after_call, after_calls, gone, walk_ends}

pub calls_append : (xs ys : List Line) → calls_in (xs ++ ys) ≡ calls_in xs ++ calls_in ys
calls_append [] ys = refl
calls_append (x ∷ xs) ys = ap (λ z. calls_at x ++ z) (calls_append xs ys) ∙ sym (append_assoc (calls_at x) (calls_in xs) (calls_in ys))

pub after_append : (cs ds : List Call) (w : Walking) → after_calls (cs ++ ds) w ≡ after_calls ds (after_calls cs w)
after_append [] ds w = refl
after_append (c ∷ cs) ds w = after_append cs ds (after_call c w.walked w.failure)

-- the call without own steps
abbrev bare : Call → Call
bare (Enter A) = Enter (alone A)
bare (Apply b) = Apply b
bare Other = Other
bare Leave = Leave

bare_made : (c : Call) (w : Walked) → made (bare c) w ≡ made c w
bare_made (Apply b) w = refl
bare_made Other w = refl
bare_made Leave w = refl
bare_made (Enter (Basic b)) w = refl
bare_made (Enter (Branch t a b)) w = refl
bare_made (Enter (While t F a)) w = refl
bare_made (Enter (For s ts F a)) w = refl
bare_made (Enter (Repeat t F a)) w = refl
bare_made (Enter (Gather t F a)) w = refl
bare_made (Enter (Pick t F a)) w = refl

thens : (cs : List Call) → ((w : Walked) → made_all (map bare cs) w ≡ made_all cs w) → (r : Called) → and_then r (made_all (map bare cs)) ≡ and_then r (made_all cs)
thens cs more (Ok v) = more v
thens cs more (Err f) = refl

all_bare : (cs : List Call) (w : Walked) → made_all (map bare cs) w ≡ made_all cs w
all_bare [] w = refl
all_bare (c ∷ cs) w = ap (λ (r : Called). and_then r (made_all (map bare cs))) (bare_made c w) ∙ thens cs (all_bare cs) (made c w)

kept_thens : (cs : List Call) → ((w : Walked) → kept_all (map bare cs) w ≡ kept_all cs w) → (r : Called) → and_then r (kept_all (map bare cs)) ≡ and_then r (kept_all cs)
kept_thens cs more (Ok v) = more v
kept_thens cs more (Err f) = refl

all_bare_kept : (cs : List Call) (w : Walked) → kept_all (map bare cs) w ≡ kept_all cs w
all_bare_kept [] w = refl
all_bare_kept (c ∷ cs) w = ap (λ (r : Called). and_then (kept_call r) (kept_all (map bare cs))) (bare_made c w) ∙ kept_thens cs (all_bare_kept cs) (kept_call (made c w))

-- the calls of a premise and of the line behind it
closing : (ls : List Line) (l : Line) (cs : List Call) (d : Call) → calls_at l ≡ d ∷ [] → bare d ≡ d → calls_in ls ≡ map bare cs → calls_in (ls ++ l ∷ []) ≡ map bare (cs ++ d ∷ [])
closing ls l cs d e f h =
    calls_append ls (l ∷ []) ∙ ap (λ z. z ++ (calls_at l ++ [])) h ∙ ap (λ z. map bare cs ++ (z ++ [])) e ∙ ap (λ z. map bare cs ++ z ∷ []) (sym f) ∙ sym (map-append bare cs (d ∷ []))

mutual
  step_calls : (s : Step) → calls_in (lines_in s) ≡ map bare (calls s)
  step_calls (Basic b) = refl
  step_calls (While t F a) = ap (λ z. Enter (While t F no_steps) ∷ z) (closing (lines_of a) line.Close (calls_of a) Leave refl refl (steps_calls a))
  step_calls (For s ts F a) = ap (λ z. Enter (For s ts F no_steps) ∷ z) (closing (lines_of a) line.Close (calls_of a) Leave refl refl (steps_calls a))
  step_calls (Repeat t F a) = ap (λ z. Enter (Repeat t F no_steps) ∷ z) (closing (lines_of a) line.Close (calls_of a) Leave refl refl (steps_calls a))
  step_calls (Gather t F a) = ap (λ z. Enter (Gather t F no_steps) ∷ z) (closing (lines_of a) line.Close (calls_of a) Leave refl refl (steps_calls a))
  step_calls (Pick t F a) = ap (λ z. Enter (Pick t F no_steps) ∷ z) (closing (lines_of a) line.Close (calls_of a) Leave refl refl (steps_calls a))
  step_calls (Branch t a b) =
      ap (λ z. Enter (Branch t no_steps no_steps) ∷ z)
      (calls_append (lines_of a) (line.Else ∷ (lines_of b ++ line.Join ∷ []))
      ∙ ap (λ z. z ++ (Other ∷ calls_in (lines_of b ++ line.Join ∷ []))) (steps_calls a)
      ∙ ap (λ z. map bare (calls_of a) ++ (Other ∷ z)) (closing (lines_of b) line.Join (calls_of b) Leave refl refl (steps_calls b))
      ∙ sym (map-append bare (calls_of a) (Other ∷ (calls_of b ++ Leave ∷ []))))

  steps_calls : (a : Steps) → calls_in (lines_of a) ≡ map bare (calls_of a)
  steps_calls no_steps = refl
  steps_calls (s ▷ a) =
      calls_append (lines_in s) (lines_of a)
      ∙ ap (λ z. z ++ calls_in (lines_of a)) (step_calls s)
      ∙ ap (λ z. map bare (calls s) ++ z) (steps_calls a)
      ∙ sym (map-append bare (calls s) (calls_of a))

-- the same with the numbers that are kept
pub lines_kept : (a : Steps) (w : Walked) → kept_all (calls_in (lines_of a)) w ≡ kept_all (calls_of a) w
lines_kept a w = ap (λ z. kept_all z w) (steps_calls a) ∙ all_bare_kept (calls_of a) w

-- ---- the walk's end

call_so : (c : Call) (w : Walked) (r : Called) → called (gone w r).walked (gone w r).failure ≡ r
call_so c w (Ok v) = refl
call_so c w (Err f) = refl

pub calls_so : (cs : List Call) (w : Walked) (o : Option Failure) → called (after_calls cs (record { walked = w; failure = o })).walked (after_calls cs (record { walked = w; failure = o })).failure ≡ and_then (called w o) (made_all cs)
calls_so [] w None = refl
calls_so [] w (Some f) = refl
calls_so (c ∷ cs) w None =
    let v = gone w (made c w) in
    calls_so cs v.walked v.failure ∙ ap (λ (r : Called). and_then r (made_all cs)) (call_so c w (made c w))
calls_so (c ∷ cs) w (Some f) = calls_so cs w (Some f)

pub ends_so : (w : Walked) (o : Option Failure) → walk_ends w o ≡ and_then (called w o) finish
ends_so w None = refl
ends_so w (Some f) = refl

-- the calls of the lines of a derivation come to what it gives
pub walk_gives : (P : Program) (D : Steps) (w : Walking) → w ≡ after_calls (calls_in (lines_of D)) (record { walked = start P; failure = None }) → walk_ends w.walked w.failure ≡ outcome P D
walk_gives P D w e =
    let cs = calls_in (lines_of D) in
    ap (λ (z : Walking). walk_ends z.walked z.failure) e
    ∙ ends_so (after_calls (calls_in (lines_of D)) (record { walked = start P; failure = None })).walked (after_calls (calls_in (lines_of D)) (record { walked = start P; failure = None })).failure
    ∙ ap (λ (z : Called). and_then z finish) (calls_so cs (start P) None)
    ∙ ap (λ z. and_then (made_all z (start P)) finish) (steps_calls D)
    ∙ ap (λ (z : Called). and_then z finish) (all_bare (calls_of D) (start P))
    ∙ walk_derives P D
