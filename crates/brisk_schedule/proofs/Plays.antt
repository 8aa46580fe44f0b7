-- Events taken one after another.
use Rattle.std.proofs.Common.{◌≡◌, ℕ, ◌+◌, ◌<◌, List, [], ◌∷◌, ◌++◌, length, take, drop, get_or, Option, Some, None, inl, inr, sym, ap, ◌∙◌}
use Rattle.std.specs.Prelude.{option_and_then, option_map, ◌⊎◌}
use Rattle.std.proofs.Math.Numerals.{add-one}
use Rattle.std.proofs.Math.Seq.{take-suc}
use Rattle.std.proofs.lemmas.List.{at_drop_more, take-append-drop}
use Rattle.brisk_async.specs.declared.event.Event.{Event}
use Rattle.brisk_async.specs.declared.fault.StepFault.{StepFault}
use Rattle.brisk_async.specs.declared.fault.StepFault.TheVariants.{NoMemory}
use Rattle.brisk_async.specs.Refusals.{refusal}
use Rattle.brisk_syntax.specs.declared.program.Program.{Program}
use Rattle.brisk_async.specs.Machine.{Effect, State, after, effect_in, run, step}
use Rattle.brisk_async.proofs.Runs.{run-append}

-- one more event is taken
pub one_more : (s t u : State) (es : List Event) (i : ℕ) (e : Event) → i < length es → run s (take i es) ≡ Some t → e ≡ get_or es i e → step t e ≡ Some u → run s (take (i + 1) es) ≡ Some u
one_more s t u es i e less so_far there next =
    ap (λ n. run s (take n es)) (add-one i)
    ∙ ap (run s) (take-suc es i e less)
    ∙ run-append s (take i es) (get_or es i e ∷ [])
    ∙ ap (option_and_then (λ r. run r (get_or es i e ∷ []))) so_far
    ∙ ap (option_and_then (λ r. run r [])) (ap (step t) (sym there) ∙ next)

-- the events before one, itself, and those behind it
pub parts : (es : List Event) (i : ℕ) (e : Event) → i < length es → e ≡ get_or es i e → es ≡ take i es ++ e ∷ drop (i + 1) es
parts es i e less there =
    sym (take-append-drop i es)
    ∙ ap (λ xs. take i es ++ xs) (at_drop_more (λ (xs : List Event). xs) es i e less ∙ ap (λ x. x ∷ drop (i + 1) es) (sym there))

-- want of memory aside, a refused event has no next state, for the reason that is told
pub reason : (s : State) (e : Event) (why : StepFault) → (why ≡ NoMemory → ⊥) → ((refusal s e ≡ Some why) × (step s e ≡ None)) ⊎ ((why ≡ NoMemory) × (refusal s e ≡ None)) → (step s e ≡ None) × (refusal s e ≡ Some why)
reason s e why other (inl h) = (h.1, h.0)
reason s e why other (inr h) = absurd (other h.0)

-- an event changes no program
pub program_kept : (s t : State) (e : Event) → step s e ≡ Some t → t.program ≡ s.program
program_kept s t e h = by_effect (effect_in s e) h
  where
    program_of : Option State → Program
    program_of None = s.program
    program_of (Some u) = u.program

    by_effect : (o : Option Effect) → option_map (after s e.process) o ≡ Some t → t.program ≡ s.program
    by_effect None g = cc
    by_effect (Some x) g = ap program_of (sym g)
