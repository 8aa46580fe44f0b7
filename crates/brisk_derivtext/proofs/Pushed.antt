-- Steps pushed behind others.
use Rattle.std.proofs.Common.{◌≡◌, List, [], ◌∷◌, ◌++◌, refl, sym, ap, ◌∙◌}
use Rattle.brisk_derivation.specs.declared.steps.Step as kept
use Rattle.brisk_derivation.specs.Seen.{step_of, steps_of}
use Rattle.brisk_derivation.specs.Steps.{Steps, no_steps, ◌▷◌}
use Rattle.brisk_derivtext.specs.Reading.{◌then◌}
use Rattle.brisk_derivtext.proofs.Putting.{then_assoc}

pub steps_pushed : (xs : List kept.Step) (s : kept.Step) → steps_of (xs ++ s ∷ []) ≡ steps_of xs then (step_of s ▷ no_steps)
steps_pushed [] s = refl
steps_pushed (x ∷ xs) s = ap (λ z. step_of x ▷ z) (steps_pushed xs s)

-- a step, pushed before those that are left
pub step_copied : (xs ys rest ss : List kept.Step) (s x : kept.Step) (whole : Steps) → ys ≡ xs ++ s ∷ [] → step_of s ≡ step_of x → ss ≡ x ∷ rest → steps_of xs then steps_of ss ≡ whole → steps_of ys then steps_of rest ≡ whole
step_copied xs ys rest ss s x whole p e d h =
    ap (λ z. steps_of z then steps_of rest) p
    ∙ ap (λ z. z then steps_of rest) (steps_pushed xs s)
    ∙ then_assoc (steps_of xs) (step_of s ▷ no_steps) (steps_of rest)
    ∙ ap (λ z. steps_of xs then (z ▷ steps_of rest)) e
    ∙ ap (λ z. steps_of xs then steps_of z) (sym d)
    ∙ h
