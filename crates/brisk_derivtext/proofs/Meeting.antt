-- A compound step that is met again, in the vector of those that were met.
use Rattle.std.proofs.Common.{◌≡◌, ◌+◌, ◌<◌, ℕ, true, List, [], ◌∷◌, ◌++◌, drop, take, get_or, length, map, suc, refl, sym, ap, ◌∙◌, drop-cons, slice_set}
use Rattle.std.proofs.lemmas.List.{map-append, set_split}
use Rattle.std.specs.Prelude.{if◌then◌else◌}
use Rattle.brisk_derivation.specs.Seen.{step_of}
use Rattle.brisk_derivation.specs.Steps.{Step}
use Rattle.brisk_derivtext.specs.declared.sharing.Met as kept
use Rattle.brisk_derivtext.specs.Alike.{same_step}
use Rattle.brisk_derivtext.specs.Shared.{Met, meet}
use Rattle.brisk_derivtext.specs.SharedKept.{met_of}

pub met_here : (xs : List kept.Met) (i : ℕ) (x : kept.Met) (s : Step) (whole : List Met) → i < length xs → get_or xs i x ≡ x → same_step (step_of x.step.now) s ≡ true → map met_of (take i xs) ++ meet (map met_of (drop i xs)) s ≡ whole → map met_of (slice_set xs i (record { step = x.step; again = true })) ≡ whole
met_here xs i x s whole lt e same h =
    let y : kept.Met = record { step = x.step; again = true } in
    let here : drop i xs ≡ x ∷ drop (suc i) xs = drop-cons xs i x lt ∙ ap (λ z. z ∷ drop (suc i) xs) e in
    ap (map met_of) (set_split xs i y lt)
    ∙ map-append met_of (take i xs) (y ∷ drop (suc i) xs)
    ∙ ap (λ z. map met_of (take i xs) ++ (if z then met_of y ∷ map met_of (drop (suc i) xs) else met_of x ∷ meet (map met_of (drop (suc i) xs)) s)) (sym same)
    ∙ ap (λ z. map met_of (take i xs) ++ meet (map met_of z) s) (sym here)
    ∙ h

-- what is read at an index is one
pub one_there : (xs : List kept.Met) (i : ℕ) (x y : kept.Met) → i < length xs → x ≡ get_or xs i x → y ≡ get_or xs i y → x ≡ y
one_there xs i x y lt e f =
    let k : x ∷ drop (suc i) xs ≡ y ∷ drop (suc i) xs = ap (λ z. z ∷ drop (suc i) xs) e ∙ sym (drop-cons xs i x lt) ∙ drop-cons xs i y lt ∙ ap (λ z. z ∷ drop (suc i) xs) (sym f) in
    cc
