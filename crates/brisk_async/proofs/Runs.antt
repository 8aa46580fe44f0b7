-- Runs of lists of events.
use Rattle.std.proofs.Common.{◌≡◌, [], ◌∷◌, ◌++◌, List, Option, Some, None, refl, sym, ap, ◌∙◌}
use Rattle.std.specs.Prelude.{option_map, option_and_then}
use Rattle.std.proofs.lemmas.Option.{same_Some}
use Rattle.brisk_async.specs.declared.event.Event.{Event}
use Rattle.brisk_async.specs.Laws.{RunAppends}
use Rattle.brisk_async.specs.Machine.{State, run, step}

pub run-append : RunAppends
run-append s [] ys = refl
run-append s (e ∷ xs) ys =
    elim (step s e) as (λ o. option_and_then (λ t. run t (xs ++ ys)) o ≡ option_and_then (λ t. run t ys) (option_and_then (λ t. run t xs) o))
    [ None ↦ refl | Some t ↦ run-append t xs ys ]

-- a schedule goes on from where its beginning leads
pub run_on : (s t : State) (xs ys : List Event) → run s xs ≡ Some t → run s (xs ++ ys) ≡ run t ys
run_on s t xs ys h = run-append s xs ys ∙ ap (option_and_then (λ z. run z ys)) h

-- what is the image of a value, or leads from one to a value, is there
pub mapped : {A B : Type 0} (f : A → B) (o : Option A) (t : B) → option_map f o ≡ Some t → (x : A) × (o ≡ Some x) × (f x ≡ t)
mapped f None t e = cc
mapped f (Some x) t e = (x, refl, same_Some (f x) t e)

pub bound : {A B : Type 0} (f : A → Option B) (o : Option A) (y : B) → option_and_then f o ≡ Some y → (x : A) × (o ≡ Some x) × (f x ≡ Some y)
bound f None y h = cc
bound f (Some x) y h = (x, refl, h)

-- a schedule in two parts passes through a state
pub split_run : (s z : State) (xs ys : List Event) → run s (xs ++ ys) ≡ Some z → (t : State) × (run s xs ≡ Some t) × (run t ys ≡ Some z)
split_run s z xs ys r = bound (λ t. run t ys) (run s xs) z (sym (run-append s xs ys) ∙ r)
