-- What holds of each item of a list, and items of two lists that go together in order.
use Rattle.std.proofs.Common.{◌≡◌, ℕ, zero, suc, ◌+◌, ◌≤◌, ◌<◌, true, false, List, [], ◌∷◌, ◌++◌, map, flat_map, refl, arith, subst, nat_eq}
use Rattle.std.specs.List.{AllByRecursion, range_with_len}
use Rattle.std.proofs.lemmas.Bool.{eqb-false, eqb-true}
use Rattle.brisk_values.specs.declared.value.Pid.{Pid}
use Rattle.brisk_values.specs.Names.{Name, member}
use Rattle.brisk_instance.specs.Given.{members}
use Rattle.brisk_instance.specs.Ordered.{Pairwise}

-- what follows from two things at each item
pub all_meet : {A : Type 0} (P Q R : A → Type 0) → ((x : A) → P x → Q x → R x) → (xs : List A) → AllByRecursion P xs → AllByRecursion Q xs → AllByRecursion R xs
all_meet P Q R step [] h k = tt
all_meet P Q R step (x ∷ xs) h k = (step x h.0 k.0, all_meet P Q R step xs h.1 k.1)

-- what follows from one thing at each item
pub all_weaken : {A : Type 0} (P Q : A → Type 0) → ((x : A) → P x → Q x) → (xs : List A) → AllByRecursion P xs → AllByRecursion Q xs
all_weaken P Q step [] h = tt
all_weaken P Q step (x ∷ xs) h = (step x h.0, all_weaken P Q step xs h.1)

module _ {A : Type 0} (P : A → Type 0) where
  pub all_append : (xs ys : List A) → AllByRecursion P xs → AllByRecursion P ys → AllByRecursion P (xs ++ ys)
  all_append [] ys h k = k
  all_append (x ∷ xs) ys h k = (h.0, all_append xs ys h.1 k)

  all_before : (xs ys : List A) → AllByRecursion P (xs ++ ys) → AllByRecursion P xs
  all_before [] ys h = tt
  all_before (x ∷ xs) ys h = (h.0, all_before xs ys h.1)

  all_behind : (xs ys : List A) → AllByRecursion P (xs ++ ys) → AllByRecursion P ys
  all_behind [] ys h = h
  all_behind (x ∷ xs) ys h = all_behind xs ys h.1

  module _ {X : Type 0} (f : X → List A) where
    -- of each item of each part
    pub all_flat : (xs : List X) → AllByRecursion (λ x. AllByRecursion P (f x)) xs → AllByRecursion P (flat_map f xs)
    all_flat [] h = tt
    all_flat (x ∷ xs) h = all_append (f x) (flat_map f xs) h.0 (all_flat xs h.1)

    pub each_of_flat : (xs : List X) → AllByRecursion P (flat_map f xs) → AllByRecursion (λ x. AllByRecursion P (f x)) xs
    each_of_flat [] h = tt
    each_of_flat (x ∷ xs) h = (all_before (f x) (flat_map f xs) h, each_of_flat xs (all_behind (f x) (flat_map f xs) h))

module _ (P : Pid → Type 0) (n : Name) where
  -- of each member from one on
  pub members_from : (from count : ℕ) → ((k : ℕ) → from ≤ k → k < from + count → P (member n k)) → AllByRecursion P (map (member n) (range_with_len from count))
  members_from from zero h = tt
  members_from from (suc count) h = (h from (omega arith) (omega arith), members_from (from + 1) count (λ k low high. h k (omega arith) (omega arith)))

  member_from : (from count : ℕ) → AllByRecursion P (map (member n) (range_with_len from count)) → (k : ℕ) → from ≤ k → k < from + count → P (member n k)
  member_from from zero h k low high = absurd (omega arith)
  member_from from (suc count) h k low high =
      elim (nat_eq from k) as (λ b. nat_eq from k ≡ b → P (member n k)) [
        | true ↦ λ e. subst (λ (j : ℕ). P (member n j)) (eqb-true from k e) h.0
        | false ↦ λ e. let apart = eqb-false from k e in member_from (from + 1) count h.1 k (omega arith) (omega arith)
      ] refl

  -- of each member below the number of them
  pub all_members : (count : ℕ) → ((k : ℕ) → k < count → P (member n k)) → AllByRecursion P (members n count)
  all_members count h = members_from 0 count (λ k low high. h k (omega arith))

  pub each_member : (count : ℕ) → AllByRecursion P (members n count) → (k : ℕ) → k < count → P (member n k)
  each_member count h k less = member_from 0 count h k (omega arith) (omega arith)

-- what goes together in order has the same keys
pub same_keys : {A B C : Type 0} (R : A → B → Type 0) (f : A → C) (g : B → C) → ((x : A) (y : B) → R x y → g y ≡ f x) → (xs : List A) (ys : List B) → Pairwise R xs ys → map g ys ≡ map f xs
same_keys R f g step [] [] h = refl
same_keys R f g step [] (y ∷ ys) h = absurd h
same_keys R f g step (x ∷ xs) [] h = absurd h
same_keys R f g step (x ∷ xs) (y ∷ ys) h = λ i. step x y h.0 i ∷ same_keys R f g step xs ys h.1 i

-- what has the same keys goes together in order, where something holds on both sides
pub pairs_of : {A B C : Type 0} (P : A → Type 0) (Q : B → Type 0) (R : A → B → Type 0) (f : A → C) (g : B → C) → ((x : A) (y : B) → g y ≡ f x → P x → Q y → R x y) →
    (xs : List A) (ys : List B) → map g ys ≡ map f xs → AllByRecursion P xs → AllByRecursion Q ys → Pairwise R xs ys
pairs_of P Q R f g step [] [] e h k = tt
pairs_of P Q R f g step [] (y ∷ ys) e h k = cc
pairs_of P Q R f g step (x ∷ xs) [] e h k = cc
pairs_of P Q R f g step (x ∷ xs) (y ∷ ys) e h k = (step x y (cc) h.0 k.0, pairs_of P Q R f g step xs ys (cc) h.1 k.1)

-- what holds of each item on the one side goes over to the other
pub over_pairs : {A B : Type 0} (P : A → Type 0) (Q : B → Type 0) (R : A → B → Type 0) → ((x : A) (y : B) → R x y → Q y → P x) → (xs : List A) (ys : List B) → Pairwise R xs ys → AllByRecursion Q ys → AllByRecursion P xs
over_pairs P Q R step [] [] h k = tt
over_pairs P Q R step [] (y ∷ ys) h k = absurd h
over_pairs P Q R step (x ∷ xs) [] h k = absurd h
over_pairs P Q R step (x ∷ xs) (y ∷ ys) h k = (step x y h.0 k.0, over_pairs P Q R step xs ys h.1 k.1)
