-- Threads of different names, gone through in order.
use Rattle.std.proofs.Common.{◌≡◌, ℕ, ◌+◌, ◌≤◌, ◌<◌, Bool, true, false, Some, None, List, [], ◌∷◌, ◌++◌, drop, length, map, refl, sym, ap, ◌∙◌, arith}
use Rattle.std.proofs.Math.ListN.{get_or}
use Rattle.std.proofs.Math.Seq.{append_snoc}
use Rattle.std.proofs.lemmas.List.{append-nil, at_drop_all, at_drop_more}
use Rattle.std.specs.Prelude.{◌&&◌, ◌||◌, not, filter, fold, is_some, sum_by, if◌then◌else◌}
use Rattle.std.specs.List.{AllByRecursion}
use Rattle.std.proofs.lemmas.Bool.{not-true}
use Rattle.brisk_values.specs.Names.{Name, same_name}
use Rattle.brisk_values.proofs.Changes.{both_true, name_laws}
use Rattle.brisk_syntax.specs.Counts.{statements}
use Rattle.brisk_syntax.specs.Syntax.{done}
use Rattle.brisk_syntax.specs.Typing.{are_distinct, is_among}
use Rattle.brisk_state.specs.declared.thread.Thread.{Thread}
use Rattle.brisk_state.specs.Places.{names}
use Rattle.brisk_state.specs.Same.{same_code}
use Rattle.brisk_state.specs.Symbolic.{Symbolic, active_code, is_active, thread_named}
use Rattle.brisk_rules.specs.Heads.{for_of}
use Rattle.brisk_rules.specs.Rules.{code_in}
use Rattle.brisk_rules.specs.Standing.{has_code, is_movable, resting, stands_at, thread_names}
use Rattle.brisk_search.specs.Advance.{threads_at}
use Rattle.brisk_search.specs.Drives.{others}

-- each of these is found by its name
abbrev pub AreFound : List Thread → List Thread → Type 0
AreFound all ts = AllByRecursion (λ u. thread_named all u.name ≡ Some u) ts

later_found : (u : Thread) (all ts : List Thread) → is_among (names ts) u.name ≡ false → AreFound all ts → AreFound (u ∷ all) ts
later_found u all [] a f = tt
later_found u all (t ∷ ts) a f =
    let e = neither_of (same_name u.name t.name) (is_among (names ts) u.name) a in
    (ap (λ b. if b then Some u else thread_named all t.name) (name_laws.symm t.name u.name ∙ e.0) ∙ f.0, later_found u all ts e.1 f.1)
  where
    neither_of : (a b : Bool) → (a || b) ≡ false → (a ≡ false) × (b ≡ false)
    neither_of true b e = cc
    neither_of false b e = (refl, e)

pub are_found : (ts : List Thread) → are_distinct (names ts) ≡ true → AreFound ts ts
are_found [] d = tt
are_found (u ∷ us) d =
    let e = both_true (not (is_among (names us) u.name)) (are_distinct (names us)) d in
    (ap (λ b. if b then Some u else thread_named us u.name) (name_laws.refl u.name), later_found u us us (not-true (is_among (names us) u.name) e.0) (are_found us e.1))

-- rules move a thread by its mode
moves_by : (u : Thread) → is_some (active_code (Some u)) ≡ is_active u.mode
moves_by u = by (is_active u.mode)
  where
    by : (b : Bool) → is_some (if b then Some u.code else None) ≡ b
    by true = refl
    by false = refl

-- the names of those that pass a test
abbrev pub passing : (Thread → Bool) → List Thread → List Name
passing p ts = map (λ u. u.name) (filter p ts)

module _ (S : Symbolic) where
  -- a filter of names, by a test on threads
  passed : (p : Thread → Bool) (q : Name → Bool) (ts : List Thread) → AreFound S.threads ts → ((u : Thread) → thread_named S.threads u.name ≡ Some u → q u.name ≡ p u) → filter q (names ts) ≡ passing p ts
  passed p q [] f e = refl
  passed p q (u ∷ us) f e = by (passed p q us f.1 e) (p u) (e u f.0)
    where
      by : filter q (names us) ≡ passing p us → (b : Bool) → q u.name ≡ b → filter q (names (u ∷ us)) ≡ map (λ (v : Thread). v.name) (if b then u ∷ filter p us else filter p us)
      by more true h = ap (λ b. if b then u.name ∷ filter q (names us) else filter q (names us)) h ∙ ap (λ ns. u.name ∷ ns) more
      by more false h = ap (λ b. if b then u.name ∷ filter q (names us) else filter q (names us)) h ∙ more

  twice : {A : Type 0} (p q : A → Bool) (xs : List A) → filter p (filter q xs) ≡ filter (λ x. q x && p x) xs
  twice p q [] = refl
  twice p q (x ∷ xs) = by (twice p q xs) (q x)
    where
      by : filter p (filter q xs) ≡ filter (λ y. q y && p y) xs → (b : Bool) → filter p (if b then x ∷ filter q xs else filter q xs) ≡ (if (b && p x) then x ∷ filter (λ y. q y && p y) xs else filter (λ y. q y && p y) xs)
      by more true = ap (λ ys. if p x then x ∷ ys else ys) more
      by more false = more

  movable_by : (u : Thread) → thread_named S.threads u.name ≡ Some u → is_movable S u.name ≡ is_active u.mode
  movable_by u f = ap (λ o. is_some (active_code o)) f ∙ moves_by u

  stands_by : (u : Thread) → thread_named S.threads u.name ≡ Some u → stands_at S u.name ≡ u.code
  stands_by u f = ap code_in f

  module _ (distinct : are_distinct (names S.threads) ≡ true) where
    pub others_are : (these : List Name) → others these S ≡ passing (λ u. is_active u.mode && not (is_among these u.name)) S.threads
    others_are these =
        twice (λ t. not (is_among these t)) (is_movable S) (thread_names S)
        ∙ passed (λ u. is_active u.mode && not (is_among these u.name)) (λ t. is_movable S t && not (is_among these t)) S.threads (are_found S.threads distinct) (λ u f. ap (λ b. b && not (is_among these u.name)) (movable_by u f))

    pub candidates_are : (these : List Name) (p : Name → Bool) → filter p (others these S) ≡ passing (λ u. is_active u.mode && not (is_among these u.name) && p u.name) S.threads
    candidates_are these p =
        ap (filter p) (twice (λ t. not (is_among these t)) (is_movable S) (thread_names S)) ∙ twice p (λ t. is_movable S t && not (is_among these t)) (thread_names S)
        ∙ passed (λ u. is_active u.mode && not (is_among these u.name) && p u.name) (λ t. is_movable S t && not (is_among these t) && p t) S.threads (are_found S.threads distinct) (λ u f. ap (λ b. b && not (is_among these u.name) && p u.name) (movable_by u f))

    pub resting_are : resting S ≡ passing (λ u. not (is_active u.mode) && not (same_code u.code done)) S.threads
    resting_are =
        passed (λ u. not (is_active u.mode) && not (same_code u.code done)) (λ s. not (is_movable S s) && has_code S s) S.threads (are_found S.threads distinct) (λ u f i. not (movable_by u f i) && not (same_code (stands_by u f i) done))

    pub threads_are : (s : Name) → threads_at S s ≡ passing (λ u. is_active u.mode && is_some (for_of s u.code)) S.threads
    threads_are s =
        twice (λ u. is_some (for_of s (stands_at S u))) (is_movable S) (thread_names S)
        ∙ passed (λ u. is_active u.mode && is_some (for_of s u.code)) (λ t. is_movable S t && is_some (for_of s (stands_at S t))) S.threads (are_found S.threads distinct) (λ u f i. movable_by u f i && is_some (for_of s (stands_by u f i)))

    pub statements_are : sum_by (λ t. statements (stands_at S t)) (thread_names S) ≡ sum_by (λ u. statements u.code) S.threads
    statements_are = summed S.threads (are_found S.threads distinct) 0
      where
        summed : (ts : List Thread) → AreFound S.threads ts → (n : ℕ) → fold (λ a t. a + statements (stands_at S t)) n (names ts) ≡ fold (λ a (u : Thread). a + statements u.code) n ts
        summed [] f n = refl
        summed (u ∷ us) f n = ap (λ c. fold (λ a t. a + statements (stands_at S t)) (n + statements c) (names us)) (stands_by u f.0) ∙ summed us f.1 (n + statements u.code)

-- ---- threads gone through one by one

-- one more thread is looked at
pub one_more : (p : Thread → Bool) (before after : List Name) (d : Thread) (rest : List Thread) (b : Bool) → b ≡ p d → after ≡ (if b then before ++ d.name ∷ [] else before) →
    after ++ passing p rest ≡ before ++ passing p (d ∷ rest)
one_more p before after d rest true e f = ap (λ ns. ns ++ passing p rest) f ∙ append_snoc before d.name (passing p rest) ∙ ap (λ (b : Bool). before ++ map (λ (v : Thread). v.name) (if b then d ∷ filter p rest else filter p rest)) e
one_more p before after d rest false e f = ap (λ ns. ns ++ passing p rest) f ∙ ap (λ (b : Bool). before ++ map (λ (v : Thread). v.name) (if b then d ∷ filter p rest else filter p rest)) e

-- the thread that comes next is the first of those that are left
pub next_of : {X Y : Type 0} (F : List X → Y) (xs : List X) (i : ℕ) (d : X) → i < length xs → d ≡ get_or xs i d → F (drop i xs) ≡ F (d ∷ drop (i + 1) xs)
next_of F xs i d h e = at_drop_more F xs i d h ∙ ap (λ z. F (z ∷ drop (i + 1) xs)) (sym e)

-- none is left
pub none_left : (p : Thread → Bool) (all before : List Name) (ts : List Thread) (i : ℕ) → length ts ≤ i → before ++ passing p (drop i ts) ≡ all → before ≡ all
none_left p all before ts i h e = sym (append-nil before) ∙ sym (at_drop_all (λ us. before ++ passing p us) ts i h) ∙ e

-- a sum that begins lower is no greater
pub fold_less : (ts : List Thread) (a b : ℕ) → a ≤ b → fold (λ n (u : Thread). n + statements u.code) a ts ≤ fold (λ n (u : Thread). n + statements u.code) b ts
fold_less [] a b h = h
fold_less (u ∷ us) a b h = fold_less us (a + statements u.code) (b + statements u.code) (omega (arith, h))
